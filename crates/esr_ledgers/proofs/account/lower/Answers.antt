use Rattle.std.proofs.Common.{◌≡◌, ◌≤◌, ◌-◌, ◌∙◌, sym, ap, arith, set, Option, Some, unwrap_or, option_map}
use Rattle.esr_history.specs.Ascending.{IsPlaceOf}
use Rattle.esr_history.proofs.Ascending.{found_at}
use Rattle.esr_ledgers.specs.Books.{number, account_of, account_amount, Account}
use Rattle.esr_ledgers.proofs.Books.{lowered_at}
use Rattle.esr_ledgers.proofs.account.lower.Goals as goal
use Rattle.esr_ledgers.proofs.account.lower.Goals.{After-index_mut-account}

place : (c : After-index_mut-account) → IsPlaceOf number c.args.accounts.now.items c.args.t.0 c.index_of-at.result
place c = rw (← c.deref.ensures.value) c.index_of-at.ensures

pub overflow_sub-account : goal.overflow_sub-account
overflow_sub-account c =
    let w : After-index_mut-account = (goal.at.overflow_sub-account c).After-index_mut-account in
    let found : account_of c.args.accounts.now.items c.args.t.0 ≡ Some c.index_mut-account.result.now =
    found_at number c.args.t.0 c.index_of-at.result c.args.accounts.now.items c.index_mut-account.result.now c.requires.ascending (place w) ∙ ap Some (sym c.index_mut-account.ensures.value) in
    let is : account_amount c.args.accounts.now.items c.args.t.0 ≡ c.index_mut-account.result.now.amount = ap (λ (a : Option Account). unwrap_or (option_map (λ (b : Account). b.amount) a) 0) found in
    let enough : c.args.amount ≤ account_amount c.args.accounts.now.items c.args.t.0 = c.requires.enough in
    omega (arith, is, enough)

pub returns : goal.returns
returns c =
    let w : After-index_mut-account = (goal.at.returns c).After-index_mut-account in
    ap (λ (a : Account). set c.args.accounts.now.items c.index_of-at.result (record a { amount = a.amount - c.args.amount })) c.index_mut-account.ensures.value
    ∙ lowered_at c.args.t.0 c.args.amount c.args.accounts.now.items c.index_of-at.result c.index_mut-account.result.now c.requires.ascending (place w)
