use Rattle.std.proofs.Common.{◌≡◌, ◌+◌, ◌-◌, ◌∙◌, sym, ap, set, Some, nat_lt}
use Rattle.std.proofs.lemmas.Bool.{lt-ltb, le-ltb}
use Rattle.esr_history.specs.Ascending.{IsPlaceOf}
use Rattle.esr_history.proofs.Ascending.{found_at}
use Rattle.esr_ledgers.specs.Books.{number, account_of, would_pass, Account}
use Rattle.esr_ledgers.proofs.Books.{raised_at, found_within, more_than_left}
use Rattle.esr_ledgers.proofs.account.passes_or_raises.Goals as goal
use Rattle.esr_ledgers.proofs.account.passes_or_raises.Goals.{After-index_mut-account}

place : (c : After-index_mut-account) → IsPlaceOf number c.args.accounts.now.items c.args.t.0 c.index_of-at.result
place c = rw (← c.deref.ensures.value) c.index_of-at.ensures

found : (c : After-index_mut-account) → account_of c.args.accounts.now.items c.args.t.0 ≡ Some c.index_mut-account.result.now
found c = found_at number c.args.t.0 c.index_of-at.result c.args.accounts.now.items c.index_mut-account.result.now c.requires.ascending (place c) ∙ ap Some (sym c.index_mut-account.ensures.value)

is : (c : After-index_mut-account) → nat_lt (c.index_mut-account.result.now.limit - c.index_mut-account.result.now.amount) c.args.amount ≡ would_pass c.args.accounts.now.items c.args.t.0 c.args.amount
is c =
    let a = c.index_mut-account.result.now in
    rw (found c) (more_than_left a.amount a.limit c.args.amount (found_within c.args.t.0 c.args.accounts.now.items a c.requires.within (found c)))

pub returns-then-amount-from-clause-passes : goal.returns-then-amount-from-clause-passes
returns-then-amount-from-clause-passes c =
    let w : After-index_mut-account = (goal.at.returns-then-amount-from-clause-passes c).After-index_mut-account in
    let a = c.index_mut-account.result.now in
    sym (lt-ltb (a.limit - a.amount) c.args.amount (rw c.from.ensures at c.if-amount-from.true)) ∙ is w

pub returns-clause-passes : goal.returns-clause-passes
returns-clause-passes c =
    let w : After-index_mut-account = (goal.at.returns-clause-passes c).After-index_mut-account in
    let a = c.index_mut-account.result.now in
    sym (le-ltb (a.limit - a.amount) c.args.amount (rw c.from.ensures at c.if-amount-from.false)) ∙ is w

pub returns-clause-items : goal.returns-clause-items
returns-clause-items c =
    let w : After-index_mut-account = (goal.at.returns-clause-items c).After-index_mut-account in
    ap (λ (a : Account). set c.args.accounts.now.items c.index_of-at.result (record a { amount = a.amount + c.args.amount })) c.index_mut-account.ensures.value
    ∙ raised_at c.args.t.0 c.args.amount c.args.accounts.now.items c.index_of-at.result c.index_mut-account.result.now c.requires.ascending (place w)
