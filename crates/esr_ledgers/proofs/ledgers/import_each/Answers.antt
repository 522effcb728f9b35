use Rattle.std.proofs.Common.{rules, arith, ◌≡◌, ◌+◌, ◌<◌, ◌^◌, ◌∙◌, subst, sym, ap, ℕ, get_or, take, Option, unwrap_or, option_map}
use Rattle.std.proofs.lemmas.Grind.{common_steps}
use Rattle.std.proofs.lemmas.List.{take_more}
use Rattle.esr_base.specs.declared.numbers.TxnId.{TxnId}
use Rattle.esr_ledgers.specs.Books.{account_of, raised, charged_to_queries, Account}
use Rattle.esr_ledgers.proofs.Books.{account_at_turn, open_by_account, charged_to_queries-push, raised_ascends}
use Rattle.esr_ledgers.proofs.ledgers.import_each.Goals as goal

pub raise-requires-clause-open : goal.raise-requires-clause-open
raise-requires-clause-open c =
    let charge : TxnId × ℕ = get_or c.args.charges.now c.loop-charge.charge-index (record { 0 = 0 }, 0) in
    let same : account_of c.loop-charge.accounts.items charge.0.0 ≡ account_of c.args.accounts.now.items charge.0.0 =
    rw c.loop-charge.invariant.items (account_at_turn c.args.accounts.now.items c.args.charges.now c.requires.listed c.loop-charge.charge-index (record { 0 = 0 }, 0) c.loop-charge-test.true) in
    open_by_account c.args.accounts.now.items c.loop-charge.accounts.items charge.0.0 same (c.requires.queries c.loop-charge.charge-index (record { 0 = 0 }, 0) c.loop-charge-test.true)

pub raise-requires-clause-fits : goal.raise-requires-clause-fits
raise-requires-clause-fits c =
    let charge : TxnId × ℕ = get_or c.args.charges.now c.loop-charge.charge-index (record { 0 = 0 }, 0) in
    let same : account_of c.loop-charge.accounts.items charge.0.0 ≡ account_of c.args.accounts.now.items charge.0.0 =
    rw c.loop-charge.invariant.items (account_at_turn c.args.accounts.now.items c.args.charges.now c.requires.listed c.loop-charge.charge-index (record { 0 = 0 }, 0) c.loop-charge-test.true) in
    subst (λ (a : Option Account). unwrap_or (option_map (λ (e : Account). e.amount) a) 0 + charge.1 < 2 ^ 64) (sym same) (c.requires.fits c.loop-charge.charge-index (record { 0 = 0 }, 0) c.loop-charge-test.true)

pub loop-charge-preserved : goal.loop-charge-preserved
loop-charge-preserved c =
    let charge : TxnId × ℕ = get_or c.args.charges.now c.loop-charge.charge-index (record { 0 = 0 }, 0) in
    record {
      items = c.raise.ensures ∙ (ap (raised charge.0.0 charge.1) c.loop-charge.invariant.items
          ∙ (sym (charged_to_queries-push c.args.accounts.now.items (take c.loop-charge.charge-index c.args.charges.now) charge)
          ∙ ap (charged_to_queries c.args.accounts.now.items) (sym (take_more c.args.charges.now c.loop-charge.charge-index (record { 0 = 0 }, 0) c.loop-charge-test.true))));
      ascending = rw c.raise.ensures (raised_ascends charge.0.0 charge.1 c.loop-charge.accounts.items c.loop-charge.invariant.ascending);
      sum = grind (arith, common_steps);
      upper_bound = search rules;
    }
