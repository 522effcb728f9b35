use Rattle.std.proofs.Common.{arith, rules, ◌∙◌, sym, ap, ℕ, get_or}
use Rattle.std.proofs.lemmas.Grind.{common_steps}
use Rattle.esr_base.specs.declared.numbers.TxnId.{TxnId}
use Rattle.esr_ledgers.specs.Books.{would_pass}
use Rattle.esr_ledgers.proofs.Finds.{find_first, find_none_more}
use Rattle.esr_ledgers.proofs.ledgers.total_within.Goals as goal

pub returns-then-passes-clause-over : goal.returns-then-passes-clause-over
returns-then-passes-clause-over c =
    find_first (λ (b : TxnId × ℕ). would_pass c.args.accounts.now b.0.0 b.1) c.args.charges.now c.loop-charge.charge-index (record { 0 = 0 }, 0) c.loop-charge-test.true c.loop-charge.invariant.none_over (sym (c.passes.ensures ∙ ap (λ n. would_pass c.args.accounts.now (get_or c.args.charges.now c.loop-charge.charge-index (record { 0 = 0 }, 0)).0.0 n) c.from.ensures) ∙ c.if-passes.true)

pub loop-charge-preserved : goal.loop-charge-preserved
loop-charge-preserved c = record {
  none_over = find_none_more (λ (b : TxnId × ℕ). would_pass c.args.accounts.now b.0.0 b.1) c.args.charges.now c.loop-charge.charge-index (record { 0 = 0 }, 0) c.loop-charge-test.true c.loop-charge.invariant.none_over (sym (c.passes.ensures ∙ ap (λ n. would_pass c.args.accounts.now (get_or c.args.charges.now c.loop-charge.charge-index (record { 0 = 0 }, 0)).0.0 n) c.from.ensures) ∙ c.if-passes.false);
  sum = grind (arith, common_steps);
  upper_bound = search rules;
}
