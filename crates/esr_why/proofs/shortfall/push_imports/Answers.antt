use Rattle.std.proofs.Common.{ℕ, arith}
use Rattle.esr_base.specs.declared.numbers.TxnId.{TxnId}
use Rattle.esr_items.specs.Weights.{weighted}
use Rattle.esr_why.specs.Shortfalls.{import_lack}
use Rattle.esr_why.proofs.Amounts.{lacks_more}
use Rattle.esr_why.proofs.shortfall.push_imports.Goals as goal

pub loop-charge-preserved : goal.loop-charge-preserved
loop-charge-preserved c =
    lacks_more (λ (g : TxnId × ℕ). import_lack weighted c.args.machine.now g.0.0 g.1) c.args.charges.now c.loop-charge.charge-index (record { 0 = 0 }, 0) c.args.found.now.items c.loop-charge.found.items c.push_if.new.found.items c.import_lack.result
    (omega arith) c.loop-charge.invariant c.import_lack.ensures c.in_ok-push_if.ensures
