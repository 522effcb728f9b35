use Rattle.std.proofs.Common.{◌≡◌, ◌-◌, take, sum_by}
use Rattle.esr_items.specs.Weights.{weighted}
use Rattle.esr_engine.specs.Accounts.{charged_to}
use Rattle.esr_engine.specs.Carrying.{open_amount}
use Rattle.esr_engine.proofs.engine.EmbeddedEngine.settled.Given as goal

abbrev pub invariant-loop-i : goal.invariant-loop-i
invariant-loop-i l =
    l.settled ≡ charged_to weighted l.self l.t.query l.t.txn.0 - sum_by (open_amount weighted l.self l.t.query l.t.txn.0) (take l.i l.operations)
