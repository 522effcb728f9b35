use Rattle.std.proofs.Common.{◌≡◌, ◌++◌, List, All, length}
use Rattle.esr_session.specs.Receipts.{IsReceipt, Receipt}
use Rattle.esr_session.proofs.Calls.{AreFree}
use Rattle.esr_session.proofs.source.step_several.Given as goal

-- the receipts so far are as many as the turns; before the first turn the asker is as it was
abbrev pub invariant-loop-count : goal.invariant-loop-count
invariant-loop-count g l =
    ((more : List Receipt)
    × (l.pocket ≡ l.fn.pocket ++ more)
    × (length more ≡ l.count)
    × All (IsReceipt g.M.Metric.distance_by g.N.Naming.opening g.N.Naming.weights) more)
    × ((first : _) → g.A.EventSource.Became first l.fn.pocket l.fn.source → g.A.EventSource.Became first l.pocket l.source)
    × (l.count ≡ 0 → l.source ≡ l.fn.source)
    × ((more : List Receipt) × (l.pocket ≡ l.fn.pocket ++ more) × (length more ≡ l.count) × AreFree more)
