use Rattle.std.proofs.Common.{◌≡◌, List, ◌++◌, drop, length, map}
use Rattle.esr_order.specs.UpdateOperations.{UpdateOperation}
use Rattle.esr_order.specs.Batches.{operation_at}
use Rattle.esr_order.specs.Chains.{links_view}
use Rattle.esr_order.specs.Later.{batch_conflicts, SummarizeLater}
use Rattle.esr_order.proofs.backward_scan.prepend_batch.Given as goal

-- the chains and readers with the accesses so far, and the conflicts found for these
abbrev pub invariant-loop-i : goal.invariant-loop-i
invariant-loop-i l = (length l.chains ≡ length l.fn.chains) × (length l.readers ≡ length l.fn.readers)
    × ((steps : List UpdateOperation) → SummarizeLater (map links_view l.fn.chains) (map (λ r. r.items) l.fn.readers) steps
    → SummarizeLater (map links_view l.chains) (map (λ r. r.items) l.readers) (map (operation_at l.position) (drop l.i l.accesses) ++ steps)
    × (l.conflicts.items ≡ l.fn.conflicts.items ++ batch_conflicts (map (operation_at l.position) (drop l.i l.accesses)) steps))
