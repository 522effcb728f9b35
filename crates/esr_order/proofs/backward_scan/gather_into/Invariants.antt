use Rattle.std.proofs.Common.{◌≡◌, length, map}
use Rattle.esr_order.specs.Chains.{links_view}
use Rattle.esr_order.proofs.Gathering.{IsGathered}
use Rattle.esr_order.proofs.backward_scan.gather_into.Given as goal

-- the state for the updates from the position on
abbrev pub invariant-loop-i : goal.invariant-loop-i
invariant-loop-i g l = (length l.chains ≡ length l.history.schedule.opening) × (length l.readers ≡ length l.history.schedule.opening)
    × IsGathered l.history.schedule l.updates l.i (map links_view l.chains) (map (λ r. r.items) l.readers) l.pairs.items
