use Rattle.std.proofs.Common.{◌≡◌, [], length, map}
use Rattle.esr_order.specs.Chains.{links_view}
use Rattle.esr_order.specs.Later.{SummarizeLater}
use Rattle.esr_order.proofs.backward_scan.empty_scan.Given as goal

-- the items so far
abbrev pub invariant-loop-x : goal.invariant-loop-x
invariant-loop-x l = (length l.chains.items ≡ l.x) × (length l.readers.items ≡ l.x) × SummarizeLater (map links_view l.chains.items) (map (λ r. r.items) l.readers.items) []
