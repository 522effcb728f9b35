use Rattle.std.proofs.Common.{◌≡◌, length, map, take}
use Rattle.esr_explore.proofs.ways.line_counts.Given as goal

abbrev pub invariant-loop-block : goal.invariant-loop-block
invariant-loop-block l = l.counts.items ≡ map (λ b. length b.items) (take l.block-index l.blocks)
