use Rattle.std.proofs.Common.{◌≡◌, ◌++◌, flat_map}
use Rattle.std.specs.List.{range_with_len}
use Rattle.esr_explore.specs.Report.{block_line}
use Rattle.esr_explore.proofs.report.push_blocks.Given as goal

-- the lines of the blocks so far are appended
abbrev pub invariant-loop-block : goal.invariant-loop-block
invariant-loop-block l = l.out.items ≡ l.initial.out.items ++ flat_map (block_line l.summaries) (range_with_len 0 l.block)
