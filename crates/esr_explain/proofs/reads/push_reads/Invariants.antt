use Rattle.std.proofs.Common.{◌≡◌, ◌++◌, flat_map, take}
use Rattle.esr_explain.specs.Explain.{read_line}
use Rattle.esr_explain.proofs.reads.push_reads.Given as goal

-- the lines so far
abbrev pub invariant-loop-read : goal.invariant-loop-read
invariant-loop-read l = l.out.items ≡ l.initial.out.items ++ flat_map (read_line l.items) (take l.read-index l.reads)
