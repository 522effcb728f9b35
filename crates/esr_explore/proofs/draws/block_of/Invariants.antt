use Rattle.std.proofs.Common.{◌≡◌, ◌+◌, sum, take}
use Rattle.esr_explore.proofs.draws.block_of.Given as goal

-- the lines of the blocks so far have been counted off
abbrev pub invariant-loop-block : goal.invariant-loop-block
invariant-loop-block l = l.line + sum (take l.block l.left) ≡ l.fn.line
