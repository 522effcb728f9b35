use Rattle.std.proofs.Common.{◌≡◌, map}
use Rattle.std.specs.List.{range_with_len}
use Rattle.esr_explore.specs.Turns.{no_progress}
use Rattle.esr_explore.proofs.run.new_progress.Given as goal

abbrev pub invariant-loop-block : goal.invariant-loop-block
invariant-loop-block l = l.all_progress.items ≡ map (λ _. no_progress) (range_with_len 0 l._block)
