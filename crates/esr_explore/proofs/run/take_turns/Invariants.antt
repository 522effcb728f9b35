use Rattle.std.proofs.Common.{◌≡◌, length, map, take}
use Rattle.esr_explore.specs.Turns.{run_state, after_turns}
use Rattle.esr_explore.proofs.run.take_turns.Given as goal

-- the blocks took the turns so far
abbrev pub invariant-loop-block : goal.invariant-loop-block
invariant-loop-block l =
    (length l.all_progress.items ≡ length l.initial.all_progress.items)
    × (run_state l.machine l.all_progress.items ≡ after_turns (map (λ b. b.items) l.blocks) (run_state l.initial.machine l.initial.all_progress.items) (take l.block-index l.order))
