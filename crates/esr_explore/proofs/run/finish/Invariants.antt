use Rattle.std.proofs.Common.{◌≡◌, ℕ, List, length, map}
use Rattle.esr_explore.specs.Turns.{run_state, after_turns}
use Rattle.esr_explore.proofs.run.finish.Given as goal

-- the blocks took some turns
abbrev pub invariant-loop-turn : goal.invariant-loop-turn
invariant-loop-turn l =
    (length l.all_progress.items ≡ length l.blocks)
    × ((rest : List ℕ) × (run_state l.machine l.all_progress.items ≡ after_turns (map (λ b. b.items) l.blocks) (run_state l.initial.machine l.initial.all_progress.items) rest))
