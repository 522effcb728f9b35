use Rattle.std.proofs.Common.{◌≡◌, ◌≤◌, ◌<◌, ℕ, [], length, map, slice_index_or}
use Rattle.esr_explore.specs.Turns.{no_progress}
use Rattle.esr_explore.proofs.run.find_unfinished.Given as goal

-- the blocks so far have no line left
abbrev pub invariant-loop-block : goal.invariant-loop-block
invariant-loop-block l =
    (k : ℕ) → l.from ≤ k → k < l.block
    → length (slice_index_or l.all_progress k no_progress).replies ≡ length (slice_index_or (map (λ b. b.items) l.blocks) k [])
