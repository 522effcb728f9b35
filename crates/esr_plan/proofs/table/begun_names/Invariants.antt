use Rattle.std.proofs.Common.{◌≡◌, ◌≤◌, [], length, drop, map, replicate, flat_map}
use Rattle.esr_history.specs.BackLinks.{begun_count}
use Rattle.esr_plan.specs.Calls.{all_answers}
use Rattle.esr_plan.specs.Tables.{names_in, noted}
use Rattle.esr_plan.proofs.table.begun_names.Given as goal

-- the names of the blocks from i on were taken down
abbrev pub invariant-loop-i : goal.invariant-loop-i
invariant-loop-i l =
    (l.i ≤ length l.blocks)
    × (names_in l.table ≡ noted (flat_map (λ b. b) (all_answers (drop l.i (map (λ b. b.items) l.blocks)) (drop l.i (map (λ r. r.items) l.replies)))) (replicate (begun_count l.history.schedule.entries) []))

abbrev pub decreases-loop-i : goal.decreases-loop-i
decreases-loop-i l = l.i
