use Rattle.std.proofs.Common.{◌≡◌, ◌<◌, ◌≤◌, List, [], ◌∷◌, ◌++◌, length}
use Rattle.std.specs.List.{insert}
use Rattle.esr_locks.proofs.ascending_list.move_last.Given as goal

abbrev pub invariant-loop-place : goal.invariant-loop-place
invariant-loop-place g l = record {
  in_range : l.place < length l.stored;
  above : l.at ≤ l.place;
  items : (xs : List g.row.R.Denot) → l.fn.stored ≡ xs ++ l.element ∷ [] → l.stored ≡ insert xs l.place l.element;
}

abbrev pub decreases-loop-place : goal.decreases-loop-place
decreases-loop-place g l = l.place
