use Rattle.std.proofs.Common.{ℕ, ◌<◌, ◌≤◌, length, get_or}
use Rattle.esr_locks.proofs.ascending_list.scan.Given as goal

abbrev pub invariant-loop-end : goal.invariant-loop-end
invariant-loop-end g l = record {
  in_range : l.end ≤ length l.elements;
  above : (j : ℕ) (d : g.row.R.Denot) → l.end ≤ j → j < length l.elements → l.t.0 < g.R.Numbered.number (get_or l.elements j d);
}

abbrev pub decreases-loop-end : goal.decreases-loop-end
decreases-loop-end g l = l.end
