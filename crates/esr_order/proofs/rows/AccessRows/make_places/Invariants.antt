use Rattle.std.proofs.Common.{◌≡◌, ◌+◌, ◌-◌, ℕ, All, length, map}
use Rattle.esr_order.specs.AccessRows.{IsWithin, row_in, row_at}
use Rattle.esr_order.proofs.rows.AccessRows.make_places.Given as goal

-- the rows are the same
abbrev pub invariant-loop-self : goal.invariant-loop-self
invariant-loop-self l = All (IsWithin (length l.self-inside.accesses.items)) l.self-inside.spans.items
    × ((u : ℕ) → row_at (map (row_in l.self-inside.accesses.items) l.self-inside.spans.items) u ≡ row_at l.fn.self u)

abbrev pub decreases-loop-self : goal.decreases-loop-self
decreases-loop-self l = (l.last + 1) - length l.self-inside.spans.items
