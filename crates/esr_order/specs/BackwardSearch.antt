-- The state of a backward search from a query: the items that the query and the relevant updates read, and those that these
-- updates wrote.
use Rattle.std.specs.Prelude.{ℕ, Bool, false, not, ◌&&◌, ◌||◌, ◌==◌, List, slice_index_or, if◌then◌else◌}
use Rattle.esr_order.specs.Scans.{Access}
use Rattle.esr_order.specs.declared.search.Items.{Items}

abbrev pub marked : List Bool → ℕ → Bool
marked marks i = slice_index_or marks i false

-- an access is a write of item x (writes is true), or a read of item x (writes is false)
abbrev pub is_access : Bool → ℕ → Access → Bool
is_access writes x a = (if writes then a.writes else not a.writes) && (a.item.0 == x)

-- the items that were read, and those that were written, by number
pub record Seen : Type 0 where
  pub read : List Bool
  pub written : List Bool

abbrev pub seen_items : Items → Seen
seen_items i = record { read = i.read.items; written = i.written.items }

-- whether an access conflicts with one that has been seen: of one item, and one of the two writes
abbrev pub conflicts_with : Seen → Access → Bool
conflicts_with s a = marked s.written a.item.0 || (a.writes && marked s.read a.item.0)
