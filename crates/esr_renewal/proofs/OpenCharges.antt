-- The open charges of an update, entry after entry.
use Rattle.std.specs.Prelude.{ℕ, ℤ, ◌&&◌, Bool, List, if◌then◌else◌, sum_by}
use Rattle.esr_history.specs.Events.{is_query, is_active, holds_write, committed_value, current_value}
use Rattle.esr_renewal.specs.Types.{Event, Read}

-- an amount for each read whose query and item pass the test
abbrev pub amount_if : (ℕ → ℕ → Bool) → (ℕ → ℕ) → Event → ℕ
amount_if test amount (Read q x) = if test q.0 x.0 then amount x.0 else 0
amount_if test amount _ = 0

-- whether a conflict of q and u on item x is open: both are active, and u holds the write lock
abbrev pub is_open : List Event → ℕ → ℕ → ℕ → Bool
is_open events u q x = (is_query events q && is_active events q) && holds_write events u x

-- the distance of the current value of an item from its committed one
abbrev pub uncommitted_distance : (ℕ → ℤ → ℤ → ℕ) → List ℤ → List Event → ℕ → ℕ
uncommitted_distance d opening events x = d x (current_value opening events x) (committed_value opening events x)

-- the charges of u that are open
abbrev pub open_export : (ℕ → ℤ → ℤ → ℕ) → List ℤ → List Event → ℕ → ℕ
open_export d opening events u = sum_by (amount_if (is_open events u) (uncommitted_distance d opening events)) events
