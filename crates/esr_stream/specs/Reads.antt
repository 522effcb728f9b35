-- The values that a query read, by item, and the cost of a version of an item.
use Rattle.std.specs.Prelude.{◌≤◌, ◌+◌, ◌==◌, ◌&&◌, ℕ, ℤ, not, List, Vec, All, filter, length, map}
use Rattle.std.specs.declared.alloc.Global.{Global}
use Rattle.esr_base.specs.declared.limits.TheConstants.{MAX_READS}
use Rattle.esr_items.specs.Values.{IsValue}
use Rattle.esr_order.specs.declared.accesses.Access.{Access}
pub use Rattle.esr_order.specs.ReadValues.{list_at, distance_sum}
use Rattle.esr_stream.specs.declared.reads.TheConstants.{OFFSET}

-- the values that these accesses read of item x
abbrev pub values_of : List Access → ℕ → List ℤ
values_of row x = map (λ a. a.value) (filter (λ a. not a.writes && (a.item.0 == x)) row)

-- the cost of version v of item x if these are the values read, plus the offset
abbrev pub offset_cost : (ℕ → ℤ → ℤ → ℕ) → List (Vec ℤ Global) → ℕ → ℤ → ℕ
offset_cost D values_read x v = distance_sum D x (list_at values_read x) v + OFFSET

-- a query can have read these values: each item's are not too many and in range
pub record AreReadsInRange (values_read : List (Vec ℤ Global)) : Type 0 where
  pub count_within_max : (x : ℕ) → length (list_at values_read x) ≤ MAX_READS
  pub values : (x : ℕ) → All IsValue (list_at values_read x)
