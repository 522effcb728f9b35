-- Rows of transactions' accesses, by transaction number.
use Rattle.std.specs.Prelude.{◌≡◌, ◌≤◌, ◌⊎◌, ◌-◌, ℕ, IsTrue, List, [], take, drop, slice_index_or}
use Rattle.esr_history.specs.declared.event.Entry.{Entry}
use Rattle.esr_history.specs.Events.{accepted, is_committed}
use Rattle.esr_order.specs.Scans.{Access, accesses_in}
use Rattle.esr_order.specs.declared.rows.RowSpan.{RowSpan}

-- the bounds of a row, in a list of n accesses
pub record IsWithin (n : ℕ) (span : RowSpan) : Type 0 where
  pub ordered : span.begin ≤ span.end
  pub inside : span.end ≤ n

-- the accesses in these bounds
abbrev pub row_in : List Access → RowSpan → List Access
row_in accesses span = take (span.end - span.begin) (drop span.begin accesses)

-- the row of transaction t, empty if there is none
abbrev pub row_at : List (List Access) → ℕ → List Access
row_at rows t = slice_index_or rows t []

-- Each row that there is has all that its transaction did, which has committed: so no later entry adds to it.
abbrev pub AreRowsOf : List Entry → List (List Access) → Type 0
AreRowsOf entries rows =
    (t : ℕ) → (row_at rows t ≡ []) ⊎ (IsTrue (is_committed (accepted entries) t) × (row_at rows t ≡ accesses_in entries t))
