-- The accesses of the marked updates from a position on, by item.
use Rattle.std.specs.Prelude.{◌≡◌, ◌≤◌, ◌<◌, ◌||◌, ℕ, Bool, true, false, List, length}
use Rattle.std.specs.List.{list_any}
use Rattle.esr_history.specs.Machine.{Schedule}
use Rattle.esr_history.specs.Queries.{updates_committed_before}
use Rattle.esr_order.specs.declared.accesses.Access.{Access}
use Rattle.esr_order.specs.Chains.{nth}
use Rattle.esr_order.specs.Scans.{accesses_in}
use Rattle.esr_order.specs.BackwardSearch.{Seen, is_access, marked}
use Rattle.esr_bound.specs.Amounts.{mark_at}
use Rattle.esr_stream.specs.declared.closing.Later.{Later}

abbrev pub seen_later : Later → Seen
seen_later l = record { read = l.read.items; written = l.written.items }

-- the items of these accesses are added
pub record IsAdded (row : List Access) (old new : Seen) : Type 0 where
  pub read : (x : ℕ) → marked new.read x ≡ (marked old.read x || list_any (is_access false x) row)
  pub written : (x : ℕ) → marked new.written x ≡ (marked old.written x || list_any (is_access true x) row)

-- whether transaction t wrote item x, or read it
abbrev pub has_access : Schedule → Bool → ℕ → ℕ → Bool
has_access h writes x t = list_any (is_access writes x) (accesses_in h.entries t)

-- the flag of an item is set if and only if a marked update from position k on has an access of this kind to it
pub record IsFlag (h : Schedule) (q k : ℕ) (marks : List Bool) (x : ℕ) (writes flag : Bool) : Type 0 where
  pub set : flag ≡ true → (j : ℕ) × (k ≤ j) × (j < length (updates_committed_before h q)) × (mark_at marks j ≡ true) × (has_access h writes x (nth (updates_committed_before h q) j) ≡ true)
  pub all : (j : ℕ) → k ≤ j → j < length (updates_committed_before h q) → mark_at marks j ≡ true → has_access h writes x (nth (updates_committed_before h q) j) ≡ true → flag ≡ true

-- the flags of all items
pub record SummarizeLater (h : Schedule) (q k : ℕ) (marks : List Bool) (s : Seen) : Type 0 where
  pub read : (x : ℕ) → IsFlag h q k marks x false (marked s.read x)
  pub written : (x : ℕ) → IsFlag h q k marks x true (marked s.written x)
