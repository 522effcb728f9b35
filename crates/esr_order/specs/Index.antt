-- The contents of an index of a history.
use Rattle.std.specs.Prelude.{◌≡◌, ◌≤◌, ℕ, List, length, take, filter_map}
use Rattle.esr_base.specs.declared.numbers.TxnId.{TxnId}
use Rattle.esr_history.specs.declared.event.Entry.{Entry}
use Rattle.esr_order.specs.Scans.{Access, commit_in}
use Rattle.esr_order.specs.AccessRows.{AreRowsOf}

-- the number of entries read, the transactions that committed in them, and the accesses of the updates among these
pub record Indexed : Type 0 where
  pub read : ℕ
  pub commits : List TxnId
  pub rows : List (List Access)

-- they are the first of these entries
pub record IsIndexOf (entries : List Entry) (i : Indexed) : Type 0 where
  pub count_within_max : i.read ≤ length entries
  pub commits : i.commits ≡ filter_map commit_in (take i.read entries)
  pub rows : AreRowsOf (take i.read entries) i.rows

-- and all of these entries
abbrev pub IsWholeIndexOf : List Entry → Indexed → Type 0
IsWholeIndexOf entries i = IsIndexOf entries i × (i.read ≡ length entries)
