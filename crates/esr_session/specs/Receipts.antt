-- Receipts of answered calls, and lists of receipts that match a history.
use Rattle.std.specs.Prelude.{◌≡◌, ℕ, ◌+◌, ◌<◌, ◌≤◌, ◌==◌, Bool, true, false, List, [], ◌∷◌, ◌++◌, length, slice_get, get_or, count_by, All, Some, Result, Ok, Err, ℤ, flat_map, sum_by}
use Rattle.esr_history.specs.Machine.{DistanceFunction, IsLegal, schedule_of}
use Rattle.esr_history.specs.declared.event.Event.{Event}
use Rattle.esr_history.specs.declared.event.Reply.{Reply}
use Rattle.esr_history.specs.declared.event.Reply.TheVariants.{Begun, Value, Wrote, Committed, Aborted, Refused}
use Rattle.esr_history.specs.declared.event.Refusal.{Refusal}
use Rattle.esr_history.specs.declared.event.Refusal.TheVariants.{BlockedByLock, BlockedByImport, BlockedByExport}
use Rattle.esr_history.specs.declared.event.Entry.{Entry}
pub use Rattle.esr_session.specs.declared.receipt.Receipt.{Receipt}
use Rattle.esr_session.specs.declared.receipt.CloseError.{CloseError}
use Rattle.esr_session.specs.declared.receipt.CloseError.TheVariants.{SessionMissing, ForeignReceipt, NoMemory}

abbrev pub entry_of : Receipt → Entry
entry_of r = record { event = r.event; reply = r.reply }

abbrev pub receipt : ℕ → Event → Reply → Receipt
receipt place event reply = record { at = place; event = event; reply = reply }

-- some legal history of these opening values and this metric has its last entry at the receipt's place,
-- and that entry is the receipt's
abbrev pub IsReceipt : DistanceFunction → List ℤ → List ℕ → Receipt → Type 0
IsReceipt d opening weights r =
    (before : List Entry) × (length before ≡ r.at) × IsLegal d (schedule_of opening weights (before ++ entry_of r ∷ []))

-- the receipts of all lists, in order
abbrev pub receipts_in : List (List Receipt) → List Receipt
receipts_in lists = flat_map (λ rs. rs) lists

-- how many receipts there are
abbrev pub count_in : List (List Receipt) → ℕ
count_in lists = sum_by length lists

-- how many receipts have the place
abbrev pub count_at : ℕ → List Receipt → ℕ
count_at place rs = count_by (λ r. r.at == place) rs

-- the receipt names an entry of the history
abbrev pub Names : List Entry → Receipt → Type 0
Names entries r = slice_get entries r.at ≡ Some (entry_of r)

-- each place is above the one before it, and the first is not below `low`
abbrev pub RisesFrom : ℕ → List Receipt → Type 0
RisesFrom low [] = Unit {0}
RisesFrom low (r ∷ rs) = (low ≤ r.at) × RisesFrom (r.at + 1) rs

-- each receipt names an entry, each entry is named by exactly one receipt, and within each list the places rise
pub record Matches (entries : List Entry) (lists : List (List Receipt)) : Type 0 where
  pub named : All (Names entries) (receipts_in lists)
  pub once : (place : ℕ) → place < length entries → count_at place (receipts_in lists) ≡ 1
  pub rising : All (RisesFrom 0) lists

-- the receipt names an entry, at a place not below `low` that no earlier receipt has
abbrev pub IsValidReceipt : List Entry → List Receipt → ℕ → Receipt → Type 0
IsValidReceipt entries earlier low r = Names entries r × (low ≤ r.at) × (count_at r.at earlier ≡ 0)

-- the place that the next receipt of a list may not be below
abbrev pub next_place : ℕ → List Receipt → ℕ
next_place low [] = low
next_place low (r ∷ rs) = next_place (r.at + 1) rs

-- each receipt of a list is good, after those of earlier lists
abbrev pub ValidFrom : List Entry → List Receipt → ℕ → List Receipt → Type 0
ValidFrom entries earlier low [] = Unit {0}
ValidFrom entries earlier low (r ∷ rs) = IsValidReceipt entries earlier low r × ValidFrom entries earlier (r.at + 1) rs

-- each receipt of each list is good
abbrev pub AllValid : List Entry → List Receipt → List (List Receipt) → Type 0
AllValid entries earlier [] = Unit {0}
AllValid entries earlier (rs ∷ lists) = ValidFrom entries earlier 0 rs × AllValid entries (earlier ++ rs) lists

-- the first receipt of a list that is not good
pub record IsForeignIn (entries : List Entry) (earlier : List Receipt) (list : List Receipt)
    (r : Receipt) : Type 0 where
  pub good : List Receipt
  pub rest : List Receipt
  pub parts : list ≡ good ++ r ∷ rest
  pub before : ValidFrom entries earlier 0 good
  pub bad : ¬ IsValidReceipt entries earlier (next_place 0 good) r

-- the first receipt of all lists that is not good
pub record IsFirstForeign (entries : List Entry) (lists : List (List Receipt)) (r : Receipt) : Type 0 where
  pub done : List (List Receipt)
  pub list : List Receipt
  pub later : List (List Receipt)
  pub parts : lists ≡ done ++ list ∷ later
  pub before : AllValid entries [] done
  pub foreign : IsForeignIn entries (receipts_in done) list r

-- the result of comparing receipts with a history
abbrev pub IsVerdict : List Entry → List (List Receipt) → Result (Unit {0}) CloseError → Type 0
IsVerdict entries lists (Ok _) = Matches entries lists
IsVerdict entries lists (Err (SessionMissing gathered total)) =
    (gathered ≡ count_in lists) × (total ≡ length entries) × (gathered < total)
IsVerdict entries lists (Err (ForeignReceipt r)) = (length entries ≤ count_in lists) × IsFirstForeign entries lists r
IsVerdict entries lists (Err NoMemory) = length entries ≤ count_in lists

-- the refusals that may turn into other replies when the event is retried
abbrev pub is_block : Refusal → Bool
is_block (BlockedByLock holder) = true
is_block (BlockedByImport query) = true
is_block (BlockedByExport update) = true
is_block _ = false

abbrev pub is_blocked : Reply → Bool
is_blocked (Begun number) = false
is_blocked (Value value) = false
is_blocked Wrote = false
is_blocked Committed = false
is_blocked Aborted = false
is_blocked (Refused why) = is_block why

-- receipts of calls with this event that were all blocked
abbrev pub AreBlocked : DistanceFunction → List ℤ → List ℕ → Event → List Receipt → Type 0
AreBlocked d opening weights event rs =
    All (λ r. (r.event ≡ event) × IsReceipt d opening weights r × (is_blocked r.reply ≡ true)) rs

-- receipts of which the last is that of a blocked event
abbrev pub EndsBlocked : List Receipt → Type 0
EndsBlocked rs = (early : List Receipt) × (r : Receipt) × (rs ≡ early ++ r ∷ []) × (is_blocked r.reply ≡ true)

-- receipts of which only the last may be that of a blocked event
abbrev pub BlockedOnlyLast : List Receipt → Type 0
BlockedOnlyLast rs = (i : ℕ) (d : Receipt) → i + 1 < length rs → is_blocked (get_or rs i d).reply ≡ false
