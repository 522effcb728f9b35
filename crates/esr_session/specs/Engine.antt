-- An engine as contracts see it.
use Rattle.std.specs.Prelude.{◌≡◌, ◌≤◌, ℕ, ℤ, Bool, true, false, List, Err, length}
use Rattle.esr_base.specs.declared.limits.TheConstants.{MAX_ENTRIES}
use Rattle.esr_history.specs.Machine.{DistanceFunction, Schedule, IsLegal}
use Rattle.esr_history.specs.Totals.{all_imports, all_exports}
use Rattle.esr_core.specs.declared.machine.Totals.{Totals}
use Rattle.esr_session.specs.declared.receipt.CloseError.{CloseError}
use Rattle.esr_session.specs.declared.receipt.CloseError.TheVariants.{SessionMissing, ForeignReceipt, NoMemory}
use Rattle.esr_session.specs.Receipts.{Receipt, IsVerdict}

-- how many sessions were opened
pub record Sessions : Type 0 where
  pub opened : ℕ

-- the totals are those of the history: all imports, all exports, and how many entries there are
pub record AreTotals (d : DistanceFunction) (h : Schedule) (totals : Totals) : Type 0 where
  pub import : totals.import ≡ all_imports d h
  pub export : totals.export ≡ all_exports d h
  pub entries : totals.entries ≡ length h.entries

-- A history that an engine of these opening values and weights may have, and which the receipts do not match by this error.
pub record DoNotMatch (d : DistanceFunction) (opening : List ℤ) (weights : List ℕ) (lists : List (List Receipt))
    (error : CloseError) : Type 0 where
  pub history : Schedule
  pub legal : IsLegal d history
  pub opening_is : history.opening ≡ opening
  pub weights_are : history.weights ≡ weights
  pub upper_bound : length history.entries ≤ MAX_ENTRIES
  pub verdict : IsVerdict history.entries lists (Err error)

-- The reason for a refused close, as far as it can be stated about a history that remains inside the lock.
abbrev pub IsRefusal : DistanceFunction → List ℤ → List ℕ → List (List Receipt) → CloseError → Type 0
IsRefusal d opening weights lists NoMemory = Unit {0}
IsRefusal d opening weights lists (SessionMissing gathered total) =
    DoNotMatch d opening weights lists (SessionMissing gathered total)
IsRefusal d opening weights lists (ForeignReceipt r) = DoNotMatch d opening weights lists (ForeignReceipt r)

abbrev pub is_missing : CloseError → Bool
is_missing (SessionMissing gathered total) = true
is_missing _ = false
