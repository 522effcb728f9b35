-- The ledger of a script.
use Rattle.std.proofs.Common.{◌≡◌, ◌∙◌, ◌++◌, ℕ, List, ap, flat_map, IfOk, Result, Ok, Err}
use Rattle.esr_items.specs.Weights.{weighted}
use Rattle.esr_history.specs.Machine.{Schedule}
use Rattle.esr_views.specs.declared.recording.Recording.{Recording}
use Rattle.esr_views.specs.QueryAnswers.{IsRecorded}
use Rattle.esr_views.specs.State.{ScriptState}
use Rattle.esr_tables.specs.declared.format.Format.TheVariants.{Csv}
use Rattle.esr_tables.specs.declared.rows.Row.{Row}
use Rattle.esr_tables.specs.Csv.{head, ledger_csv, named_line}
use Rattle.esr_tables.specs.Rows.{rows_of}
use Rattle.esr_tables.specs.Written.{IsLedger, IsLedgerOf}

pub ledger_written : (s : ScriptState) (c : Recording) → IsRecorded s c → (first last : ℕ → ℕ) (text : List ℕ)
    → text ≡ ledger_csv weighted c.history.schedule c.transactions first last → IsLedger Csv s text
ledger_written s c recorded first last text is = (
  first,
  last,
  is
      ∙ (ap (λ (h : Schedule). ledger_csv weighted h c.transactions first last) recorded.history
      ∙ ap (λ names. ledger_csv weighted s.history names first last) recorded.transactions),
)

-- the CSV of these rows, if it is made
abbrev IsCsv : List (List ℕ) → (first last : ℕ → ℕ) → List Row → List ℕ → Type 0
IsCsv names first last rows text = text ≡ head ++ flat_map (named_line names first last) rows

-- the CSV of a history, if it is made
pub csv_of : {T E : Type 0} (items : T → List ℕ) (h : Schedule) (names : List (List ℕ)) (first last : ℕ → ℕ) (rows : List Row) → rows ≡ rows_of weighted h → (r : Result T E)
    → IfOk r (λ v. IsCsv names first last rows (items v)) → IfOk r (λ v. IsLedgerOf h names (items v))
csv_of items h names first last rows are (Ok v) is = (first, last, is ∙ ap (λ rs. head ++ flat_map (named_line names first last) rs) are)
csv_of items h names first last rows are (Err e) is = tt

-- the CSV of a recording, if it is made
pub csv_written : {T E : Type 0} (items : T → List ℕ) (s : ScriptState) (c : Recording) → IsRecorded s c → (first last : ℕ → ℕ) (rows : List Row) → rows ≡ rows_of weighted c.history.schedule → (r : Result T E)
    → IfOk r (λ v. IsCsv c.transactions first last rows (items v)) → IfOk r (λ v. IsLedger Csv s (items v))
csv_written items s c recorded first last rows are (Ok v) is = ledger_written s c recorded first last (items v) (is ∙ ap (λ rs. head ++ flat_map (named_line c.transactions first last) rs) are)
csv_written items s c recorded first last rows are (Err e) is = tt
