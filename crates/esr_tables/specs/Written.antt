-- The ledger of a history and of a script.
use Rattle.std.specs.Prelude.{◌≡◌, ℕ, List, ⊤}
use Rattle.esr_items.specs.Weights.{weighted}
use Rattle.esr_history.specs.Machine.{Schedule}
use Rattle.esr_views.specs.State.{ScriptState}
use Rattle.esr_tables.specs.declared.format.Format.{Format}
use Rattle.esr_tables.specs.declared.format.Format.TheVariants.{Text, Csv, Json}
use Rattle.esr_tables.specs.Csv.{ledger_csv}

-- The ledger of a history: each row contains the history's data, and the numbers of two lines, which are not
-- specified: a history has no lines.
abbrev pub IsLedgerOf : Schedule → List (List ℕ) → List ℕ → Type 0
IsLedgerOf h names text = (first : ℕ → ℕ) × (last : ℕ → ℕ) × (text ≡ ledger_csv weighted h names first last)

-- The ledger of a script, in CSV. The other formats are not specified.
abbrev pub IsLedger : Format → ScriptState → List ℕ → Type 0
IsLedger Csv s text = IsLedgerOf s.history s.transactions text
IsLedger Text s text = ⊤
IsLedger Json s text = ⊤
