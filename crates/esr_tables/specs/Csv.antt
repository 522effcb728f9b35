-- A ledger as CSV.
use Rattle.std.specs.Prelude.{ℕ, List, [], ◌∷◌, ◌++◌, codes, decimal, Option, None, Some}
use Rattle.std.specs.List.{flat_map}
use Rattle.esr_history.specs.Machine.{DistanceFunction, Schedule}
use Rattle.esr_report.specs.Names.{name_of_transaction}
use Rattle.esr_history.specs.declared.event.TxnKind.{TxnKind}
use Rattle.esr_history.specs.declared.event.TxnKind.TheVariants.{Update, Query, StrictQuery}
use Rattle.esr_history.specs.declared.event.TxnOutcome.{TxnOutcome}
use Rattle.esr_history.specs.declared.event.TxnOutcome.TheVariants.{Committed, Aborted, Active}
use Rattle.esr_tables.specs.declared.rows.Row.{Row}
use Rattle.esr_tables.specs.Rows.{rows_of}

-- fields, each after a comma
abbrev pub separated : List (List ℕ) → List ℕ
separated fields = flat_map (λ field. 44 ∷ field) fields

-- a line of fields separated by commas
abbrev pub csv_line : (first : List ℕ) (rest : List (List ℕ)) → List ℕ
csv_line first rest = first ++ (separated rest ++ 10 ∷ [])

abbrev pub kind_word : TxnKind → List ℕ
kind_word Update = codes "update"
kind_word Query = codes "query"
kind_word StrictQuery = codes "strict"

abbrev pub outcome_word : TxnOutcome → List ℕ
outcome_word Committed = codes "committed"
outcome_word Aborted = codes "aborted"
outcome_word Active = codes "active"

-- a number, or the empty text for None
abbrev pub decimal_or_empty : Option ℕ → List ℕ
decimal_or_empty None = []
decimal_or_empty (Some n) = decimal n

-- the names of the fields
abbrev pub head : List ℕ
head =
    codes "number,name,kind,limit,charged,left,reads,writes,blocked_by_lock,blocked_by_import,blocked_by_export,end,distance,first_line,last_line"
    ++ 10 ∷ []

-- the amounts and the counts of a row
abbrev pub amounts : Row → List (List ℕ)
amounts r =
    decimal r.limit ∷ decimal r.charged ∷ decimal r.left ∷ decimal r.tally.reads ∷ decimal r.tally.writes
    ∷ decimal r.tally.blocked_by_lock ∷ decimal r.tally.blocked_by_import ∷ decimal r.tally.blocked_by_export ∷ []

-- a row, with the name of its transaction and its first and last lines
abbrev pub row_line : List ℕ → Row → (first last : ℕ) → List ℕ
row_line name r first last = csv_line (decimal r.number.0) (
    name ∷ kind_word r.kind ∷ amounts r ++ outcome_word r.outcome ∷ decimal_or_empty r.distance ∷ decimal first ∷ decimal last ∷ []
    )

-- the line of a row, given the names of the transactions and their first and last lines
abbrev pub named_line : (names : List (List ℕ)) → (first last : ℕ → ℕ) → Row → List ℕ
named_line names first last r = row_line (name_of_transaction names r.number.0) r (first r.number.0) (last r.number.0)

-- the ledger of a history
abbrev pub ledger_csv : DistanceFunction → Schedule → (names : List (List ℕ)) → (first last : ℕ → ℕ) → List ℕ
ledger_csv d h names first last = head ++ flat_map (named_line names first last) (rows_of d h)
