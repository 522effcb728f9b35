-- The ends of a run over a whole script for its final state.
use Rattle.std.specs.Prelude.{◌≡◌, ⊤, ℕ, List, [], Bool, true, false, Option, Some, None, Result, Ok, Err}
use Rattle.std.specs.Io.KnownBytes.{Consumes}
use Rattle.esr_history.specs.Queries.{is_committed_query}
use Rattle.esr_base.specs.Watch.{BeginsWith}
use Rattle.esr_script.specs.declared.fault.RunFault.TheVariants as fault
use Rattle.esr_script.specs.Text.{transaction_called, outcome, final, RunFault}

-- no line ends the run of the input
abbrev pub IsWhole : List ℕ → Type 0
IsWhole input = (outcome input).fault ≡ None

-- a line ends it by this fault
abbrev pub EndsBy : List ℕ → RunFault → Type 0
EndsBy input f = (outcome input).fault ≡ Some f

-- the number of the name after the script
abbrev pub query_of : List ℕ → List ℕ → ℕ
query_of input name = (transaction_called (final input) name).0

-- whether the name is that of a committed query of the history of the script
abbrev pub is_query : List ℕ → List ℕ → Bool
is_query input name = is_committed_query (final input).history (query_of input name)

-- the whole script has no committed query of that name
abbrev pub IsNoQuery : List ℕ → List ℕ → Type 0
IsNoQuery input name = IsWhole input × (is_query input name ≡ false)

-- The run over the input left these bytes unread and returned a value of which this holds, or a fault. Refused is the
-- meaning of a refusal of the query.
abbrev pub IsReachedBy : {T : Type 0} → (T → Type 0) → Type 0 → List ℕ → Option (List ℕ) → Result T RunFault → Type 0
-- the input was read to its end
IsReachedBy Holds Refused input left (Ok value) = Consumes (Some input) left input × IsWhole input × Holds value
IsReachedBy Holds Refused input left (Err fault.Read) = ⊤
-- nothing is written on the way
IsReachedBy Holds Refused input left (Err fault.Write) = ⊥
IsReachedBy Holds Refused input left (Err fault.NoMemory) = ⊤
IsReachedBy Holds Refused input left (Err fault.LineTooLong) = EndsBy input fault.LineTooLong
IsReachedBy Holds Refused input left (Err fault.HistoryFull) = EndsBy input fault.HistoryFull
IsReachedBy Holds Refused input left (Err fault.TooManyLines) = EndsBy input fault.TooManyLines
IsReachedBy Holds Refused input left (Err fault.NotACommittedQuery) = Refused

-- The run over the input, after which a text of which this holds was written.
abbrev pub IsWrittenBy : (List ℕ → Type 0) → Type 0 → List ℕ → Option (List ℕ) → Result (Unit {0}) RunFault
    → List ℕ → Type 0
IsWrittenBy Holds Refused input left (Ok done) written =
    Consumes (Some input) left input × IsWhole input × Holds written
-- a prefix of such a text
IsWrittenBy Holds Refused input left (Err fault.Write) written =
    IsWhole input × (text : List ℕ) × Holds text × BeginsWith text written
-- nothing was written
IsWrittenBy Holds Refused input left r written = IsReachedBy (λ done. ⊤) Refused input left r × (written ≡ [])

-- The relation between the input of a view of the query of that name, the unread rest, the result, and the text
-- written, of which this holds.
abbrev pub IsReportedBy : (List ℕ → Type 0) → List ℕ → List ℕ → Option (List ℕ) → Result (Unit {0}) RunFault
    → List ℕ → Type 0
IsReportedBy Holds input name left r written =
    IsWrittenBy (λ text. (is_query input name ≡ true) × Holds text) (IsNoQuery input name) input left r written
