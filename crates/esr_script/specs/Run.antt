-- The permitted output of a run, by its end.
use Rattle.std.specs.Prelude.{◌≡◌, ℕ, ◌≤◌, List, Option, Result, Ok, Err, Some, None, take, length}
use Rattle.std.specs.Io.KnownBytes.{Consumes}
use Rattle.esr_base.specs.Watch.{BeginsWith}
use Rattle.esr_script.specs.declared.fault.RunFault.TheVariants as fault
use Rattle.esr_grammar.specs.Lines.{lines, whole_lines}
use Rattle.esr_script.specs.Text.{Outcome, outcome, outcome_of_lines, RunFault}

-- no line ends the run, and this is its text
abbrev pub IsWholeText : Outcome → List ℕ → Type 0
IsWholeText o written = o ≡ record { text = written; fault = None }

-- a line ends the run by the fault, and this is the text of those before it
abbrev pub IsTextBefore : Outcome → RunFault → List ℕ → Type 0
IsTextBefore o f written = o ≡ record { text = written; fault = Some f }

-- The relation between the input of a run, the unread rest, the result, and the text written.
abbrev pub IsRunBy : List ℕ → Option (List ℕ) → Result (Unit {0}) RunFault → List ℕ → Type 0
-- the input was read to its end, and the whole text was written
IsRunBy input left (Ok done) written = Consumes (Some input) left input × IsWholeText (outcome input) written
-- the text of the whole lines that were read before the failure
IsRunBy input left (Err fault.Read) written =
    (taken : List ℕ) × Consumes (Some input) left taken × IsWholeText (outcome_of_lines (whole_lines taken)) written
-- a prefix of the output
IsRunBy input left (Err fault.Write) written = BeginsWith (outcome input).text written
-- the text of the lines before the one at which memory ran out
IsRunBy input left (Err fault.NoMemory) written =
    (count : ℕ) × (count ≤ length (lines input)) × IsWholeText (outcome_of_lines (take count (lines input))) written
-- the text of the lines before the one that ends the run so
IsRunBy input left (Err fault.LineTooLong) written = IsTextBefore (outcome input) fault.LineTooLong written
IsRunBy input left (Err fault.HistoryFull) written = IsTextBefore (outcome input) fault.HistoryFull written
IsRunBy input left (Err fault.TooManyLines) written = IsTextBefore (outcome input) fault.TooManyLines written
-- a run certifies nothing
IsRunBy input left (Err fault.NotACommittedQuery) written = ⊥
