-- The output of a view of a script.
use Rattle.std.specs.Prelude.{ℕ, List, Option, Result}
use Rattle.esr_script.specs.Text.{RunFault}
use Rattle.esr_script.specs.Ends.{IsWhole, IsWrittenBy}

-- The relation between the input of a view of a script, the unread rest, the result, and the text written, of which
-- this holds.
abbrev pub IsRenderedBy : (List ℕ → Type 0) → List ℕ → Option (List ℕ) → Result (Unit {0}) RunFault → List ℕ → Type 0
IsRenderedBy Holds input left r written = IsWrittenBy Holds (IsWhole input) input left r written
