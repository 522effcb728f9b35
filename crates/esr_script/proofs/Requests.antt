-- An event with the numbers of the names in its line, and a line with another outcome.
use Rattle.std.proofs.Common.{◌≡◌, ℕ, List, Result, Ok, Err}
use Rattle.esr_history.specs.declared.event.Event.{Event}
use Rattle.esr_report.specs.Lines.{Named}
use Rattle.esr_script.specs.Text.{ScriptState, Executes, ask, RunFault}

pub audited : {T : Type 0} (r : Result T RunFault) (s after : ScriptState) (n m : Named) (e f : Event) (out grown : List ℕ) → n ≡ m → e ≡ f
    → Executes (ask s n e) after out grown r → Executes (ask s m f) after out grown r
audited r s after n m e f out grown names event h = rw (← names, ← event) h
