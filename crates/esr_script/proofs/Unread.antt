-- A line whose text is dropped leads to the same state as a line whose text is written.
use Rattle.std.proofs.Common.{◌≡◌, List, ℕ, false, inl, sym, ap, Some, Result, Ok, Err, OnOk, IfErr}
use Rattle.esr_grammar.specs.Command as command
use Rattle.esr_grammar.specs.Command.{Command, is_skipped, reading}
use Rattle.esr_script.specs.declared.fault.RunFault.TheVariants as fault
use Rattle.esr_script.specs.declared.sink.Audience.{Audience}
use Rattle.esr_script.specs.Parts.{IsAnsweredBy}
use Rattle.esr_script.specs.Text.{ScriptState, RunFault, Executes, EndsIn, closed, execute, answer, audit_text}

module _ (s new : ScriptState) (line : List ℕ) (skipped : is_skipped line ≡ false) where
  -- an audit that was not made
  pub passed : {T : Type 0} (name : List ℕ) → reading line ≡ Some (command.audit name) → (r : Result T RunFault) → OnOk r (new ≡ closed s)
      → IfErr r (λ e. e ≡ fault.NoMemory) → EndsIn (answer s line) new r
  passed name is (Ok done) ok err = record { ok = (audit_text s name, rw (skipped, is) (ap (λ (z : ScriptState). Ok (z, audit_text s name)) (sym ok))); faults = tt }
  passed name is (Err e) ok err = record { ok = tt; faults = inl err }

  -- any other command
  pub executed : {T : Type 0} (c : Command) → reading line ≡ Some c → (r : Result T RunFault) (out grown : List ℕ) → Executes (execute s c) new out grown r
      → EndsIn (answer s line) new r
  executed c is (Ok done) out grown h = record { ok = (h.ok.0, rw (skipped, is) h.ok.1); faults = tt }
  executed c is (Err e) out grown h = record { ok = tt; faults = rw (skipped, is) h.faults }

  pub answered : {T : Type 0} (c : Command) → reading line ≡ Some c → (audience : Audience) (r : Result T RunFault) (out grown : List ℕ)
      → Executes (execute s c) new out grown r → IsAnsweredBy (answer s line) audience new out grown r
  answered c is audience r out grown h = record { state = executed c is r out grown h; text = λ somebody. rw (skipped, is) h }
