-- The definitions for the private parts of a run.
use Rattle.std.specs.Prelude.{◌≡◌, ℕ, List, ◌++◌, ◌⊎◌, Bool, true, false, length, Option, Some, Result, Ok, Err, OnOk, OnErr, IfErr}
use Rattle.std.specs.Io.KnownBytes.{Appends}
use Rattle.esr_base.specs.Watch.{BeginsWith}
use Rattle.esr_script.specs.declared.fault.RunFault.TheVariants as fault
use Rattle.esr_script.specs.declared.sink.Audience.{Audience}
use Rattle.esr_script.specs.declared.sink.Audience.TheVariants.{Somebody}
use Rattle.esr_grammar.specs.Lines.{lines, whole_lines}
use Rattle.esr_script.specs.Run.{IsRunBy}
use Rattle.esr_script.specs.Text.{ScriptState, start, state_after, outcome, outcome_of_lines, outcome_from, preceded_by, Executes, EndsIn, RunFault}

-- whether a read failed, and whether a write did
abbrev pub is_read_fault : {T : Type 0} → Result T RunFault → Bool
is_read_fault (Err fault.Read) = true
is_read_fault _ = false

abbrev pub is_write_fault : {T : Type 0} → Result T RunFault → Bool
is_write_fault (Err fault.Write) = true
is_write_fault _ = false

-- the end of the run at a line, whatever its outcome is
abbrev pub without_outcome : {T : Type 0} → Result T RunFault → Result (Unit {0}) RunFault
without_outcome (Ok x) = Ok tt
without_outcome (Err e) = Err e

-- A run over the input that has executed or skipped `count` lines, wrote this text, and has these bytes before it.
pub record Progress (input unread : List ℕ) (count : ℕ) (state : ScriptState) (written : List ℕ) : Type 0 where
  pub used : List ℕ
  pub answered : List (List ℕ)
  pub split : input ≡ used ++ unread
  pub counted : length answered ≡ count
  pub cut : (bytes : List ℕ) → lines (used ++ bytes) ≡ answered ++ lines bytes
  pub cut_whole : (bytes : List ℕ) → whole_lines (used ++ bytes) ≡ answered ++ whole_lines bytes
  pub reached : state_after start answered ≡ state
  pub ran : (more : List (List ℕ)) → outcome_of_lines (answered ++ more)
      ≡ preceded_by written (outcome_from count state more)

-- like `Progress`, if the bytes before it are the buffered ones and those left in the reader
pub record InputProgress (input : List ℕ) (left : Option (List ℕ)) (bytes : List ℕ) (count : ℕ) (state : ScriptState)
    (written : List ℕ) : Type 0 where
  pub rest : List ℕ
  pub known : left ≡ Some rest
  pub progress : Progress input (bytes ++ rest) count state written

-- A run that has sent this text and still holds this output. After a failed write the output is lost, and after a
-- failed read there is none.
abbrev pub IsHeldRun : List ℕ → Option (List ℕ) → List ℕ → Result (Unit {0}) RunFault → List ℕ → Type 0
IsHeldRun input left out (Err fault.Write) sent = BeginsWith (outcome input).text sent
IsHeldRun input left out r sent = BeginsWith (outcome input).text (sent ++ out) × IsRunBy input left r (sent ++ out)

-- The output counts as taken although nothing took it. If the taken bytes are known, none of it does.
abbrev pub IsUnread : Option (List ℕ) → List ℕ → Type 0
IsUnread taken gone = Appends taken taken gone

-- A line was executed as due: the state is the due state, and the due text follows the output, less the dropped part.
-- An error is out of memory, or the due full history.
pub record IsAnswer (taken : Option (List ℕ)) (due : Result (ScriptState × List ℕ) RunFault) (new : ScriptState)
    (out_old out_new : List ℕ) (result : Result (Unit {0}) RunFault) : Type 0 where
  pub ok : OnOk result ((text gone : List ℕ) × (due ≡ Ok (new, text)) × (out_old ++ text ≡ gone ++ out_new)
      × IsUnread taken gone)
  pub err : OnErr result ((gone : List ℕ) × (out_old ≡ gone ++ out_new) × IsUnread taken gone)
  pub faults : IfErr result (λ e. (e ≡ fault.NoMemory) ⊎ ((e ≡ fault.HistoryFull) × (due ≡ Err fault.HistoryFull)))

-- A line was executed as due. Its text is due only if somebody reads it.
pub record IsAnsweredBy {T : Type 0} (due : Result (ScriptState × List ℕ) RunFault) (audience : Audience) (new : ScriptState)
    (out_old out_new : List ℕ) (result : Result T RunFault) : Type 0 where
  pub state : EndsIn due new result
  pub text : audience ≡ Somebody → Executes due new out_old out_new result
