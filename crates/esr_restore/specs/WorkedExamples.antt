-- A history with a blocked write and a refused read, its script, and the history that a run of the script leads to.
use Rattle.std.specs.Prelude.{◌≡◌, pos, [], ◌∷◌, codes, refl}
use Rattle.std.specs.Fmt.{digits}
use Rattle.esr_history.specs.declared.event.Event.TheVariants.{BeginUpdate, Read, Write, Commit}
use Rattle.esr_history.specs.Machine.{Schedule}
use Rattle.esr_history.specs.WorkedExamples.{item, played, started_from, txn}
use Rattle.esr_script.specs.Text.{final}
use Rattle.esr_dump.specs.Lines.{script}
use Rattle.esr_dump.specs.RoundTrip.{kept}

-- an update reads the item, another is blocked, and a read of no transaction is refused
abbrev blocked_write : Schedule
blocked_write =
    played (started_from (pos 100 ∷ []))
    (BeginUpdate 0 ∷ BeginUpdate 0 ∷ Read (txn 1) (item 0) ∷ Write (txn 2) (item 0) (pos 5) ∷ Read (txn 9) (item 0) ∷ Commit (txn 1) ∷ [])

blocked_write_script : script (codes "a" ∷ []) (codes "t" ∷ codes "u" ∷ []) blocked_write
    ≡ codes "item a 100\nbegin t update 0\nbegin u update 0\nread t a\nwrite u a 5\ncommit t\n"
unfolding digits
blocked_write_script = refl

blocked_write_restored : (final (script (codes "a" ∷ []) (codes "t" ∷ codes "u" ∷ []) blocked_write)).history.entries ≡ (kept blocked_write).entries
unfolding digits
blocked_write_restored = refl
