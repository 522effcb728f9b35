-- A cycle of two updates that both read an item and then write it, and how the abort of one breaks it.
use Rattle.std.specs.Prelude.{◌≡◌, pos, [], ◌∷◌, Some, false, refl}
use Rattle.esr_history.specs.declared.event.Event.TheVariants.{BeginUpdate, BeginQuery, Read, Write, Abort}
use Rattle.esr_history.specs.declared.event.Reply.TheVariants.{Wrote, Refused}
use Rattle.esr_history.specs.declared.event.Refusal.TheVariants.{BlockedByLock}
use Rattle.esr_history.specs.Machine.{Schedule, accepted_in, reply_to}
use Rattle.esr_history.specs.WorkedExamples.{item, plain, played, started_from, txn}
use Rattle.esr_liveness.specs.Liveness.{blocker_in, holders_against}

abbrev both_have_read : Schedule
both_have_read =
    played (started_from (pos 40 ∷ []))
    (BeginUpdate 0 ∷ BeginUpdate 0 ∷ Read (txn 1) (item 0) ∷ Read (txn 2) (item 0) ∷ [])

first_waits : reply_to plain both_have_read (Write (txn 1) (item 0) (pos 37)) ≡ Refused (BlockedByLock (txn 2))
first_waits = refl

second_waits : blocker_in (reply_to plain both_have_read (Write (txn 2) (item 0) (pos 38))) ≡ Some (txn 1)
second_waits = refl

in_the_way : holders_against (accepted_in both_have_read) (Write (txn 2) (item 0) (pos 38)) ≡ 1 ∷ []
in_the_way = refl

abbrev first_aborted : Schedule
first_aborted = played both_have_read (Abort (txn 1) ∷ [])

second_is_accepted : reply_to plain first_aborted (Write (txn 2) (item 0) (pos 38)) ≡ Wrote
second_is_accepted = refl

none_in_the_way : holders_against (accepted_in first_aborted) (Write (txn 2) (item 0) (pos 38)) ≡ []
none_in_the_way = refl

-- an update concurrent with an active query is not alone: the query's limit may block it
concurrent_with_query : blocker_in (reply_to plain
    (played (started_from (pos 40 ∷ [])) (BeginUpdate 9 ∷ BeginQuery 2 false ∷ Read (txn 2) (item 0) ∷ []))
    (Write (txn 1) (item 0) (pos 37)))
    ≡ Some (txn 2)
concurrent_with_query = refl
