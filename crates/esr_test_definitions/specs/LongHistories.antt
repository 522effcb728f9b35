-- The two refusals that only long histories reach: one transaction too many, and one read too many.
use Rattle.std.specs.Prelude.{◌≡◌, ℕ, zero, suc, pos, List, [], ◌∷◌, false}
use Rattle.esr_items.specs.Weights.{weighted}
use Rattle.esr_history.specs.declared.event.Entry.{Entry}
use Rattle.esr_history.specs.declared.event.Event.TheVariants.{BeginQuery, BeginUpdate, Read}
use Rattle.esr_history.specs.declared.event.Reply.TheVariants.{Begun, Refused, Value}
use Rattle.esr_history.specs.declared.event.Refusal.TheVariants.{TooManyReads, TooManyTransactions}
use Rattle.esr_history.specs.Machine.{Schedule, reply_to, schedule_of}
use Rattle.esr_history.specs.WorkedExamples.{item, txn}

abbrev copies : ℕ → Entry → List Entry
copies zero e = []
copies (suc n) e = e ∷ copies n e

-- a query that has read as often as it may
abbrev thousand_reads : Schedule
thousand_reads =
    schedule_of (pos 5 ∷ []) []
    (record { event = BeginQuery 0 false; reply = Begun (txn 1) }
    ∷ copies 1000 (record { event = Read (txn 1) (item 0); reply = Value (pos 5) }))

-- as many transactions as there may be
abbrev all_begun : Schedule
all_begun = schedule_of [] [] (copies 65535 (record { event = BeginUpdate 0; reply = Begun (txn 1) }))

abbrev pub LongHistoriesRefuse : Type 0
LongHistoriesRefuse =
    (reply_to weighted thousand_reads (Read (txn 1) (item 0)) ≡ Refused TooManyReads)
    × (reply_to weighted all_begun (BeginUpdate 0) ≡ Refused TooManyTransactions)
