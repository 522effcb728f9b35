-- Many events in one call: the replies are those of a call for each event, one after another.
use Rattle.std.specs.Prelude.{◌≡◌, ◌⊎◌, ◌≤◌, ℕ, ◌==◌, List, [], ◌∷◌, ◌++◌, Bool, true, false, not, ◌&&◌, Option, Some, None, length, map, take, filter_map, slice_get, if◌then◌else◌}
use Rattle.esr_items.specs.Weights.{weighted}
use Rattle.esr_history.specs.declared.event.Event.{Event}
use Rattle.esr_history.specs.declared.event.Event.TheVariants.{BeginUpdate, BeginQuery, Read, Write, Commit, Abort}
use Rattle.esr_history.specs.declared.event.Reply.{Reply}
use Rattle.esr_history.specs.Events.{is_refusal}
use Rattle.esr_history.specs.Machine.{Schedule, extended, reply_to}
use Rattle.esr_engine.specs.Capacity.{is_full}
use Rattle.esr_c.specs.Answers.{reply_fields}
use Rattle.esr_c.specs.declared.batch.EsrEvent.{EsrEvent}
use Rattle.esr_c.specs.declared.reply.EsrReply.{EsrReply}

-- the event of a kind, if there is one of that kind
abbrev pub event_of : EsrEvent → Option Event
event_of e =
    if e.kind == 1 then Some (BeginUpdate e.limit)
    else if e.kind == 2 then Some (Read (record { 0 = e.txn }) (record { 0 = e.item }))
    else if e.kind == 3 then Some (Write (record { 0 = e.txn }) (record { 0 = e.item }) e.value)
    else if e.kind == 4 then Some (Commit (record { 0 = e.txn }))
    else if e.kind == 5 then Some (Abort (record { 0 = e.txn }))
    else if e.kind == 6 then Some (BeginQuery e.limit false)
    else if e.kind == 7 then Some (BeginQuery e.limit true)
    else None

-- the first n of them
abbrev pub events_in : ℕ → List EsrEvent → List Event
events_in n events = filter_map event_of (take n events)

-- an event of many was executed, or the history is full for it
abbrev pub IsOne : Schedule → EsrEvent → Schedule → Reply → Type 0
IsOne h e g r =
    (event : Event) × (event_of e ≡ Some event) × (r ≡ reply_to weighted h event) × (g ≡ extended h event r)

abbrev pub IsFullFor : Schedule → EsrEvent → Type 0
IsFullFor h e = (event : Event) × (event_of e ≡ Some event) × (is_full h event ≡ true)

-- the history after an event that the machine has executed, and after several
abbrev pub after_one : Schedule → Event → Schedule
after_one h e = extended h e (reply_to weighted h e)

abbrev pub after_all : Schedule → List Event → Schedule
after_all h [] = h
after_all h (e ∷ more) = after_all (after_one h e) more

-- the machine's replies to them, one after another
abbrev pub replies_to : Schedule → List Event → List Reply
replies_to h [] = []
replies_to h (e ∷ more) = reply_to weighted h e ∷ replies_to (after_one h e) more

-- only the last may be a refusal
abbrev pub none_refused_before : List Reply → Bool
none_refused_before [] = true
none_refused_before (r ∷ []) = true
none_refused_before (r ∷ s ∷ more) = not (is_refusal r) && none_refused_before (s ∷ more)

-- The first n events were executed one after another: the history ends with them, and their replies are at the start
-- of the buffer.
pub record AreAnswered (h g : Schedule) (events : List EsrEvent) (n : ℕ) (buffer : List EsrReply) : Type 0 where
  pub within : n ≤ length events
  pub each : length (events_in n events) ≡ n
  pub after : g ≡ after_all h (events_in n events)
  pub reported : take n buffer ≡ map reply_fields (replies_to h (events_in n events))

-- the last of the replies to the first n events is a refusal
abbrev pub IsRefusedAtLast : Schedule → List EsrEvent → ℕ → Type 0
IsRefusedAtLast h events n =
    (before : List Reply) × (last : Reply) × (replies_to h (events_in n events) ≡ before ++ last ∷ [])
    × (is_refusal last ≡ true)

-- the event after the first n has an unknown kind
abbrev pub IsUnknownAt : List EsrEvent → ℕ → Type 0
IsUnknownAt events n = (e : EsrEvent) × (slice_get events n ≡ Some e) × (event_of e ≡ None)

-- the history is full for the event after the first n
abbrev pub IsFullAt : Schedule → List EsrEvent → ℕ → Type 0
IsFullAt h events n = (e : EsrEvent) × (slice_get events n ≡ Some e) × IsFullFor (after_all h (events_in n events)) e

-- Why only the first n events were executed, by the status: all were, or the last was refused and `stop` is set; or
-- the next is unknown, or the history is full for it.
pub record IsEnd (h : Schedule) (events : List EsrEvent) (stop : Bool) (n status : ℕ) : Type 0 where
  pub done : status ≡ 0 → (n ≡ length events) ⊎ ((stop ≡ true) × IsRefusedAtLast h events n)
  pub unknown : status ≡ 8 → IsUnknownAt events n
  pub full : status ≡ 12 → IsFullAt h events n
  pub first : stop ≡ true → none_refused_before (replies_to h (events_in n events)) ≡ true

abbrev pub IsAnsweredStatus : ℕ → Type 0
IsAnsweredStatus n = (n ≡ 0) ⊎ ((n ≡ 8) ⊎ ((n ≡ 12) ⊎ (n ≡ 13)))
