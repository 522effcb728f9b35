-- An input of the machine, and its outcome by the definitions: the replies, the charges, and the audits.
use Rattle.std.specs.Prelude.{ℕ, ℤ, List, [], ◌∷◌, filter, map, if◌then◌else◌}
use Rattle.esr_items.specs.Weights.{weighted}
use Rattle.esr_history.specs.declared.event.Event.{Event}
use Rattle.esr_history.specs.declared.event.Reply.{Reply}
use Rattle.esr_history.specs.Events.{is_query, txn_numbers}
use Rattle.esr_history.specs.Machine.{Schedule, accepted_in, charges_in, export_in, extended, import_in, reply_to, schedule_of}
use Rattle.esr_history.specs.Queries.{is_committed_query}
use Rattle.esr_order.specs.Least.{least_distance, nearest_placement}

-- the opening values and the weights of the items, and the events that are executed
pub record Input : Type 0 where
  pub opening : List ℤ
  pub weights : List ℕ
  pub events : List Event

abbrev pub input : List ℤ → List ℕ → List Event → Input
input opening weights events = record { opening = opening; weights = weights; events = events }

-- the audit of a committed query
pub record Audit : Type 0 where
  pub query : ℕ
  pub cost : ℕ
  pub set : List ℕ

abbrev pub audit : ℕ → ℕ → List ℕ → Audit
audit query cost set = record { query = query; cost = cost; set = set }

-- the replies in order; the import or export of each transaction, and the audit of each committed query, by ascending numbers
pub record Outcome : Type 0 where
  pub replies : List Reply
  pub charged : List ℕ
  pub audits : List Audit

abbrev pub outcome : List Reply → List ℕ → List Audit → Outcome
outcome replies charged audits = record { replies = replies; charged = charged; audits = audits }

-- the history after the machine's replies to the events
abbrev pub after : Schedule → List Event → Schedule
after h [] = h
after h (e ∷ events) = after (extended h e (reply_to weighted h e)) events

abbrev pub charge_of : Schedule → ℕ → ℕ
charge_of h t =
    if is_query (accepted_in h) t then import_in (charges_in weighted h) t else export_in (charges_in weighted h) t

abbrev pub audit_of : Schedule → ℕ → Audit
audit_of h q = audit q (least_distance weighted h q) (nearest_placement weighted h q)

abbrev pub outcome_in : Schedule → Outcome
outcome_in h =
    outcome (map (λ e. e.reply) h.entries) (map (charge_of h) (txn_numbers (accepted_in h)))
    (map (audit_of h) (filter (is_committed_query h) (txn_numbers (accepted_in h))))

abbrev pub outcome_of : Input → Outcome
outcome_of p = outcome_in (after (schedule_of p.opening p.weights []) p.events)
