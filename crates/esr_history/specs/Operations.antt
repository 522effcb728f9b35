-- The operations of a history's transactions on its items.
use Rattle.std.specs.Prelude.{ℕ, ℤ, pos, List, Bool, true, false, not, Option, None, Some, filter, filter_map}
use Rattle.esr_history.specs.Events.{is_refusal, Event, Read, Write, Commit, Reply, Value, Entry}
use Rattle.esr_history.specs.Machine.{Schedule}

-- an accepted read or write, with the value that was read or written
pub record Operation : Type 0 where
  pub txn : ℕ
  pub item : ℕ
  pub writes : Bool
  pub value : ℤ

-- the value in a reply
abbrev pub answer : Reply → ℤ
answer (Value v) = v
answer _ = pos 0

abbrev pub operation_by : Event → Reply → Option Operation
operation_by (Read t x) reply = Some (record { txn = t.0; item = x.0; writes = false; value = answer reply })
operation_by (Write t x v) reply = Some (record { txn = t.0; item = x.0; writes = true; value = v })
operation_by _ reply = None

abbrev pub operation_of : Entry → Option Operation
operation_of e = operation_by e.event e.reply

-- the operations of accepted entries, in order
abbrev pub operations_in : List Entry → List Operation
operations_in entries = filter_map operation_of (filter (λ e. not (is_refusal e.reply)) entries)

abbrev pub operations : Schedule → List Operation
operations h = operations_in h.entries

abbrev pub committer : Event → Option ℕ
committer (Commit t) = Some t.0
committer _ = None

-- the transactions that committed, in the order of their commits
abbrev pub commit_order : List Event → List ℕ
commit_order done = filter_map committer done
