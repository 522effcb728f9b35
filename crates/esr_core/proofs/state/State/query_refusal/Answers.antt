use Rattle.std.proofs.Common.{◌≡◌, ◌<◌, ◌≤◌, ◌∙◌, sym, ap, None, Some}
use Rattle.esr_items.specs.Values.{versions_at}
use Rattle.esr_history.specs.Events.{total_read_count}
use Rattle.esr_history.specs.Machine.{accepted_in}
use Rattle.esr_locks.specs.Tables.{locks_at}
use Rattle.esr_core.specs.States.{read_charge, reason_of}
use Rattle.esr_core.proofs.Reasons.{row_reads, due_some, due_none, are_charges-read, query_many, query_none, query_some}
use Rattle.esr_core.proofs.state.State.query_refusal.Goals as goal

pub returns-then-transaction-ge-MAX_READS : goal.returns-then-transaction-ge-MAX_READS
returns-then-transaction-ge-MAX_READS c = λ d h x rep charge.
    let s = c.args.self.now in
    let reads : c.transaction.result.reads ≡ total_read_count (accepted_in h) c.args.q.0 = row_reads d h s.items s.transactions.items s.locks.locks s.ledgers rep c.args.q.0 c.transaction.result c.requires.known c.transaction.ensures charge.0 in
    let many : 1000 ≤ total_read_count (accepted_in h) c.args.q.0 = rw (← reads) c.if-transaction-ge-MAX_READS.true in
    query_many d h s.items s.transactions.items s.locks.locks s.ledgers rep c.args.q x charge.0 many

pub quote-requires : goal.quote-requires
quote-requires c =
    let d = c.requires.charged.0 in
    let h = c.requires.charged.1 in
    let x = c.requires.charged.2 in
    let charge = c.requires.charged.3 in
    let rep = c.requires.charged.4 in
    let s = c.args.self.now in
    let is : read_charge (d h.weights x.0) (versions_at s.items x.0) (locks_at s.locks.locks x.0).writer ≡ Some (c.in-Some.u, c.in-Some.amount) = sym charge.2 ∙ c.in-Some.is in
    let owed = due_some d h s.items s.transactions.items s.locks.locks s.ledgers rep c.args.q x (c.in-Some.u, c.in-Some.amount) charge.0 charge.1 is in
    are_charges-read d h s.items s.transactions.items s.locks.locks s.ledgers rep c.args.q c.in-Some.u c.in-Some.amount charge.0 owed.1

pub returns-in-Some : goal.returns-in-Some
returns-in-Some c = λ d h x rep charge.
    let s = c.args.self.now in
    let is : read_charge (d h.weights x.0) (versions_at s.items x.0) (locks_at s.locks.locks x.0).writer ≡ Some (c.in-Some.u, c.in-Some.amount) = sym charge.2 ∙ c.in-Some.is in
    let owed = due_some d h s.items s.transactions.items s.locks.locks s.ledgers rep c.args.q x (c.in-Some.u, c.in-Some.amount) charge.0 charge.1 is in
    let reads : c.transaction.result.reads ≡ total_read_count (accepted_in h) c.args.q.0 = row_reads d h s.items s.transactions.items s.locks.locks s.ledgers rep c.args.q.0 c.transaction.result c.requires.known c.transaction.ensures charge.0 in
    let count_within_max : total_read_count (accepted_in h) c.args.q.0 < 1000 = rw (← reads) c.if-transaction-ge-MAX_READS.false in
    c.limit_refusal.ensures ∙ (ap reason_of c.quote.ensures ∙ query_some d h s.items s.transactions.items s.locks.locks s.ledgers rep c.args.q c.in-Some.u x c.in-Some.amount charge.0 owed.1 count_within_max owed.0)

pub returns-in-None : goal.returns-in-None
returns-in-None c = λ d h x rep charge.
    let s = c.args.self.now in
    let is : read_charge (d h.weights x.0) (versions_at s.items x.0) (locks_at s.locks.locks x.0).writer ≡ None = sym charge.2 ∙ c.in-None.is in
    let reads : c.transaction.result.reads ≡ total_read_count (accepted_in h) c.args.q.0 = row_reads d h s.items s.transactions.items s.locks.locks s.ledgers rep c.args.q.0 c.transaction.result c.requires.known c.transaction.ensures charge.0 in
    let count_within_max : total_read_count (accepted_in h) c.args.q.0 < 1000 = rw (← reads) c.if-transaction-ge-MAX_READS.false in
    query_none d h s.items s.transactions.items s.locks.locks s.ledgers rep c.args.q x count_within_max (due_none d h s.items s.transactions.items s.locks.locks s.ledgers rep c.args.q x charge.1 is)
