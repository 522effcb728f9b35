use Rattle.std.proofs.Common.{◌≡◌, ℕ, ◌+◌, ◌-◌, ◌<◌, ◌≤◌, ◌∙◌, sym, ap, arith, refl, None, Some, Option, Result, Ok, Err, OnErr, length, get_or, true, IfSome}
use Rattle.esr_core.specs.Types.{TxnId, Read}
use Rattle.esr_history.specs.Events.{is_active, total_read_count}
use Rattle.esr_history.specs.Machine.{accepted_in}
use Rattle.esr_history.proofs.LegalWellFormed.{follows}
use Rattle.esr_core.specs.States.{charged_once}
use Rattle.esr_core.proofs.Accepted.{read_active, read_bounded, read_fits, bounded_here, read_books}
use Rattle.esr_core.proofs.Reasons.{locks_count, row_reads, due_some, are_charges-read}
use Rattle.esr_core.proofs.Representing.{represents-query}
use Rattle.std.proofs.lemmas.List.{get_or_default}
use Rattle.esr_core.proofs.state.State.read_as_charged.Goals as goal

each : {P : TxnId × ℕ → Type 0} (o : Option (TxnId × ℕ)) → ((b : TxnId × ℕ) → o ≡ Some b → P b) → IfSome o P
each None f = tt
each (Some b) f = f b refl

pub charge_read-requires : goal.charge_read-requires
charge_read-requires c =
    let d = c.requires.accepted.0 in
    let h = c.requires.accepted.1 in
    let charge = c.requires.accepted.2 in
    let none = c.requires.accepted.3 in
    let rep = c.requires.accepted.4 in
    let s = c.args.self.now in
    let owed = λ (b : TxnId × ℕ) (some : c.args.charge ≡ Some b). due_some d h s.items s.transactions.items s.locks.locks s.ledgers rep c.args.q c.args.x b charge.0 charge.1 (sym charge.2 ∙ some) in
    record {
      charges = each c.args.charge (λ b some. are_charges-read d h s.items s.transactions.items s.locks.locks s.ledgers rep c.args.q b.0 b.1 charge.0 (owed b some).1);
      fits = each c.args.charge (λ b some. read_fits d h s.items s.transactions.items s.locks.locks s.ledgers rep c.args.q b.0 c.args.x b.1 none charge.0 (owed b some).1 (owed b some).0);
    }

pub try_add_read_query-requires-clause-count_within_max : goal.try_add_read_query-requires-clause-count_within_max
try_add_read_query-requires-clause-count_within_max c =
    let s = c.args.self.now in
    bounded_here c.requires.accepted.0 c.requires.accepted.1 s.items s.transactions.items s.locks.locks s.ledgers c.requires.accepted.4 c.args.q.0 c.args.x.0 c.requires.item
    (read_bounded c.requires.accepted.0 c.requires.accepted.1 c.args.q c.args.x c.requires.accepted.3 c.requires.accepted.2.0)

pub count_read-requires-clause-count_within_max : goal.count_read-requires-clause-count_within_max
count_read-requires-clause-count_within_max c = λ k row at.
    let d = c.requires.accepted.0 in
    let h = c.requires.accepted.1 in
    let query = c.requires.accepted.2.0 in
    let none = c.requires.accepted.3 in
    let rep = c.requires.accepted.4 in
    let s = c.args.self.now in
    let r = get_or s.transactions.items k row in
    let here : (j : ℕ) → c.args.q.0 ≡ j + 1 → r ≡ get_or s.transactions.items j r =
    λ j n. let same : k ≡ j = omega (arith, at, n) in get_or_default s.transactions.items k row r (omega (arith, c.requires.known, at)) ∙ ap (λ i. get_or s.transactions.items i r) same in
    let reads : r.reads ≡ total_read_count (accepted_in h) c.args.q.0 = row_reads d h s.items s.transactions.items s.locks.locks s.ledgers rep c.args.q.0 r c.requires.known here query in
    let count_within_max : total_read_count (accepted_in h) c.args.q.0 < 1000 = read_bounded d h c.args.q c.args.x none query in
    rw reads count_within_max

pub returns-clause-represents : goal.returns-clause-represents
returns-clause-represents c = λ d h rep charge none.
    let s = c.args.self.now in
    let known : (0 < c.args.q.0) × (c.args.q.0 ≤ length s.transactions.items) = c.requires.known in
    let row = c.count_read.ensures (c.args.q.0 - 1) (omega arith) in
    let books = c.charge_read.ensures ∙ (ap (λ (o : Option (TxnId × ℕ)). charged_once s.ledgers c.args.q o) charge.2 ∙ read_books d h s.items s.transactions.items s.locks.locks s.ledgers rep c.args.q c.args.x charge.0 c.requires.item) in
    let act : is_active (accepted_in h) c.args.q.0 ≡ true = read_active d h c.args.q c.args.x none in
    let inside : c.args.x.0 < length h.opening = rw (← rep.count) c.requires.item in
    rw (row.2, c.in_ok-try_add_read_query.ensures.ok) (represents-query (d h.weights) h.opening (accepted_in h) s.items s.transactions.items s.locks.locks s.ledgers rep c.args.q c.args.x (c.args.q.0 - 1) row.0 c.charge_read.new.ledgers charge.0 act (follows d h rep.orderly (Read c.args.q c.args.x) none) inside (omega arith) (omega arith) row.1 books)

pub try_add_read_query-requires-clause-item : goal.try_add_read_query-requires-clause-item
try_add_read_query-requires-clause-item c =
    let s = c.args.self.now in
    rw (locks_count c.requires.accepted.0 c.requires.accepted.1 s.items s.transactions.items s.locks.locks s.ledgers c.requires.accepted.4) c.requires.item

after_error : {T E Q : Type 0} (result : Result T E) → Q → OnErr result Q
after_error (Ok x) holds = tt
after_error (Err e) holds = holds

pub returns-in_err-try_add_read_query-clause-err : goal.returns-in_err-try_add_read_query-clause-err
returns-in_err-try_add_read_query-clause-err c = λ d h rep. rw c.in_err-try_add_read_query.ensures.err (after_error c.from_residual.result rep)
