use Rattle.std.proofs.Common.{◌≡◌, ℕ, ◌+◌, ◌-◌, ◌<◌, ◌≤◌, ◌∷◌, [], refl, sym, arith, None, length, slice_index_or, true, false}
use Rattle.esr_core.specs.Types.{TxnId, Reply, Committed, Aborted}
use Rattle.esr_history.specs.Events.{is_active}
use Rattle.esr_history.specs.Machine.{DistanceFunction, Schedule, accepted_in, refusal, first_reason, not_begun, ended, acceptance, extended, reply_to}
use Rattle.esr_history.proofs.Allowed.{none_applies, end_allowed}
use Rattle.esr_history.proofs.LegalWellFormed.{not_ended, follows}
use Rattle.esr_locks.specs.Tables.{locks_at, has_lock_unlike}
use Rattle.esr_core.specs.declared.state.State.{State}
use Rattle.esr_core.specs.declared.state.Transaction.{Transaction}
use Rattle.esr_core.specs.States.{IsStateOf, end_event, keeps}
use Rattle.esr_core.proofs.Answered.{accepted_state}
use Rattle.esr_core.proofs.Representing.{by, represents-end}
use Rattle.esr_core.proofs.Reasons.{row_query}
use Rattle.esr_core.proofs.Releases.{no_lock_unlike}
use Rattle.esr_core.proofs.state.State.end.Goals as goal
use Rattle.esr_core.proofs.state.State.end.Goals.{After-end_row}

abbrev state : After-end_row → State
state c = record { items = c.settle_as.new.items; transactions = c.end_row.new.rows; locks = c.release_as.new.self; ledgers = c.args.self.now.ledgers }

-- the reply that an end is owed
answered : (c : After-end_row) (d : DistanceFunction) (h : Schedule) (r : Reply) → r ≡ acceptance h (end_event (keeps c.args.end) c.args.t) → IsStateOf d h c.args.self.now
    → (r ≡ reply_to d h (end_event (keeps c.args.end) c.args.t)) × IsStateOf d (extended h (end_event (keeps c.args.end) c.args.t) r) (state c)
answered c d h r is rep =
    let s = c.args.self.now in
    let e = end_event (keeps c.args.end) c.args.t in
    let known : (0 < c.args.t.0) × (c.args.t.0 ≤ length s.transactions.items) = c.in_default.ensures.ready in
    let none : first_reason (not_begun h c.args.t.0 ∷ ended h c.args.t.0 ∷ []) ≡ None = sym (c.in_default.ensures.represents d h rep) in
    let free : refusal d h e ≡ None = by (λ e. refusal d h e ≡ None) (keeps c.args.end) c.args.t none none in
    let act : is_active (accepted_in h) c.args.t.0 ≡ true = not_ended h c.args.t.0 (end_allowed h c.args.t (none_applies (not_begun h c.args.t.0 ∷ ended h c.args.t.0 ∷ []) none)).active in
    let row = c.end_row.ensures (c.args.t.0 - 1) (omega arith) in
    let kept = represents-end (d h.weights) h.opening (accepted_in h) s.items s.transactions.items s.locks.locks s.ledgers rep (keeps c.args.end) c.args.t (c.args.t.0 - 1) row.0 c.settle_as.new.items act (follows d h rep.orderly e free) (omega arith) (omega arith) row.1 c.settle_as.ensures.len c.settle_as.ensures.current c.settle_as.ensures.committed in
    accepted_state d h e r (state c) free is (rw (row.2, c.release_as.ensures) kept)

pub returns-in-Commit : goal.returns-in-Commit
returns-in-Commit c = λ d weights h same rep. answered (goal.at.returns-in-Commit c).After-end_row d h Committed (rw c.in-Commit.is refl) rep

pub returns-in-Abort : goal.returns-in-Abort
returns-in-Abort c = λ d weights h same rep. answered (goal.at.returns-in-Abort c).After-end_row d h Aborted (rw c.in-Abort.is refl) rep

-- a transaction has no lock that its kind does not take
unlike : (s : State) → (d : DistanceFunction) × (h : Schedule) × IsStateOf d h s → (t : TxnId) (row : Transaction) → (0 < t.0) × (t.0 ≤ length s.transactions.items)
    → ((k : ℕ) → t.0 ≡ k + 1 → row ≡ slice_index_or s.transactions.items k row) → (x : ℕ) → x < length s.locks.locks → has_lock_unlike row.kind (locks_at s.locks.locks x) t.0 ≡ false
unlike s reached t row known is =
    no_lock_unlike reached.0 reached.1 s.items s.transactions.items s.locks.locks s.ledgers reached.2 t.0 row.kind
    (row_query reached.0 reached.1 s.items s.transactions.items s.locks.locks s.ledgers reached.2 t.0 row known is)

pub settle_as-requires-clause-of_kind : goal.settle_as-requires-clause-of_kind
settle_as-requires-clause-of_kind c = unlike c.args.self.now c.requires.reached c.args.t c.transaction-row.result c.in_default.ensures.ready c.transaction-row.ensures

pub release_as-requires : goal.release_as-requires
release_as-requires c = unlike c.args.self.now c.requires.reached c.args.t c.transaction-row.result c.in_default.ensures.ready c.transaction-row.ensures
