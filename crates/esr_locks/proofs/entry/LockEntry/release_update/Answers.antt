use Rattle.std.proofs.Common.{◌≡◌, ◌∙◌, ap, subst, refl, not, ℕ, map, ◌==◌, false, Option, None, Some, if◌then◌else◌, arith, filter, unwrap_or, option_map}
use Rattle.esr_base.specs.declared.numbers.TxnId.{TxnId}
use Rattle.esr_history.proofs.Ascending.{filter_ascends, map-others}
use Rattle.esr_locks.specs.LockEntries.{LockEntryModel, query_and_count}
use Rattle.esr_locks.specs.Tables.{released_update}
use Rattle.esr_locks.proofs.entry.LockEntry.release_update.Goals as goal
use Rattle.std.proofs.lemmas.Grind.{common_steps}

pub invariant_of-self : goal.invariant_of-self
invariant_of-self c = grind (arith, filter_ascends)

other_writer : (w : Option TxnId) (t : ℕ) → option_map (λ u. u.0) (if unwrap_or (option_map (λ u. u.0 == t) w) false then None else w) ≡ (if unwrap_or (option_map (λ u. u == t) (option_map (λ u. u.0) w)) false then None else option_map (λ u. u.0) w)
other_writer None t = refl
other_writer (Some u) t = grind (arith, common_steps)

pub returns : goal.returns
returns c =
    subst (λ (v : LockEntryModel). record { writer = option_map (λ u. u.0) c.release_writer.new.writer; readers = map (λ r. r.update.0) c.remove_txn.new.self.items; queries = map query_and_count c.self.inside.queries.items } ≡ released_update c.args.t.0 v.locks) c.self.view_is
    (let w : option_map (λ u. u.0) c.release_writer.new.writer ≡ (if unwrap_or (option_map (λ u. u == c.args.t.0) (option_map (λ u. u.0) c.self.inside.writer)) false then None else option_map (λ u. u.0) c.self.inside.writer) =
    ap (option_map (λ (u : TxnId). u.0)) c.release_writer.ensures ∙ other_writer c.self.inside.writer c.args.t.0 in
    let r : map (λ r. r.update.0) c.remove_txn.new.self.items ≡ filter (λ u. not (u == c.args.t.0)) (map (λ r. r.update.0) c.self.inside.readers.items) =
    rw c.remove_txn.ensures (map-others (λ r. r.update.0) (λ u. u) (λ r. r.update.0) (λ r. refl) c.args.t.0 c.self.inside.readers.items) in
    rw (w, r) refl)
