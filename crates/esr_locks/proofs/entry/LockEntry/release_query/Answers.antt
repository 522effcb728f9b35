use Rattle.std.proofs.Common.{◌≡◌, subst, refl, not, ℕ, map, ◌==◌, arith, filter, option_map}
use Rattle.esr_history.proofs.Ascending.{filter_ascends, all_filter, map-others}
use Rattle.esr_locks.specs.LockEntries.{LockEntryModel, query_and_count}
use Rattle.esr_locks.specs.Tables.{released_query}
use Rattle.esr_locks.proofs.entry.LockEntry.release_query.Goals as goal

pub invariant_of-self : goal.invariant_of-self
invariant_of-self c = grind (arith, filter_ascends, all_filter)

pub returns : goal.returns
returns c =
    subst (λ (v : LockEntryModel). record { writer = option_map (λ u. u.0) c.self.inside.writer; readers = map (λ r. r.update.0) c.self.inside.readers.items; queries = map query_and_count c.remove_txn.new.self.items } ≡ released_query c.args.t.0 v.locks) c.self.view_is
    (let q : map query_and_count c.remove_txn.new.self.items ≡ filter (λ (p : ℕ × ℕ). not (p.0 == c.args.t.0)) (map query_and_count c.self.inside.queries.items) =
    rw c.remove_txn.ensures (map-others (λ r. r.query.0) (λ (p : ℕ × ℕ). p.0) query_and_count (λ r. refl) c.args.t.0 c.self.inside.queries.items) in
    rw q refl)
