use Rattle.std.proofs.Common.{◌≡◌, ◌∙◌, sym, ap, subst, refl, not, ℕ, map, ◌<◌, arith, All}
use Rattle.esr_history.proofs.Ascending.{placed_ascends, map-upserted, any-map}
use Rattle.esr_locks.specs.LockEntries.{LockEntryModel, query_and_count}
use Rattle.esr_locks.specs.Tables.{has_query_lock}
use Rattle.esr_locks.proofs.Least.{All-from_map}
use Rattle.esr_locks.proofs.entry.LockEntry.add_query_read.Goals as goal

pub count_read-requires-clause-count_within_max : goal.count_read-requires-clause-count_within_max
count_read-requires-clause-count_within_max c =
    All-from_map query_and_count (λ r. r.0 ≡ c.args.q.0 → r.1 < 1000) c.self.inside.queries.items
    (subst (λ (v : LockEntryModel). All (λ r. r.0 ≡ c.args.q.0 → r.1 < 1000) v.locks.queries) (sym c.self.view_is) c.requires.count_within_max)

pub invariant_of-self : goal.invariant_of-self
invariant_of-self c = grind (arith, placed_ascends)

pub returns-clause-locks : goal.returns-clause-locks
returns-clause-locks c =
    grind (arith, map, map query_and_count c.count_read.new.queries.items, map query_and_count c.self.inside.queries.items, map-upserted)

pub returns-clause-is_new : goal.returns-clause-is_new
returns-clause-is_new c =
    subst (λ (v : LockEntryModel). c.count_read.result ≡ not (has_query_lock v.locks c.args.q.0)) c.self.view_is
    (c.count_read.ensures.is_new ∙ ap not (sym (any-map (λ r. r.query.0) (λ (r : ℕ × ℕ). r.0) query_and_count (λ r. refl) c.args.q.0 c.self.inside.queries.items)))
