use Rattle.std.proofs.Common.{◌≡◌, ◌∙◌, ◌==◌, ◌||◌, sym, ap, subst, refl, not, map, arith, option_map}
use Rattle.std.specs.List.{list_any}
use Rattle.esr_history.specs.Ascending.{upserted}
use Rattle.esr_history.proofs.Ascending.{placed_ascends, map-upserted, any-map}
use Rattle.esr_locks.specs.LockEntries.{LockEntryModel, reader, query_and_count}
use Rattle.esr_locks.specs.Tables.{with_reader, has_update_lock}
use mathlib.Core.Bool.{not-not}
use Rattle.esr_locks.proofs.Tables.{wrote}
use Rattle.esr_locks.proofs.entry.LockEntry.add_reader.Goals as goal

pub invariant_of-self : goal.invariant_of-self
invariant_of-self c = grind (arith, placed_ascends)

pub returns-clause-locks : goal.returns-clause-locks
returns-clause-locks c =
    subst (λ (v : LockEntryModel). record { writer = option_map (λ u. u.0) c.self.inside.writer; readers = map (λ r. r.update.0) c.add_reader-has_read.new.readers.items; queries = map query_and_count c.self.inside.queries.items } ≡ with_reader c.args.t.0 v.locks) c.self.view_is
    (let mapped : map (λ r. r.update.0) c.add_reader-has_read.new.readers.items ≡ upserted (λ u. u) c.args.t.0 c.args.t.0 (λ u. u) (map (λ r. r.update.0) c.self.inside.readers.items) =
    rw c.add_reader-has_read.ensures.items (map-upserted (λ r. r.update.0) (λ u. u) (λ r. r.update.0) (λ r. refl) c.args.t.0 (reader c.args.t) (λ r. r) (λ u. u) (λ u. refl) c.self.inside.readers.items) in
    rw mapped refl)

pub returns-clause-is_new : goal.returns-clause-is_new
returns-clause-is_new c =
    let readers = c.self.inside.readers.items in
    let read = any-map (λ r. r.update.0) (λ u. u) (λ r. r.update.0) (λ r. refl) c.args.t.0 readers in
    let has_read = ap not c.add_reader-has_read.ensures.is_new ∙ (not-not (list_any (λ r. r.update.0 == c.args.t.0) readers) ∙ sym read) in
    let has_written = c.writer_is-has_written.ensures ∙ wrote c.self.inside.writer c.args.t.0 in
    subst (λ (v : LockEntryModel). not (c.writer_is-has_written.result || not c.add_reader-has_read.result) ≡ not (has_update_lock v.locks c.args.t.0)) c.self.view_is
    (rw has_written (rw has_read refl))
