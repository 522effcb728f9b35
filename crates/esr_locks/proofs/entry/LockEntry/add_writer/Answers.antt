use Rattle.std.proofs.Common.{rules, ◌≡◌, ◌∙◌, ◌||◌, ◌==◌, sym, ap, subst, refl, not}
use Rattle.std.specs.List.{list_any}
use Rattle.esr_history.proofs.Ascending.{any-map}
use Rattle.esr_locks.specs.LockEntries.{LockEntryModel}
use Rattle.esr_locks.specs.Tables.{has_update_lock}
use Rattle.esr_locks.proofs.Tables.{wrote}
use Rattle.esr_locks.proofs.entry.LockEntry.add_writer.Goals as goal

pub returns-clause-is_new : goal.returns-clause-is_new
returns-clause-is_new c =
    let readers = c.self.inside.readers.items in
    let read = any-map (λ r. r.update.0) (λ u. u) (λ r. r.update.0) (λ r. refl) c.args.t.0 readers in
    let has_read = c.is_reader-has_read.ensures ∙ (ap (list_any (λ r. r.update.0 == c.args.t.0)) c.as_slice.ensures ∙ sym read) in
    let has_written = c.writer_is-has_written.ensures ∙ wrote c.self.inside.writer c.args.t.0 in
    subst (λ (v : LockEntryModel). not (c.writer_is-has_written.result || c.is_reader-has_read.result) ≡ not (has_update_lock v.locks c.args.t.0)) c.self.view_is
    (rw has_written (rw has_read refl))

pub returns-clause-locks : goal.returns-clause-locks
returns-clause-locks c = search rules
