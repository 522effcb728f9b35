use Rattle.std.proofs.Common.{◌≡◌, ◌∙◌, sym, ap, refl, not, ◌==◌, true, ◌&&◌, Option, None, Some, find, option_map, arith}
use Rattle.std.specs.List.{list_any}
use Rattle.esr_history.proofs.Ascending.{any-map}
use Rattle.esr_history.specs.Ascending.{IsSmallest}
use Rattle.esr_locks.specs.declared.lists.Reader.{Reader}
use Rattle.esr_locks.specs.Modes.{Read, conflicts}
use Rattle.esr_locks.specs.LockEntries.{LockEntryModel}
use Rattle.esr_locks.specs.Tables.{is_reader}
use Rattle.esr_locks.proofs.Least.{IsSmallest-extensional, least_other}
use Rattle.esr_locks.proofs.entry.LockEntry.blocking_reader.Goals as goal

number_of : (r : Option Reader) → option_map (λ u. u.0) (option_map (λ v. v.update) r) ≡ option_map (λ v. v.update.0) r
number_of None = refl
number_of (Some r) = refl

pub returns-then-conflicts : goal.returns-then-conflicts
returns-then-conflicts c =
    let t = c.args.t.0 in
    let readers = c.self.inside.readers.items in
    let relevant : IsSmallest (λ u. not (u == t) && list_any (λ r. r.update.0 == u) readers) (option_map (λ v. v.0) c.other_reader.result) =
    rw (c.other_reader.ensures, c.as_slice.ensures, number_of (find (λ r. not (r.update.0 == t)) readers)) (least_other (λ r. r.update.0) t readers c.self.invariant.0) in
    let on : conflicts Read c.args.asked ≡ true = sym c.conflicts.ensures ∙ c.if-conflicts.true in
    IsSmallest-extensional (λ u. not (u == t) && list_any (λ r. r.update.0 == u) readers) (λ u. not (u == t) && (conflicts Read c.args.asked && is_reader c.args.self.now.locks u)) _
    (λ u. ap (λ b. not (u == t) && b) (sym (any-map (λ r. r.update.0) (λ v. v) (λ r. r.update.0) (λ r. refl) u readers) ∙ ap (λ (v : LockEntryModel). is_reader v.locks u) c.self.view_is
    ∙ ap (λ b. b && is_reader c.args.self.now.locks u) (sym on))) relevant

pub returns-else-conflicts : goal.returns-else-conflicts
returns-else-conflicts c = λ u. rw (sym c.conflicts.ensures ∙ c.if-conflicts.false) (grind arith)
