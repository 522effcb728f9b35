use Rattle.std.proofs.Common.{◌≡◌, ℕ, ◌<◌, sym, subst, map, length, false, if◌then◌else◌, arith}
use Rattle.std.proofs.lemmas.List.{length-map}
use Rattle.esr_history.specs.ItemLocks.{ItemLocks}
use Rattle.esr_locks.specs.LockEntries.{LockEntryModel, entry_at, items_locked_by}
use Rattle.esr_locks.specs.Tables.{LockTableModel, locks_at, released, contains_item, has_other_lock}
use Rattle.esr_locks.proofs.Tables.{locks_at-entries, released_all, IsLockTable-released}
use Rattle.esr_locks.proofs.table.LockTable.release_listed.Goals as goal
use Rattle.esr_locks.proofs.table.LockTable.release_listed.Goals.{After-release_each}
use Rattle.std.proofs.lemmas.Grind.{common_steps}

each : (c : After-release_each) (x : ℕ) → x < length c.self.inside.entries.items
    → (entry_at c.release_each.new.entries.items x).locks ≡ (if contains_item (items_locked_by c.self.inside.by_transaction.items c.args.t.0).items x then released c.args.t.0 (entry_at c.self.inside.entries.items x).locks else (entry_at c.self.inside.entries.items x).locks)
each c x l = grind (arith, common_steps)

pub invariant_of-self : goal.invariant_of-self
invariant_of-self c =
    IsLockTable-released c.self.inside.entries.items c.self.inside.by_transaction.items c.self.invariant c.args.t.0 c.release_each.new.entries.items c.clear_list.new.by_transaction.items
    c.release_each.ensures.len (each (goal.at.invariant_of-self c).After-release_each) c.clear_list.ensures

pub returns : goal.returns
returns c =
    subst (λ (v : LockTableModel). map (λ (r : LockEntryModel). r.locks) c.release_each.new.entries.items ≡ map (released c.args.t.0) v.locks) c.self.view_is
    (released_all c.self.inside.entries.items c.self.inside.by_transaction.items c.self.invariant c.args.t.0 c.release_each.new.entries.items c.clear_list.new.by_transaction.items
    c.release_each.ensures.len (each (goal.at.returns c).After-release_each) c.clear_list.ensures)

pub release_each-requires-clause-of_kind : goal.release_each-requires-clause-of_kind
release_each-requires-clause-of_kind c = λ x l.
    let none : (y : ℕ) → y < length (map (λ (r : LockEntryModel). r.locks) c.self.inside.entries.items) → has_other_lock c.args.kind (locks_at (map (λ (r : LockEntryModel). r.locks) c.self.inside.entries.items) y) c.args.t.0 ≡ false =
    subst (λ (v : LockTableModel). (y : ℕ) → y < length v.locks → has_other_lock c.args.kind (locks_at v.locks y) c.args.t.0 ≡ false) (sym c.self.view_is) c.requires in
    subst (λ (g : ItemLocks). has_other_lock c.args.kind g c.args.t.0 ≡ false) (locks_at-entries c.self.inside.entries.items x l)
    (none x (subst (λ n. x < n) (sym (length-map c.self.inside.entries.items (λ (r : LockEntryModel). r.locks))) l))
