use Rattle.std.proofs.Common.{◌≡◌, ℕ, ◌<◌, ◌∙◌, sym, ap, subst, length, map, true, arith, ◌⊎◌, set, slice_index}
use Rattle.std.proofs.lemmas.Bool.{not-false}
use Rattle.std.proofs.lemmas.List.{length-map, get_or-map}
use Rattle.esr_history.specs.ItemLocks.{ItemLocks}
use Rattle.esr_locks.specs.LockEntries.{LockEntryModel, spare_of, with_lock, has_lock_in_mode}
use Rattle.esr_locks.specs.Tables.{LockTableModel, spare_list_capacity, locks_at, has_lock}
use Rattle.esr_locks.proofs.Tables.{set_entry, IsLockTable-push, IsLockTable-already_locked, has_list, read_list, lock_more, such_has}
use Rattle.esr_locks.proofs.table.LockTable.add.Goals as goal
use Rattle.esr_locks.proofs.table.LockTable.add.Goals.{After-add}

inside : (c : After-add) → c.args.x.0 < length c.self.inside.entries.items
inside c = rw (← length-map c.self.inside.entries.items (λ (r : LockEntryModel). r.locks)) (subst (λ (v : LockTableModel). c.args.x.0 < length v.locks) (sym c.self.view_is) c.requires.item)

in_list : (c : After-add) → c.args.t.0 < length c.self.inside.by_transaction.items
in_list c =
    has_list c.self.inside.by_transaction.items c.args.t.0 (subst (λ (v : LockTableModel). 0 < spare_list_capacity v c.args.t.0) (sym c.self.view_is) c.requires.list_capacity)

pub add-requires-clause-spare_capacity : goal.add-requires-clause-spare_capacity
add-requires-clause-spare_capacity c = λ reads.
    let spare : 0 < slice_index (map (λ (r : LockEntryModel). spare_of r) c.self.inside.entries.items) c.args.x.0 = subst (λ (v : LockTableModel). 0 < slice_index v.spare_by_item c.args.x.0) (sym c.self.view_is) (c.requires.item_capacity reads) in
    let in_rows : c.args.x.0 < length c.self.inside.entries.items = rw (← length-map c.self.inside.entries.items (λ (r : LockEntryModel). r.locks)) (subst (λ (v : LockTableModel). c.args.x.0 < length v.locks) (sym c.self.view_is) c.requires.item) in
    subst (λ n. 0 < n) (get_or-map (λ (r : LockEntryModel). spare_of r) c.self.inside.entries.items c.args.x.0 c.index_mut.result.now 0 in_rows ∙ ap (λ (r : LockEntryModel). spare_of r) (sym c.index_mut.ensures.value)) spare

more : (c : After-add) (u : ℕ) → has_lock c.add.new.self.locks u ≡ true → (has_lock c.index_mut.result.now.locks u ≡ true) ⊎ (c.args.t.0 ≡ u)
more c u is = lock_more c.args.mode c.args.t.0 u c.index_mut.result.now.locks (ap (λ (l : ItemLocks). has_lock l u) (sym c.add.ensures.locks) ∙ is)

locks : (c : After-add) → map (λ (r : LockEntryModel). r.locks) (set c.self.inside.entries.items c.args.x.0 c.add.new.self) ≡ set c.args.self.now.locks c.args.x.0 (with_lock c.args.mode c.args.t.0 (locks_at c.args.self.now.locks c.args.x.0))
locks c =
    subst (λ (v : LockTableModel). map (λ (r : LockEntryModel). r.locks) (set c.self.inside.entries.items c.args.x.0 c.add.new.self) ≡ set v.locks c.args.x.0 (with_lock c.args.mode c.args.t.0 (locks_at v.locks c.args.x.0))) c.self.view_is
    (set_entry c.self.inside.entries.items c.args.x.0 c.index_mut.result.now c.add.new.self (λ (l : ItemLocks). with_lock c.args.mode c.args.t.0 l) (inside c) c.index_mut.ensures.value c.add.ensures.locks)

pub invariant_of-self : goal.invariant_of-self
invariant_of-self c = grind (arith, After-add, IsLockTable-push, inside, more, in_list, read_list)

pub invariant_of-self-else-add : goal.invariant_of-self-else-add
invariant_of-self-else-add c =
    let w : After-add = (goal.at.invariant_of-self-else-add c).After-add in
    IsLockTable-already_locked c.self.inside.entries.items c.self.inside.by_transaction.items c.self.invariant c.args.t.0 c.args.x.0 (inside w) c.index_mut.result.now c.add.new.self c.index_mut.ensures.value (more w)
    (such_has c.args.mode c.args.t.0 c.index_mut.result.now.locks (not-false (has_lock_in_mode c.args.mode c.index_mut.result.now.locks c.args.t.0) (sym c.add.ensures.is_new ∙ c.if-add.false)))

pub returns-then-add-clause-locks : goal.returns-then-add-clause-locks
returns-then-add-clause-locks c = locks (goal.at.returns-then-add-clause-locks c).After-add

pub returns-else-add-clause-locks : goal.returns-else-add-clause-locks
returns-else-add-clause-locks c = locks (goal.at.returns-else-add-clause-locks c).After-add
