use Rattle.std.proofs.Common.{◌≡◌, ℕ, ◌<◌, ◌∙◌, ◌++◌, ◌∷◌, [], sym, ap, subst, refl, length, map, true, ◌⊎◌, set}
use Rattle.std.proofs.lemmas.Bool.{not-false}
use Rattle.std.proofs.lemmas.List.{length-map}
use Rattle.esr_history.specs.ItemLocks.{ItemLocks}
use Rattle.esr_locks.specs.LockEntries.{LockEntryModel, LockedItemsModel, with_lock, has_lock_in_mode}
use Rattle.esr_locks.specs.Tables.{LockTableModel, spare_list_capacity, locks_at, has_lock}
use Rattle.esr_locks.proofs.Tables.{set_entry, set_same_entry, IsLockTable-push, IsLockTable-already_locked, has_list, read_list, lock_more, such_has}
use Rattle.esr_locks.proofs.table.LockTable.try_add_listed.Goals as goal
use Rattle.esr_locks.proofs.table.LockTable.try_add_listed.Goals.{After-try_add}

inside : (c : After-try_add) → c.args.x.0 < length c.self.inside.entries.items
inside c = rw (← length-map c.self.inside.entries.items (λ (r : LockEntryModel). r.locks)) (subst (λ (v : LockTableModel). c.args.x.0 < length v.locks) (sym c.self.view_is) c.requires.item)

in_list : (c : After-try_add) → c.args.t.0 < length c.self.inside.by_transaction.items
in_list c =
    has_list c.self.inside.by_transaction.items c.args.t.0 (subst (λ (v : LockTableModel). 0 < spare_list_capacity v c.args.t.0) (sym c.self.view_is) c.requires.list_capacity)

added : (c : After-try_add) → c.try_add.new.self.locks ≡ with_lock c.args.mode c.args.t.0 c.index_mut.result.now.locks → map (λ (r : LockEntryModel). r.locks) (set c.self.inside.entries.items c.args.x.0 c.try_add.new.self) ≡ set c.args.self.now.locks c.args.x.0 (with_lock c.args.mode c.args.t.0 (locks_at c.args.self.now.locks c.args.x.0))
added c locks =
    subst (λ (v : LockTableModel). map (λ (r : LockEntryModel). r.locks) (set c.self.inside.entries.items c.args.x.0 c.try_add.new.self) ≡ set v.locks c.args.x.0 (with_lock c.args.mode c.args.t.0 (locks_at v.locks c.args.x.0))) c.self.view_is
    (set_entry c.self.inside.entries.items c.args.x.0 c.index_mut.result.now c.try_add.new.self (λ (l : ItemLocks). with_lock c.args.mode c.args.t.0 l) (inside c) c.index_mut.ensures.value locks)

more : (c : After-try_add) → c.try_add.new.self.locks ≡ with_lock c.args.mode c.args.t.0 c.index_mut.result.now.locks → (u : ℕ) → has_lock c.try_add.new.self.locks u ≡ true → (has_lock c.index_mut.result.now.locks u ≡ true) ⊎ (c.args.t.0 ≡ u)
more c locks u is = lock_more c.args.mode c.args.t.0 u c.index_mut.result.now.locks (ap (λ (l : ItemLocks). has_lock l u) (sym locks) ∙ is)

pub returns-in_default-clause-err : goal.returns-in_default-clause-err
returns-in_default-clause-err c =
    set_same_entry c.self.inside.entries.items c.args.x.0 c.index_mut.result.now c.try_add.new.self c.index_mut.ensures.value c.in_default.ensures.err
    ∙ ap (λ (v : LockTableModel). v.locks) c.self.view_is

pub invariant_of-self-then-is_new : goal.invariant_of-self-then-is_new
invariant_of-self-then-is_new c =
    let w : After-try_add = (goal.at.invariant_of-self-then-is_new c).After-try_add in
    let lists = c.self.inside.by_transaction.items in
    let list = c.index_mut-then-is_new.result.now in
    IsLockTable-push c.self.inside.entries.items lists c.self.invariant c.args.t.0 c.args.x.0 (inside w) c.index_mut.result.now c.try_add.new.self c.index_mut.ensures.value c.push.new.self (more w c.in-Ok.ensures.locks) (in_list w) c.args.x refl
    (c.push.ensures ∙ ap (λ (h : LockedItemsModel). h.items ++ c.args.x ∷ []) (read_list lists c.args.t.0 list (in_list w) c.index_mut-then-is_new.ensures.value))

pub invariant_of-self-else-is_new : goal.invariant_of-self-else-is_new
invariant_of-self-else-is_new c =
    let w : After-try_add = (goal.at.invariant_of-self-else-is_new c).After-try_add in
    IsLockTable-already_locked c.self.inside.entries.items c.self.inside.by_transaction.items c.self.invariant c.args.t.0 c.args.x.0 (inside w) c.index_mut.result.now c.try_add.new.self c.index_mut.ensures.value (more w c.in-Ok.ensures.locks)
    (such_has c.args.mode c.args.t.0 c.index_mut.result.now.locks (not-false (has_lock_in_mode c.args.mode c.index_mut.result.now.locks c.args.t.0) (sym c.in-Ok.ensures.is_new ∙ c.if-is_new.false)))

pub returns-then-is_new-clause-ok : goal.returns-then-is_new-clause-ok
returns-then-is_new-clause-ok c = added (goal.at.returns-then-is_new-clause-ok c).After-try_add c.in-Ok.ensures.locks

pub returns-else-is_new-clause-ok : goal.returns-else-is_new-clause-ok
returns-else-is_new-clause-ok c = added (goal.at.returns-else-is_new-clause-ok c).After-try_add c.in-Ok.ensures.locks
