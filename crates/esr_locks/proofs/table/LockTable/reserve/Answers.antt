use Rattle.std.proofs.Common.{◌≡◌, ◌<◌, ◌∙◌, sym, ap, subst, length, map, set, arith, rules, slice_index, Result, Ok, Err, OnOk}
use Rattle.std.proofs.lemmas.List.{length-map}
use Rattle.esr_locks.specs.LockEntries.{LockEntryModel, spare_of}
use Rattle.esr_locks.specs.Tables.{LockTableModel, spare_list_capacity}
use Rattle.esr_locks.proofs.Tables.{set_same_entry, capacity_of_row}
use Rattle.esr_locks.proofs.table.LockTable.reserve.Goals as goal
use Rattle.esr_locks.proofs.table.LockTable.reserve.Goals.{After-reserve}

same : (c : After-reserve) → map (λ (r : LockEntryModel). r.locks) (set c.self.inside.entries.items c.args.x.0 c.reserve.new.self) ≡ c.args.self.now.locks
same c = set_same_entry c.self.inside.entries.items c.args.x.0 c.index_mut.result.now c.reserve.new.self c.index_mut.ensures.value c.reserve.ensures.locks ∙ ap (λ (v : LockTableModel). v.locks) c.self.view_is

pub returns-then-is_err-clause-locks : goal.returns-then-is_err-clause-locks
returns-then-is_err-clause-locks c = same (goal.at.returns-then-is_err-clause-locks c).After-reserve

pub returns-clause-locks : goal.returns-clause-locks
returns-clause-locks c = c.reserve_list.ensures.locks ∙ same (goal.at.returns-clause-locks c).After-reserve

-- where a reservation in the list succeeds
if_reserved : {T E P Q : Type 0} (result : Result T E) → (P → Q) → OnOk result P → OnOk result Q
if_reserved (Ok x) follows holds = follows holds
if_reserved (Err e) follows holds = holds

pub returns-clause-ok : goal.returns-clause-ok
returns-clause-ok c =
    let inside : c.args.x.0 < length c.self.inside.entries.items = rw (← length-map c.self.inside.entries.items (λ (r : LockEntryModel). r.locks)) (subst (λ (v : LockTableModel). c.args.x.0 < length v.locks) (sym c.self.view_is) c.requires) in
    let entry : 0 < spare_of c.reserve.new.self = search rules in
    let row = capacity_of_row c.self.inside.entries.items c.args.x.0 c.reserve.new.self inside in
    let item : 0 < slice_index c.reserve_list.new.self.spare_by_item c.args.x.0 = rw (c.reserve_list.ensures.items, row) entry in
    if_reserved c.reserve_list.result (λ (list : 0 < spare_list_capacity c.reserve_list.new.self c.args.t.0). omega (arith, item, list)) c.reserve_list.ensures.ok
