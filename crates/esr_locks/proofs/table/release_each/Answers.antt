use Rattle.std.proofs.Common.{◌≡◌, ◌<◌, ◌∙◌, sym, ap, subst, length, take, get_or, false, arith}
use Rattle.std.proofs.Math.ListN.{length-set}
use Rattle.esr_base.specs.declared.numbers.ItemId.{ItemId}
use Rattle.esr_history.specs.ItemLocks.{ItemLocks}
use Rattle.esr_locks.specs.LockEntries.{LockEntryModel, entry_at}
use Rattle.esr_locks.specs.Tables.{contains_item, has_other_lock}
use Rattle.esr_locks.proofs.Tables.{release_more, read_entry, no_other_then}
use Rattle.std.proofs.lemmas.List.{get_or_default}
use Rattle.esr_locks.proofs.table.release_each.Goals as goal

pub loop-x-preserved : goal.loop-x-preserved
loop-x-preserved c = grind (arith, length-set, release_more, get_or_default)

pub release-requires : goal.release-requires
release-requires c =
    let id : ItemId = get_or c.args.items.now c.loop-x.x-index (record { 0 = 0 }) in
    let inside : id.0 < length c.args.entries.now.items = c.requires.in_range c.loop-x.x-index (record { 0 = 0 }) c.loop-x-test.true in
    let in_rows : id.0 < length c.loop-x.entries.items = subst (λ n. id.0 < n) (sym c.loop-x.invariant.len) inside in
    subst (λ (l : ItemLocks). has_other_lock c.args.kind l c.args.t.0 ≡ false)
    (sym (ap (λ (r : LockEntryModel). r.locks) (read_entry c.loop-x.entries.items id.0 c.index_mut.result.now in_rows c.index_mut.ensures.value) ∙ c.loop-x.invariant.locks id.0 inside))
    (no_other_then c.args.kind c.args.t.0 (entry_at c.args.entries.now.items id.0).locks (contains_item (take c.loop-x.x-index c.args.items.now) id.0) (c.requires.of_kind id.0 inside))
