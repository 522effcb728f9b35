use Rattle.std.proofs.Common.{◌∙◌, ◌+◌, ap, refl, set, drop, arith}
use Rattle.std.proofs.Math.ListN.{length-set}
use Rattle.smallvec.proofs.SmallVecLemmas.{items-with_items}
use Rattle.esr_locks.proofs.Suffixes.{drop-set_after}
use Rattle.esr_locks.proofs.ascending_list.AscendingList.replace.Goals as goal

pub returns : goal.returns
returns g c =
    let elements = c.self.inside.elements in
    let removed = c.self.inside.removed in
    let at = c.args.at in
    let written = set elements.items (removed + at) c.args.element in
    rw (c.deref_mut.ensures.value, ← c.self.view_is)
    (ap (drop removed) (items-with_items elements written (length-set elements.items (removed + at) c.args.element))
    ∙ drop-set_after elements.items removed at (removed + at) c.args.element (omega (arith, c.self.invariant)) refl)
