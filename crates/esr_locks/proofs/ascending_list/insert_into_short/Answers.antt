use Rattle.std.proofs.Common.{◌∙◌, ap, length}
use Rattle.smallvec.proofs.SmallVecLemmas.{items-with_items}
use Rattle.esr_locks.proofs.ascending_list.insert_into_short.Goals as goal

pub returns : goal.returns
returns g c =
    let pushed = c.push_reserved.new.self in
    items-with_items pushed c.move_last.new.stored (c.move_last.ensures.len ∙ ap length c.as_mut_slice.ensures.value)
    ∙ c.move_last.ensures.items c.args.elements.now.items (c.as_mut_slice.ensures.value ∙ c.push_reserved.ensures.items)
