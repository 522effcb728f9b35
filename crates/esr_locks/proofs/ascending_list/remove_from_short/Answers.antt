use Rattle.std.proofs.Common.{◌∙◌, ◌+◌, ◌-◌, ap, sym, length, take, arith}
use Rattle.std.specs.List.{copy_within}
use Rattle.smallvec.proofs.SmallVecLemmas.{items-with_items}
use Rattle.esr_locks.proofs.Shorts.{moved_down}
use Rattle.esr_locks.proofs.ascending_list.remove_from_short.Goals as goal

pub returns : goal.returns
returns g c =
    let elements = c.args.elements.now in
    let moved = c.copy_within.new.self in
    let n = c.len-len.result in
    let at = c.args.at in
    c.pop.ensures.rest
    ∙ (ap (λ l. take (length l - 1) l) (items-with_items elements moved (c.copy_within.ensures.len ∙ ap length c.as_mut_slice.ensures.value))
    ∙ (ap (λ k. take (k - 1) moved) (c.copy_within.ensures.len ∙ (ap length c.as_mut_slice.ensures.value ∙ sym c.len-len.ensures.value))
    ∙ (ap (take (n - 1)) (c.copy_within.ensures.after ∙ ap (λ l. copy_within l (at + 1) n at) c.as_mut_slice.ensures.value)
    ∙ moved_down elements.items at n c.len-len.ensures.value (omega (arith, c.len-len.ensures.value, c.requires)))))
