use Rattle.std.proofs.Common.{◌∙◌, ◌<◌, ℕ, ap, length, subst, sym}
use Rattle.esr_svg.specs.Svg.{IsSvg}
use Rattle.esr_c.proofs.texts.show_picture.Goals as goal

pub returns-in-Ok-clause-picture : goal.returns-in-Ok-clause-picture
returns-in-Ok-clause-picture g c =
    let filled = g.hand_out.ensures.filled c in
    (subst (IsSvg) (sym (filled ∙ g.deref.ensures.value)) g.in-Ok.ensures.ok, g.hand_out.ensures.count ∙ ap length (sym filled))

pub returns-in-Ok-clause-small : goal.returns-in-Ok-clause-small
returns-in-Ok-clause-small g c =
    let count = g.hand_out.ensures.count in
    (subst (λ (n : ℕ). length g.args.bytes.now < n) (sym count) (g.hand_out.ensures.small.0 c), (g.in-Ok.text.items, g.in-Ok.ensures.ok, count ∙ ap length g.deref.ensures.value))
