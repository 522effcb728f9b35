use Rattle.std.proofs.Common.{◌∙◌, ◌<◌, ℕ, ap, length, subst, sym}
use Rattle.esr_c.specs.HistoryTexts.{IsScriptOf}
use Rattle.esr_c.proofs.past.show_script.Goals as goal

pub returns-in-Ok-clause-script : goal.returns-in-Ok-clause-script
returns-in-Ok-clause-script g c =
    let filled = g.hand_out.ensures.filled c in
    (subst (IsScriptOf g.args.engine.now g.args.names.now) (sym (filled ∙ g.deref.ensures.value)) g.in-Ok.ensures.ok, g.hand_out.ensures.count ∙ ap length (sym filled))

pub returns-in-Ok-clause-small : goal.returns-in-Ok-clause-small
returns-in-Ok-clause-small g c =
    let count = g.hand_out.ensures.count in
    (subst (λ (n : ℕ). length g.args.bytes.now < n) (sym count) (g.hand_out.ensures.small.0 c), (g.in-Ok.text.items, g.in-Ok.ensures.ok, count ∙ ap length g.deref.ensures.value))
