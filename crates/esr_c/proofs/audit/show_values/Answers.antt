use Rattle.std.proofs.Common.{◌≡◌, ◌∙◌, ◌<◌, ℕ, ap, length, subst, sym}
use Rattle.std.proofs.lemmas.List.FromFn.{length-map-range_with_len}
use Rattle.esr_history.specs.Events.{committed_value}
use Rattle.esr_history.specs.Machine.{Schedule, accepted_in}
use Rattle.esr_core.specs.Renewed.{committed_values}
use Rattle.esr_c.proofs.audit.show_values.Goals as goal

many : (h : Schedule) → length (committed_values h) ≡ length h.opening
many h = length-map-range_with_len (committed_value h.opening (accepted_in h)) 0 (length h.opening)

pub returns-in-Ok-clause-values : goal.returns-in-Ok-clause-values
returns-in-Ok-clause-values g c =
    let list = g.deref.ensures.value ∙ g.in-Ok.ensures in
    (g.hand_out.ensures.filled c ∙ list, g.hand_out.ensures.count ∙ (ap length list ∙ many g.args.engine.now))

pub returns-in-Ok-clause-small : goal.returns-in-Ok-clause-small
returns-in-Ok-clause-small g c =
    let count = g.hand_out.ensures.count in
    (subst (λ (n : ℕ). length g.args.values.now < n) (sym count) (g.hand_out.ensures.small.0 c), count ∙ (ap length (g.deref.ensures.value ∙ g.in-Ok.ensures) ∙ many g.args.engine.now))
