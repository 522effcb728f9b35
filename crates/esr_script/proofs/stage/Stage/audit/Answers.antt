use Rattle.std.proofs.Common.{◌≡◌, IfOk, map, sym, ap, subst}
use Rattle.esr_order.specs.Least.{nearest_placement, least_distance}
use Rattle.esr_items.specs.Weights.{weighted}
use Rattle.esr_script.specs.Stages.{history_of}
use Rattle.esr_script.proofs.Audits.{distance_is, before_is}
use Rattle.esr_script.proofs.stage.Stage.audit.Goals as goal

pub returns-clause-distance : goal.returns-clause-distance
returns-clause-distance c =
    subst (λ h. IfOk c.audit.result (λ f. f.distance ≡ least_distance weighted h c.args.q.0)) (sym (ap history_of c.in-Running.is))
    (distance_is weighted c.in-Running.engine.value c.args.q.0 c.audit.result (rw c.deref_mut.ensures.value at c.audit.ensures.finding))

pub returns-clause-before : goal.returns-clause-before
returns-clause-before c =
    subst (λ h. IfOk c.audit.result (λ f. map (λ t. t.0) f.before.items ≡ nearest_placement weighted h c.args.q.0)) (sym (ap history_of c.in-Running.is))
    (before_is weighted c.in-Running.engine.value c.args.q.0 c.audit.result (rw c.deref_mut.ensures.value at c.audit.ensures.finding))
