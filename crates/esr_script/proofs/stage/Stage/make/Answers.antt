-- The goals of `Stage::make` that the search does not close.
use Rattle.std.proofs.Common.{refl, ap, ◌∙◌}
use Rattle.esr_history.specs.Machine.{Schedule}
use Rattle.esr_script.proofs.Opens.{opens}
use Rattle.esr_script.proofs.stage.Stage.make.Goals as goal

pub returns-clause-ok : goal.returns-clause-ok
returns-clause-ok c = (
  refl,
  c.in-Ok-new-2.ensures.ok ∙ (c.new-2.ensures ∙ opens c.args.self.now c.in-Open.items c.in-Ok.store c.take_metric-metric.result c.in-Ok-new.machine
      c.in-Open.is c.in-Ok.ensures c.take_metric-metric.ensures.metric c.in-Ok-new.ensures),
)

pub returns-clause-opening : goal.returns-clause-opening
returns-clause-opening c =
    ap (λ (h : Schedule). h.opening)
    (c.in-Ok-new-2.ensures.ok ∙ (c.new-2.ensures ∙ opens c.args.self.now c.in-Open.items c.in-Ok.store c.take_metric-metric.result c.in-Ok-new.machine
    c.in-Open.is c.in-Ok.ensures c.take_metric-metric.ensures.metric c.in-Ok-new.ensures))
