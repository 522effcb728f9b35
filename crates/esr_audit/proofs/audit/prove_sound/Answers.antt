use Rattle.esr_history.proofs.Sound.{legal_sound}
use Rattle.esr_audit.proofs.audit.prove_sound.Goals as goal

pub returns : goal.returns
returns g c =
    legal_sound g.M.Metric.distance_by (λ w. record { same = g.met.M.Metric.same w; symmetric = g.met.M.Metric.symmetric w; triangle = g.met.M.Metric.triangle w }) c.args.history.now.schedule c.log-invariant.ensures.legal
