use Rattle.std.proofs.Common.{sym, subst}
use Rattle.esr_history.specs.Machine.{Schedule}
use Rattle.esr_core.specs.States.{IsStateOf}
use Rattle.esr_core.proofs.machine.Machine.read.Goals as goal

pub record-requires-clause-legal : goal.record-requires-clause-legal
record-requires-clause-legal g c =
    let represents : IsStateOf g.M.Metric.distance_by c.reserve_entry.new.history.schedule c.self.inside.state =
    subst (λ (h : Schedule). IsStateOf g.M.Metric.distance_by h c.self.inside.state) (sym c.reserve_entry.ensures.schedule) c.self.invariant.0 in
    (c.in-Ok.ensures.answers c.reserve_entry.new.history.schedule (sym c.metric.ensures) represents).0
