use Rattle.std.proofs.Common.{◌∙◌, ◌+◌, ◌≤◌, ap, subst, length}
use Rattle.esr_base.specs.declared.limits.TheConstants.{MAX_ENTRIES}
use Rattle.esr_items.specs.Weights.{weighted}
use Rattle.esr_history.specs.Machine.{IsLegal, Schedule, accepted_in}
use Rattle.esr_engine.specs.Capacity.{active_count}
use Rattle.esr_engine.proofs.CarriedEngine.{carried_engine, replayed, replays}
use Rattle.esr_engine.proofs.engine.EmbeddedEngine.carried.Goals as goal

pub replay-requires : goal.replay-requires
replay-requires c =
    replays c.args.self.now (subst (IsLegal weighted) c.self.view_is c.log-invariant.ensures.legal) c.machine.inside.machine (c.machine.view_is ∙ c.in_ok-machine.ensures) c.args.entries.now c.requires

pub invariant_of-result : goal.invariant_of-result
invariant_of-result c =
    let h = c.args.self.now in let s = c.machine.inside.machine in let active = c.self.inside.active in
    let start = c.machine.view_is ∙ c.in_ok-machine.ensures in
    carried_engine h active (c.self.invariant.3 ∙ ap (λ (k : Schedule). active_count (accepted_in k)) c.self.view_is)
    (subst (λ (k : Schedule). length k.entries + active ≤ MAX_ENTRIES) c.self.view_is c.self.invariant.4) s start
    c.machine.inside.weights.items c.machine.inside.active c.machine.inside.index c.machine.invariant c.replay.new.machine
    (c.in_ok-replay.ensures ∙ replayed h s start c.args.entries.now c.requires)
