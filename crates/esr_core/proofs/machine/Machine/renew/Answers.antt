use Rattle.std.proofs.Common.{◌≡◌, ◌≤◌, ◌∙◌, ap, length, List, [], ℤ, arith}
use Rattle.std.proofs.lemmas.List.FromFn.{length-map-range_with_len}
use Rattle.esr_history.specs.Machine.{Schedule}
use Rattle.esr_core.proofs.Renewed.{as_one}
use Rattle.esr_core.proofs.machine.Machine.renew.Goals as goal

pub restart-requires-clause-items : goal.restart-requires-clause-items
restart-requires-clause-items g c = grind (arith, length-map-range_with_len)

pub invariant_of-self : goal.invariant_of-self
invariant_of-self g c =
    let h = c.restart.new.self.schedule in
    let entries : h.entries ≡ [] = ap (λ (s : Schedule). s.entries) c.restart.ensures in
    let count_within_max : length h.entries ≤ 1000000 = rw entries (omega arith) in
    (c.in-Ok.ensures.state g.M.Metric.distance_by h entries (ap (λ (s : Schedule). s.opening) c.restart.ensures), count_within_max)

pub returns-in-Ok-clause-ok : goal.returns-in-Ok-clause-ok
returns-in-Ok-clause-ok g c = c.restart.ensures ∙ ap (λ (vs : List ℤ). record { opening = vs; weights = g.M.Metric.weights c.args.metric; entries = [] }) c.in-Ok.ensures.opening

pub returns-in-Ok-clause-serializable_as_one : goal.returns-in-Ok-clause-serializable_as_one
returns-in-Ok-clause-serializable_as_one g c =
    λ later legal. as_one g.M.Metric.distance_by c.args.self.now _ c.in-Ok.ensures.legal legal (ap (λ (s : Schedule). s.opening) c.restart.ensures ∙ c.in-Ok.ensures.opening)
