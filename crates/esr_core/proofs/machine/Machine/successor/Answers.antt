use Rattle.std.proofs.Common.{◌≡◌, ◌≤◌, ap, length, [], arith}
use Rattle.std.proofs.lemmas.List.FromFn.{length-map-range_with_len}
use Rattle.esr_history.specs.Machine.{Schedule}
use Rattle.esr_core.proofs.machine.Machine.successor.Goals as goal

pub restart-requires-clause-items : goal.restart-requires-clause-items
restart-requires-clause-items g c = grind (arith, length-map-range_with_len)

pub invariant_of-result : goal.invariant_of-result
invariant_of-result g c =
    let h = c.restart.new.self.schedule in
    let entries : h.entries ≡ [] = ap (λ (s : Schedule). s.entries) c.restart.ensures in
    let count_within_max : length h.entries ≤ 1000000 = rw entries (omega arith) in
    (c.in_ok-state.ensures.state g.M.Metric.distance_by h entries (ap (λ (s : Schedule). s.opening) c.restart.ensures), count_within_max)

pub invariant_of-result-in_default : goal.invariant_of-result-in_default
invariant_of-result-in_default g c =
    let h = c.in_ok-new-in_default.field-0.schedule in
    let entries : h.entries ≡ [] = ap (λ (s : Schedule). s.entries) c.in_ok-new-in_default.ensures in
    let count_within_max : length h.entries ≤ 1000000 = rw entries (omega arith) in
    (c.in_ok-state.ensures.state g.M.Metric.distance_by h entries (ap (λ (s : Schedule). s.opening) c.in_ok-new-in_default.ensures), count_within_max)
