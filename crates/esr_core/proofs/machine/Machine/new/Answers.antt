use Rattle.std.proofs.Common.{◌≡◌, ◌≤◌, ◌∙◌, ap, map, arith, [], length}
use Rattle.esr_core.specs.Types.{Versions}
use Rattle.esr_history.specs.Machine.{Schedule}
use Rattle.esr_core.proofs.machine.Machine.new.Goals as goal

pub invariant_of-result : goal.invariant_of-result
invariant_of-result g c =
    let h = c.in_ok-new-2.field-0.schedule in
    let entries : h.entries ≡ [] = ap (λ (s : Schedule). s.entries) c.in_ok-new-2.ensures in
    let opening : h.opening ≡ map (λ (w : Versions). w.committed) c.args.items = ap (λ (s : Schedule). s.opening) c.in_ok-new-2.ensures ∙ c.in_ok-opening.ensures.values in
    let count_within_max : length h.entries ≤ 1000000 = rw entries (omega arith) in
    (c.in_ok-new.ensures g.M.Metric.distance_by h entries opening, count_within_max)
