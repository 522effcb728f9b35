use Rattle.std.proofs.Common.{◌≡◌, ℕ, ℤ, pos, ◌+◌, ◌≤◌, take, get_or, arith, ap, ◌∙◌, sym, sum_by, w64, to_z, of_z, take_all}
use Rattle.std.proofs.lemmas.Int.{to_z-of_z}
use Rattle.std.proofs.lemmas.List.Sums.{sum_by_more}
use Rattle.esr_order.proofs.ValueLists.{value_fits}
use Rattle.esr_order.proofs.read_values.distance_to.Given.{Over}
use Rattle.esr_order.proofs.read_values.distance_to.Goals as goal

described : (g : Over) (c : goal.After-distance-sum g) → c.distance-sum.result ≡ g.M.Metric.distance_by (g.M.Metric.weights c.args.metric.now) c.args.x.0 (get_or c.args.values.now c.loop-value.value-index (pos 0)) c.args.version
described g c =
    let v : ℤ = get_or c.args.values.now c.loop-value.value-index (pos 0) in
    let D : ℤ → ℤ → ℕ = g.M.Metric.distance_by (g.M.Metric.weights c.args.metric.now) c.args.x.0 in
    let read : to_z w64 (of_z w64 v) ≡ v = to_z-of_z w64 v (value_fits v (c.requires.values c.loop-value.value-index (pos 0) c.loop-value-test.true)) in
    let version : to_z w64 (of_z w64 c.args.version) ≡ c.args.version = to_z-of_z w64 c.args.version (value_fits c.args.version c.requires.version) in
    c.distance-sum.ensures ∙ ap (λ a. D a (to_z w64 (of_z w64 c.args.version))) read ∙ ap (D v) version

small : (g : Over) (c : goal.After-distance-sum g) → c.distance-sum.result ≤ 2000000000000000
small g c =
    let v : ℤ = get_or c.args.values.now c.loop-value.value-index (pos 0) in
    let b = g.met.M.Metric.bounded (g.M.Metric.weights c.args.metric.now) c.args.x.0 v c.args.version (c.requires.values c.loop-value.value-index (pos 0) c.loop-value-test.true) c.requires.version in
    omega (arith, described g c, b)

pub overflow_add-sum : goal.overflow_add-sum
overflow_add-sum g c = omega (arith, small g c, c.loop-value.invariant.1, c.loop-value-test.true, c.requires.count_within_max)

pub loop-value-preserved : goal.loop-value-preserved
loop-value-preserved g c =
    let D : ℤ → ℤ → ℕ = g.M.Metric.distance_by (g.M.Metric.weights c.args.metric.now) c.args.x.0 in
    let same : to_z w64 (of_z w64 c.args.version) ≡ c.args.version = to_z-of_z w64 c.args.version (value_fits c.args.version c.requires.version) in
    let so_far : c.loop-value.sum ≡ sum_by (λ v. D v c.args.version) (take c.loop-value.value-index c.args.values.now) = c.loop-value.invariant.0 ∙ ap (λ ver. sum_by (λ v. D v ver) (take c.loop-value.value-index c.args.values.now)) same in
    let more = sum_by_more (λ v. D v c.args.version) c.args.values.now c.loop-value.value-index (pos 0) c.loop-value-test.true in
    let sum : c.loop-value.sum + c.distance-sum.result ≡ sum_by (λ v. D v c.args.version) (take (c.loop-value.value-index + 1) c.args.values.now) = omega (arith, so_far, more, described g c) in (
      sum ∙ ap (λ ver. sum_by (λ v. D v ver) (take (c.loop-value.value-index + 1) c.args.values.now)) (sym same),
      omega (arith, small g c, c.loop-value.invariant.1),
    )

pub returns : goal.returns
returns g c =
    let D : ℤ → ℤ → ℕ = g.M.Metric.distance_by (g.M.Metric.weights c.args.metric.now) c.args.x.0 in
    let so_far : c.loop-value.sum ≡ sum_by (λ v. D v c.args.version) (take c.loop-value.value-index c.args.values.now) = c.loop-value.invariant.0 ∙ ap (λ ver. sum_by (λ v. D v ver) (take c.loop-value.value-index c.args.values.now)) (to_z-of_z w64 c.args.version (value_fits c.args.version c.requires.version)) in
    so_far ∙ ap (sum_by (λ v. D v c.args.version)) (take_all c.loop-value.value-index c.args.values.now (omega arith))
