use Rattle.std.proofs.Common.{◌≡◌, ℕ, ℤ, pos, ◌∷◌, take, get_or, map, arith, ap, ◌∙◌, w64, to_z, of_z, take_all}
use Rattle.std.proofs.lemmas.Int.{to_z-of_z}
use Rattle.esr_audit.specs.Reads.{distance_sum}
use Rattle.esr_audit.proofs.Gathered.{value_fits, cost_step}
use Rattle.esr_audit.proofs.chains.costs_of.Goals as goal

pub loop-version-preserved : goal.loop-version-preserved
loop-version-preserved g c =
    let D : ℤ → ℕ = distance_sum (g.M.Metric.distance_by (g.M.Metric.weights c.args.metric.now)) c.args.x.0 c.args.values.now in
    let v : ℤ = get_or c.args.versions.now c.loop-version.version-index (pos 0) in
    let read : to_z w64 (of_z w64 v) ≡ v = to_z-of_z w64 v (value_fits v (c.requires.versions_in_range c.loop-version.version-index (pos 0) c.loop-version-test.true)) in
    cost_step D (to_z w64 (of_z w64 c.args.opening)) c.args.versions.now c.loop-version.costs.items c.push-in-loop-version.new.self.items c.distance_to-in-loop-version.result c.loop-version.version-index
    c.in_ok-push-2.ensures.items c.loop-version.invariant c.loop-version-test.true (c.distance_to-in-loop-version.ensures ∙ ap D read)

pub returns : goal.returns
returns g c =
    let D : ℤ → ℕ = distance_sum (g.M.Metric.distance_by (g.M.Metric.weights c.args.metric.now)) c.args.x.0 c.args.values.now in
    let same : to_z w64 (of_z w64 c.args.opening) ≡ c.args.opening = to_z-of_z w64 c.args.opening (value_fits c.args.opening c.requires.opening_in_range) in
    c.loop-version.invariant ∙ ap (λ o. map D (o ∷ take c.loop-version.version-index c.args.versions.now)) same ∙ ap (λ vs. map D (c.args.opening ∷ vs)) (take_all c.loop-version.version-index c.args.versions.now (omega arith))
