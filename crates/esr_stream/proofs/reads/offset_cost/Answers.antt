use Rattle.std.proofs.Common.{◌≡◌, ◌+◌, ℕ, ℤ, List, All, length, arith, ap, ◌∙◌, sym, subst, w64, to_z, of_z}
use Rattle.std.proofs.lemmas.Int.{to_z-of_z}
use Rattle.esr_items.specs.Values.{IsValue}
use Rattle.esr_stream.specs.Reads.{list_at, distance_sum}
use Rattle.esr_stream.proofs.ValueLists.{list_is, value_fits}
use Rattle.esr_stream.proofs.RowLaws.{cost_bounded}
use Rattle.esr_stream.proofs.reads.offset_cost.Given.{Over}
use Rattle.esr_stream.proofs.reads.offset_cost.Goals as goal

values : (g : Over) (c : goal.After-deref g) → c.deref.result.now ≡ list_at c.args.values_read.now c.args.x.0
values g c = c.deref.ensures.value ∙ list_is c.args.values_read.now c.args.x.0 c.index-values_read-x.result c.requires.item c.index-values_read-x.is

pub total_distance-requires-clause-count_within_max : goal.total_distance-requires-clause-count_within_max
total_distance-requires-clause-count_within_max g c = omega (arith, ap (λ (vs : List ℤ). length vs) (values g c), c.requires.reads_in_range.count_within_max c.args.x.0)

pub total_distance-requires-clause-values : goal.total_distance-requires-clause-values
total_distance-requires-clause-values g c = subst (All IsValue) (sym (values g c)) (c.requires.reads_in_range.values c.args.x.0)

version : (g : Over) (c : goal.After-total_distance g) → to_z w64 (of_z w64 c.args.version) ≡ c.args.version
version g c = to_z-of_z w64 c.args.version (value_fits c.args.version c.requires.version)

told : (g : Over) (c : goal.After-total_distance g) → c.total_distance.result ≡ distance_sum (g.M.Metric.distance_by (g.M.Metric.weights c.args.metric.now)) c.args.x.0 (list_at c.args.values_read.now c.args.x.0) c.args.version
told g c =
    let D : ℕ → ℤ → ℤ → ℕ = g.M.Metric.distance_by (g.M.Metric.weights c.args.metric.now) in
    c.total_distance.ensures
    ∙ ap (λ v. distance_sum D c.args.x.0 c.deref.result.now v) (version g c)
    ∙ ap (λ vs. distance_sum D c.args.x.0 vs c.args.version) (c.deref.ensures.value ∙ list_is c.args.values_read.now c.args.x.0 c.index-values_read-x.result c.requires.item c.index-values_read-x.is)

pub overflow_add-result : goal.overflow_add-result
overflow_add-result g c =
    let D : ℕ → ℤ → ℤ → ℕ = g.M.Metric.distance_by (g.M.Metric.weights c.args.metric.now) in
    let bound = cost_bounded D c.args.x.0 c.args.version (list_at c.args.values_read.now c.args.x.0) (λ a is. g.met.M.Metric.bounded (g.M.Metric.weights c.args.metric.now) c.args.x.0 a c.args.version is c.requires.version) (c.requires.reads_in_range.values c.args.x.0) (c.requires.reads_in_range.count_within_max c.args.x.0) in
    omega (arith, told g c, bound)

pub returns : goal.returns
returns g c = ap (λ n. n + 17592186044416) (told g c)
