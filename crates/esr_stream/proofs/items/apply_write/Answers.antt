use Rattle.std.proofs.Common.{◌≡◌, false, arith, refl, ap, ◌∙◌, w64}
use Rattle.std.proofs.lemmas.Int.{to_z-of_z}
use Rattle.esr_stream.proofs.ValueLists.{value_fits}
use Rattle.esr_stream.specs.Query.{cost_in}
use Rattle.esr_stream.proofs.RowLaws.{row_write}
use Rattle.esr_stream.proofs.items.apply_write.Given.{Over}
use Rattle.esr_stream.proofs.items.apply_write.Goals as goal

told : (g : Over) (c : goal.After-min-lowered g) → c.cost-cost.result ≡ (cost_in g.M.Metric.distance_by c.args.query.now) c.args.access.item.0 c.args.access.value
told g c = c.cost-cost.ensures ∙ ap ((cost_in g.M.Metric.distance_by c.args.query.now) c.args.access.item.0) (to_z-of_z w64 c.args.access.value (value_fits c.args.access.value c.requires.value))

pub returns : goal.returns
returns g c = λ proposed row old before after so_far.
    row_write (cost_in g.M.Metric.distance_by c.args.query.now) c.args.marked proposed row c.args.access old c.args.states.now before after so_far
    (omega (arith, c.requires.item, so_far.len)) (record { cost = c.cost-cost.result; amount = c.min-lowered.result; loan = 0; owed = false; covered = c.args.marked }) _ refl
    c.requires.writes (told g c) (omega arith) refl refl refl
