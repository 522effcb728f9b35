use Rattle.std.proofs.Common.{◌∙◌, ap, FitsSigned, w64, to_z, of_z, rules}
use Rattle.std.proofs.lemmas.Int.{to_z-of_z}
use Rattle.esr_items.specs.Weights.{weighted}
use Rattle.esr_engine.proofs.CarriedParts.{distance_is}
use Rattle.esr_engine.proofs.engine.EmbeddedEngine.uncommitted_distance.Goals as goal

pub returns : goal.returns
returns c =
    let a = c.current-current.result in let b = c.committed-committed.result in let m = c.metric.result.now in let x = c.args.x.0 in
    let fits_a : FitsSigned w64 a = search rules in
    let fits_b : FitsSigned w64 b = search rules in
    let is = c.distance.ensures ∙ (ap (λ y. weighted m x y (to_z w64 (of_z w64 b))) (to_z-of_z w64 a fits_a) ∙ ap (weighted m x a) (to_z-of_z w64 b fits_b)) in
    distance_is c.args.self.now c.history.result.now.schedule c.self.inside.machine m x a b c.distance.result
    is c.metric.ensures (c.history.ensures.schedule ∙ c.self.view_is) c.self.view_is c.current-current.ensures.value c.committed-committed.ensures.value
