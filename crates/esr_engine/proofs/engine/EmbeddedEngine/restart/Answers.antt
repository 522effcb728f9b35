use Rattle.std.proofs.Common.{◌∙◌, ap, subst}
use Rattle.esr_items.specs.Weights.{weighted}
use Rattle.esr_history.specs.Machine.{Schedule, IsLegal}
use Rattle.esr_core.proofs.Renewed.{as_one}
use Rattle.esr_engine.proofs.engine.EmbeddedEngine.restart.Goals as goal

pub returns-clause-serializable_as_one : goal.returns-clause-serializable_as_one
returns-clause-serializable_as_one c =
    λ later legal. as_one weighted c.args.self.now _ (subst (IsLegal weighted) c.self.view_is c.log-invariant.ensures.legal) legal (ap (λ (g : Schedule). g.opening) (c.drop.view_is ∙ c.in_ok-self-inside.ensures))
