use Rattle.std.proofs.Common.{subst}
use Rattle.std.proofs.lemmas.Option.{slice_get-get_or}
use Rattle.esr_items.specs.Weights.{weighted}
use Rattle.esr_history.specs.Machine.{IsLegal}
use Rattle.esr_engine.proofs.CarriedParts.{operation_exists}
use Rattle.esr_engine.proofs.engine.EmbeddedEngine.operation.Goals as goal

pub returns-clause-item : goal.returns-clause-item
returns-clause-item c =
    operation_exists weighted c.args.self.now (subst (IsLegal weighted) c.self.view_is c.log-invariant.ensures.legal) c.args.operations.now c.requires.operations
    c.args.i _ (slice_get-get_or c.args.operations.now c.args.i _ c.requires.inside)
