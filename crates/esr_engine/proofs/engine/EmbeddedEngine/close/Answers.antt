use Rattle.std.proofs.Common.{subst}
use Rattle.esr_items.specs.Weights.{weighted}
use Rattle.esr_history.specs.Sound.{IsSound}
use Rattle.esr_engine.proofs.engine.EmbeddedEngine.close.Goals as goal

pub returns-clause-sound : goal.returns-clause-sound
returns-clause-sound c = subst (IsSound weighted) c.self.view_is c.close.ensures.sound
