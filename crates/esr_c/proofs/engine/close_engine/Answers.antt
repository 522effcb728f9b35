use Rattle.std.proofs.Common.{subst}
use Rattle.esr_items.specs.Weights.{weighted}
use Rattle.esr_history.specs.Sound.{IsSound}
use Rattle.esr_c.proofs.engine.close_engine.Goals as goal

pub returns : goal.returns
returns c = subst (IsSound weighted) c.into_inner.ensures c.close-history.ensures.sound
