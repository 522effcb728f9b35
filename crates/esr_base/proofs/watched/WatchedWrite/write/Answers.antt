use Rattle.std.proofs.Common.{rules}
use Rattle.esr_base.proofs.watched.WatchedWrite.write.Goals as goal

pub returns-then-took_none-clause-watched : goal.returns-then-took_none-clause-watched
returns-then-took_none-clause-watched g c = search rules

pub returns-else-took_none-clause-watched : goal.returns-else-took_none-clause-watched
returns-else-took_none-clause-watched g c = search rules
