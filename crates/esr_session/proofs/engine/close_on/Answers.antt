use Rattle.std.proofs.Common.{rules}
use Rattle.esr_session.proofs.engine.close_on.Goals as goal

pub returns-clause-matching : goal.returns-clause-matching
returns-clause-matching g c = search rules

pub returns-clause-every_call : goal.returns-clause-every_call
returns-clause-every_call g c = search rules
