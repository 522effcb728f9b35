use Rattle.std.proofs.Common.{rules}
use Rattle.esr_session.proofs.engine.Engine.open_sessions.Goals as goal

pub invariant_of-self-2 : goal.invariant_of-self-2
invariant_of-self-2 g c = search rules

pub returns-clause-sessions : goal.returns-clause-sessions
returns-clause-sessions g c = search rules
