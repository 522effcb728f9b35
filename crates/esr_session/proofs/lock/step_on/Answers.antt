use Rattle.std.proofs.Common.{rules}
use Rattle.esr_session.proofs.lock.step_on.Goals as goal

pub returns-in-None-clause-closed : goal.returns-in-None-clause-closed
returns-in-None-clause-closed g c = search rules

pub returns-in-None-clause-full : goal.returns-in-None-clause-full
returns-in-None-clause-full g c = search rules
