use Rattle.std.proofs.Common.{rules}
use Rattle.esr_session.proofs.lock.step_in.Goals as goal

pub returns-clause-step : goal.returns-clause-step
returns-clause-step g c = search rules
