use Rattle.std.proofs.Common.{rules}
use Rattle.esr_session.proofs.session.Session.call.Goals as goal

pub returns-clause-event : goal.returns-clause-event
returns-clause-event g c = search rules
