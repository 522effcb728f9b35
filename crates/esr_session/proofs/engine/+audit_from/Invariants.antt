use Rattle.std.proofs.Common.{length}
use Rattle.esr_session.proofs.engine.+audit_from.Given as goal

abbrev pub decreases-audit_from : goal.decreases-audit_from
decreases-audit_from g l = length l.sessions.now
