use Rattle.std.proofs.Common.{rules}
use Rattle.esr_session.proofs.engine.Engine.new.Goals as goal

pub invariant_of-locked : goal.invariant_of-locked
invariant_of-locked g c = search rules

pub invariant_of-result : goal.invariant_of-result
invariant_of-result g c = search rules
