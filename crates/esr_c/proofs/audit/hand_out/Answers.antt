use Rattle.std.proofs.Common.{rules}
use Rattle.esr_c.proofs.audit.hand_out.Goals as goal

pub returns-then-fill-clause-count : goal.returns-then-fill-clause-count
returns-then-fill-clause-count c = search rules

pub returns-then-fill-clause-filled : goal.returns-then-fill-clause-filled
returns-then-fill-clause-filled c = search rules

pub returns-else-fill-clause-count : goal.returns-else-fill-clause-count
returns-else-fill-clause-count c = search rules
