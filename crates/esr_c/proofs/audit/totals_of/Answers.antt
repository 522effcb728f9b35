use Rattle.std.proofs.Common.{rules}
use Rattle.esr_c.proofs.audit.totals_of.Goals as goal

pub returns-clause-total : goal.returns-clause-total
returns-clause-total c = search rules
