use Rattle.std.proofs.Common.{rules}
use Rattle.esr_c.proofs.audit.show_finding.Goals as goal

pub returns-clause-found : goal.returns-clause-found
returns-clause-found c = search rules

pub returns-clause-small : goal.returns-clause-small
returns-clause-small c = search rules
