use Rattle.std.proofs.Common.{rules}
use Rattle.esr_script.proofs.script.fault_of.Goals as goal

pub returns-in-NoMemory-clause-query : goal.returns-in-NoMemory-clause-query
returns-in-NoMemory-clause-query c = search rules
