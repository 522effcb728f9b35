use Rattle.std.proofs.Common.{arith}
use Rattle.std.proofs.lemmas.Grind.{common_steps}
use Rattle.esr_locks.proofs.table.LockTable.query_reads.Goals as goal

pub returns-clause-reads : goal.returns-clause-reads
returns-clause-reads c = grind (arith, common_steps)
