use Rattle.std.proofs.Common.{arith, map}
use Rattle.std.proofs.lemmas.Grind.{common_steps}
use Rattle.esr_locks.proofs.Tables.{empty_more}
use Rattle.esr_locks.proofs.table.empty_entries.Goals as goal

pub loop-x-preserved : goal.loop-x-preserved
loop-x-preserved c =
    grind (arith, common_steps, map, empty_more c.loop-x.entries.items c.new.result c.loop-x.x c.loop-x.invariant c.new.ensures)
