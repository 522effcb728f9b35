use Rattle.std.proofs.Common.{◌≤◌, ◌-◌}
use Rattle.esr_order.proofs.Commits.{AreEndsBelow}
use Rattle.esr_order.proofs.scan.ends_of.Given as goal

-- the ends of the numbers so far
abbrev pub invariant-loop-facts : goal.invariant-loop-facts
invariant-loop-facts g l = record { low : 1 ≤ l.t; high : l.t ≤ 65536; ends : AreEndsBelow l.history.schedule.entries l.t l.ends.items }

abbrev pub decreases-loop-facts : goal.decreases-loop-facts
decreases-loop-facts g l = 65536 - l.t
