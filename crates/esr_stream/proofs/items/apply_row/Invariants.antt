use Rattle.std.proofs.Common.{take}
use Rattle.esr_stream.specs.Query.{cost_in}
use Rattle.esr_stream.specs.Passes.{IsUpdateApplied, read_amount}
use Rattle.esr_stream.proofs.items.apply_row.Given as goal

abbrev pub invariant-loop-j : goal.invariant-loop-j
invariant-loop-j g l = IsUpdateApplied (cost_in g.M.Metric.distance_by l.query) l.marked (read_amount l.amounts) (take l.j l.row) l.fn.states l.states l.before l.after
