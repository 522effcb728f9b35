use Rattle.std.proofs.Common.{◌-◌, ◌≤◌, length}
use Rattle.esr_order.specs.Index.{IsIndexOf}
use Rattle.esr_order.proofs.index.Index.extend.Given as goal

abbrev pub invariant-entries : goal.invariant-entries
invariant-entries g l =
    IsIndexOf l.history.schedule.entries (record { read = l.self-inside.read; commits = l.self-inside.commits.items; rows = l.self-inside.rows })
    × (l.first ≤ length l.self-inside.commits.items)

abbrev pub decreases-entries : goal.decreases-entries
decreases-entries g l = length l.history.schedule.entries - l.self-inside.read
