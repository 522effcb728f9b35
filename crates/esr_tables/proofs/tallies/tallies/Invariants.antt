use Rattle.std.proofs.Common.{◌<◌, length, take}
use Rattle.esr_history.specs.BackLinks.{begun_count}
use Rattle.esr_tables.specs.Entries.{AreTallies}
use Rattle.esr_tables.proofs.tallies.tallies.Given as goal

-- the entries so far are counted
abbrev pub invariant-loop-place : goal.invariant-loop-place
invariant-loop-place l =
    let es = l.history.schedule.entries in
    (begun_count es < length l.tallies.items) × AreTallies (take l.place es) l.tallies.items
