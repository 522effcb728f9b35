use Rattle.std.proofs.Common.{◌≡◌, map, filter, take}
use Rattle.esr_history.specs.Queries.{updates_committed_before}
use Rattle.esr_bound.specs.Amounts.{among_marked}
use Rattle.esr_stream.proofs.least.members_of.Given as goal

abbrev pub invariant-loop-i : goal.invariant-loop-i
invariant-loop-i g l = map (λ t. t.0) l.txns.items ≡ filter (among_marked (updates_committed_before l.query.schedule l.query.query) l.marks) (take l.i (updates_committed_before l.query.schedule l.query.query))
