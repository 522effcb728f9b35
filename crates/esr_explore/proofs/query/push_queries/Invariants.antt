use Rattle.std.proofs.Common.{◌≡◌, ◌++◌, map, take}
use Rattle.esr_explore.specs.Queries.{begun_query, queries_in}
use Rattle.esr_explore.proofs.query.push_queries.Given as goal

-- the queries of the calls so far are appended
abbrev pub invariant-loop-index : goal.invariant-loop-index
invariant-loop-index l =
    map begun_query l.out.items ≡ map begun_query l.initial.out.items ++ queries_in l.block (take l.index l.calls)
