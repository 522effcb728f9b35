use Rattle.std.proofs.Common.{◌≡◌, ◌++◌, flat_map, map, take}
use Rattle.std.specs.List.{enumerate_from}
use Rattle.esr_explore.specs.Queries.{begun_query}
use Rattle.esr_explore.specs.Report.{query_line}
use Rattle.esr_explore.proofs.report.push_queries.Given as goal

-- the lines of the queries so far are appended
abbrev pub invariant-loop-index : goal.invariant-loop-index
invariant-loop-index l =
    l.out.items ≡ l.initial.out.items ++ flat_map (query_line l.summaries) (enumerate_from 0 (map begun_query (take l.index l.queries)))
