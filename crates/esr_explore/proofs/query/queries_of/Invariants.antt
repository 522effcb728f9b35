use Rattle.std.proofs.Common.{◌≡◌, map, take}
use Rattle.esr_explore.specs.Queries.{all_queries, begun_query}
use Rattle.esr_explore.proofs.query.queries_of.Given as goal

-- the queries of the blocks so far are listed
abbrev pub invariant-loop-block : goal.invariant-loop-block
invariant-loop-block l = map begun_query l.queries.items ≡ all_queries (map (λ b. b.items) (take l.block l.blocks))
