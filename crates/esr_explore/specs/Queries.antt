-- The queries that blocks begin: their begins, with the block and the index of each.
use Rattle.std.specs.Prelude.{ℕ, List, Option, Some, None, option_map}
use Rattle.std.specs.List.{enumerate_from, filter_map, flat_map}
use Rattle.esr_plan.specs.declared.call.Call.{Call}
use Rattle.esr_plan.specs.declared.call.Call.TheVariants as call
use Rattle.esr_history.specs.declared.event.TxnKind.TheVariants as kind
use Rattle.esr_explore.specs.declared.query.Query.{Query}

-- a query of a plan: its name, its block, and the index of its begin in the block
pub record BegunQuery : Type 0 where
  pub name : List ℕ
  pub block : ℕ
  pub index : ℕ

abbrev pub begun_at : (block index : ℕ) → List ℕ → BegunQuery
begun_at block index name = record { name = name; block = block; index = index }

-- a query as the code stores it
abbrev pub begun_query : Query → BegunQuery
begun_query q = begun_at q.block q.index q.name.now

-- the name of the query that a call begins
abbrev pub query_name : Call → Option (List ℕ)
query_name (call.Begin name kind.Query limit) = Some name.now
query_name (call.Begin name kind.StrictQuery limit) = Some name.now
query_name _ = None

-- the query that the call at an index of a block begins
abbrev pub query_at : (block : ℕ) → ℕ × Call → Option BegunQuery
query_at block p = option_map (begun_at block p.0) (query_name p.1)

-- the queries that the calls of a block begin, in their order
abbrev pub queries_in : (block : ℕ) → List Call → List BegunQuery
queries_in block calls = filter_map (query_at block) (enumerate_from 0 calls)

-- the queries that the blocks begin, block by block
abbrev pub all_queries : List (List Call) → List BegunQuery
all_queries blocks = flat_map (λ p. queries_in p.0 p.1) (enumerate_from 0 blocks)
