-- The summary of a run.
use Rattle.std.specs.Prelude.{◌≡◌, ℕ, ℤ, false, List, [], ◌∷◌, Option, Some, None, count_by, map, option_and_then, slice_get, slice_index_or, unwrap_or}
use Rattle.esr_items.specs.Weights.{weighted}
use Rattle.esr_history.specs.Machine.{Schedule, IsLegal}
use Rattle.esr_history.specs.Queries.{is_committed_query}
use Rattle.esr_audit.specs.Findings.{IsAnswer}
use Rattle.esr_plan.specs.Blocks.{number_in}
use Rattle.esr_plan.specs.declared.call.Call.{Call}
use Rattle.esr_explore.specs.declared.query.Query.{Query}
use Rattle.esr_explore.specs.declared.run_summary.QueryInconsistency.{QueryInconsistency}
use Rattle.esr_explore.specs.declared.run_summary.RunSummary.{RunSummary}
use Rattle.esr_explore.specs.Turns.{IsRun, BlockProgressView, RunState, no_progress, is_blocked}

-- the number that the begin at an index of a block got
abbrev pub txn_id_of : List BlockProgressView → ℕ → ℕ → ℕ
txn_id_of all_progress block index =
    unwrap_or (option_and_then number_in (slice_get (slice_index_or all_progress block no_progress).replies index)) 0

-- a committed query's import, and its distance as audits find it; nothing of another transaction
abbrev pub IsInconsistency : Schedule → ℕ → Option QueryInconsistency → Type 0
IsInconsistency h number None = is_committed_query h number ≡ false
IsInconsistency h number (Some inconsistencies) = (before : List ℕ) × IsAnswer weighted h number inconsistencies.distance inconsistencies.import before

-- query by query
abbrev pub AreInconsistencies : Schedule → List BlockProgressView → List Query → List (Option QueryInconsistency) → Type 0
AreInconsistencies h all_progress [] [] = Unit {0}
AreInconsistencies h all_progress (q ∷ queries) (inconsistencies ∷ more) = IsInconsistency h (txn_id_of all_progress q.block q.index) inconsistencies × AreInconsistencies h all_progress queries more
AreInconsistencies h all_progress _ _ = ⊥

-- the number of lines of a block that were given up: their last reply is that they are blocked
abbrev pub given_up_in : BlockProgressView → ℕ
given_up_in progress = count_by is_blocked progress.replies

-- the summary of a run that ended so
pub record IsSummaryOf (end : RunState) (queries : List Query) (run_summary : RunSummary) : Type 0 where
  pub inconsistencies : AreInconsistencies end.history end.all_progress queries run_summary.inconsistencies.items
  pub blocked : run_summary.blocked_counts.items ≡ map (λ r. r.blocked) end.all_progress
  pub given_up : run_summary.given_up_counts.items ≡ map given_up_in end.all_progress

-- The summary is of a run of these blocks: legal, and taken in turns that began with this order.
pub record IsSummary (opening : List ℤ) (weights : List ℕ) (blocks : List (List Call)) (queries : List Query) (order : List ℕ)
    (run_summary : RunSummary) : Type 0 where
  pub end : RunState
  pub run : IsRun opening weights blocks order end
  pub legal : IsLegal weighted end.history
  pub summary_is : IsSummaryOf end queries run_summary
