-- Asking a script for one of its queries.
use Rattle.std.specs.Prelude.{◌≡◌, ℕ, List, true, Option, Result}
use Rattle.esr_items.specs.Weights.{weighted}
use Rattle.esr_history.specs.Queries.{is_committed_query}
use Rattle.esr_audit.specs.Findings.{summary_of}
use Rattle.esr_least.specs.declared.query.QueryAudit.{QueryAudit}
use Rattle.esr_least.specs.Audits.{audit_fields, IsStableAudit}
use Rattle.esr_views.specs.declared.query.AuditedQuery.{AuditedQuery}
use Rattle.esr_views.specs.QueryAnswers.{IsAnswered}
use Rattle.esr_script.specs.Text.{ScriptState, transaction_called, final, RunFault}
use Rattle.esr_script.specs.Ends.{IsReachedBy, IsNoQuery}

-- The relation between the input of a request for the query of that name, the unread rest, and the result.
abbrev pub IsAuditedQuery : List ℕ → List ℕ → Option (List ℕ) → Result AuditedQuery RunFault → Type 0
IsAuditedQuery input name left r = IsReachedBy (IsAnswered (final input) name) (IsNoQuery input name) input left r

-- The audit of the query of that name, which has committed. It holds in longer histories.
pub record IsAuditOf (s : ScriptState) (name : List ℕ) (a : QueryAudit) : Type 0 where
  pub committed : is_committed_query s.history (transaction_called s name).0 ≡ true
  pub summary : audit_fields a ≡ summary_of weighted s.history (transaction_called s name).0
  pub stable : IsStableAudit weighted s.history a
