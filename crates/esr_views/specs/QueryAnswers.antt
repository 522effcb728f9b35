-- A script's reply about one of its queries.
use Rattle.std.specs.Prelude.{◌≡◌, ℕ, List, true, None, filter_map, slice_get}
use Rattle.esr_items.specs.Weights.{weighted}
use Rattle.esr_history.specs.Machine.{Schedule}
use Rattle.esr_history.specs.Queries.{is_committed_query}
use Rattle.esr_cert.specs.Problem.{Problem, in_set, IsSmallestLeastCostSet}
use Rattle.esr_cert.specs.Certificate.{Certificate, Certifies}
use Rattle.esr_cert.specs.Views.{certificate_of}
use Rattle.esr_order.specs.Least.{nearest_placement}
use Rattle.esr_order.specs.Relevant.{AreRelevant}
use Rattle.esr_audit.specs.declared.finding.Finding.{Finding}
use Rattle.esr_audit.specs.Findings.{summary, summary_of}
use Rattle.esr_audit.specs.Problems.{IsProblemOf}
use Rattle.esr_views.specs.declared.query.AuditedQuery.{AuditedQuery}
use Rattle.esr_views.specs.declared.recording.Recording.{Recording}
use Rattle.esr_views.specs.State.{ScriptState, transaction_called}

-- The problem is that of the query of the history, and has just its relevant updates; the certificate certifies it, with
-- the smallest least set, and does not contain the number of augmentations that lead to its flow.
pub record IsFound (h : Schedule) (q : ℕ) (problem : Problem) (certificate : Certificate) : Type 0 where
  pub is_problem : IsProblemOf weighted h q problem
  pub relevant : AreRelevant h q problem.updates
  pub certified : Certifies problem certificate
  pub set_is : filter_map (slice_get problem.updates) certificate.set ≡ nearest_placement weighted h q
  pub smallest : IsSmallestLeastCostSet problem (in_set certificate.set)
  pub without_count : certificate.augmentations ≡ None

-- The finding of the query of that name, which has committed: the summary of its audit, and the problem with its
-- certificate.
pub record IsFoundOf (s : ScriptState) (name : List ℕ) (f : Finding) : Type 0 where
  pub committed : is_committed_query s.history (transaction_called s name).0 ≡ true
  pub reported : summary f ≡ summary_of weighted s.history (transaction_called s name).0
  pub found : IsFound s.history (transaction_called s name).0 f.problem (certificate_of f.certificate)

-- The bound names, the history, and the finding of the query of that name.
pub record IsAnswered (s : ScriptState) (name : List ℕ) (a : AuditedQuery) : Type 0 where
  pub items : a.items ≡ s.items
  pub transactions : a.transactions ≡ s.transactions
  pub history : a.history.schedule ≡ s.history
  pub finding : IsFoundOf s name a.finding

-- The bound names, and the history.
pub record IsRecorded (s : ScriptState) (c : Recording) : Type 0 where
  pub items : c.items ≡ s.items
  pub transactions : c.transactions ≡ s.transactions
  pub history : c.history.schedule ≡ s.history
