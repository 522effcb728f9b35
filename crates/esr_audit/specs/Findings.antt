-- The result of auditing a committed query.
use Rattle.std.specs.Prelude.{◌≡◌, ◌≤◌, ℕ, true, List, All, filter, map, Some, None, filter_map, slice_get}
use Rattle.esr_history.specs.Events.{is_query}
use Rattle.esr_history.specs.Machine.{DistanceFunction, Schedule, accepted_in, charges_in, import_in}
use Rattle.esr_history.specs.Operations.{commit_order}
use Rattle.esr_history.specs.Queries.{is_committed_query, members, cost}
use Rattle.esr_history.specs.Serial.{committed_updates}
use Rattle.esr_order.specs.Placements.{is_among, IsLeastDistance, IsSmallestLeastSet}
use Rattle.esr_order.specs.Relevant.{AreRelevant}
use Rattle.esr_order.specs.Least.{nearest_placement, least_distance}
use Rattle.esr_cert.specs.Problem.{Problem, in_set, IsSmallestLeastCostSet}
use Rattle.esr_cert.specs.Certificate.{Certificate, Certifies, amounts}
use Rattle.esr_cert.specs.Network.{network}
use Rattle.esr_flow.specs.Augmentation.{AugmentsFromZero}
use Rattle.esr_order.specs.declared.order.OrderError.{OrderError}
use Rattle.esr_order.specs.declared.order.OrderError.TheVariants.{NotACommittedQuery, NoMemory}
use Rattle.esr_cert.specs.Views.{certificate_of}
pub use Rattle.esr_audit.specs.declared.finding.Finding.{Finding}
use Rattle.esr_audit.specs.declared.finding.Summary.{Summary}
use Rattle.esr_audit.specs.declared.finding.Book.{Book}
use Rattle.esr_audit.specs.declared.finding.Summaries.{Summaries}
pub use Rattle.esr_audit.specs.declared.finding.AuditError.{AuditError}
use Rattle.esr_audit.specs.declared.finding.AuditError.TheVariants as refusals
use Rattle.esr_audit.specs.Problems.{IsProblemOf}
use Rattle.esr_audit.specs.Ranges.{listed}

-- the reason for a failed audit if no order was built
abbrev pub audit_error_of : OrderError → AuditError
audit_error_of NotACommittedQuery = refusals.NotACommittedQuery
audit_error_of NoMemory = refusals.NoMemory

-- q is a query that has committed. The distance is the least over all placements of q; `before` is, in commit order, the
-- smallest closed set of least cost, which equals the distance; and the distance is at most the import charged to q.
pub record IsAnswer (d : DistanceFunction) (h : Schedule) (q distance import : ℕ) (before : List ℕ) : Type 0 where
  pub committed : is_committed_query h q ≡ true
  pub least : IsLeastDistance d h q distance
  pub in_order : before ≡ members h q (is_among before)
  pub smallest : IsSmallestLeastSet d h q (is_among before)
  pub distance_is : distance ≡ cost d h q (is_among before)
  pub import_is : import ≡ import_in (charges_in d h) q
  pub bounded : distance ≤ import

-- the certificate contains the number of augmentations that led to its flow, each along a shortest path
abbrev pub HasAugmentationCount : Problem → Certificate → Type 0
HasAugmentationCount p c = (n : ℕ) × (c.augmentations ≡ Some n) × AugmentsFromZero (network p) n (amounts c)

-- A closed set and a flow of equal worth, for a problem that represents q, prove the distance. The set is the smallest
-- closed set of least cost.
pub record IsShown (d : DistanceFunction) (h : Schedule) (q distance : ℕ) (before : List ℕ) (problem : Problem)
    (certificate : Certificate) : Type 0 where
  pub is_problem : IsProblemOf d h q problem
  pub certified : Certifies problem certificate
  pub set_is : before ≡ filter_map (slice_get problem.updates) certificate.set
  pub worth_is : certificate.worth ≡ distance
  pub smallest : IsSmallestLeastCostSet problem (in_set certificate.set)
  pub without_count : certificate.augmentations ≡ None

-- the finding of query q
pub record IsFindingOf (d : DistanceFunction) (h : Schedule) (q : ℕ) (f : Finding) : Type 0 where
  pub answer : IsAnswer d h q f.distance f.import (map (λ t. t.0) f.before.items)
  pub shown : IsShown d h q f.distance (map (λ t. t.0) f.before.items) f.problem (certificate_of f.certificate)
  pub relevant : AreRelevant h q f.problem.updates

-- the finding of the query that it names
abbrev pub IsFinding : DistanceFunction → Schedule → Finding → Type 0
IsFinding d h f = IsFindingOf d h f.query.0 f

-- the committed queries, in commit order
abbrev pub committed_queries : Schedule → List ℕ
committed_queries h = filter (is_query (accepted_in h)) (commit_order (accepted_in h))

-- the summary of a finding: its query, its distance, its import, and the updates before the position
abbrev pub summary : Finding → ℕ × ℕ × ℕ × List ℕ
summary f = (f.query.0, f.distance, f.import, map (λ t. t.0) f.before.items)

-- the contents of a stored summary
abbrev pub seen_summary : Summary → ℕ × ℕ × ℕ × List ℕ
seen_summary s = (s.query.0, s.distance, s.import, listed s.before)

-- the summary of a committed query, which the history determines
abbrev pub summary_of : DistanceFunction → Schedule → ℕ → ℕ × ℕ × ℕ × List ℕ
summary_of d h q = (q, least_distance d h q, import_in (charges_in d h) q, nearest_placement d h q)

-- The audits of a history: its committed updates in commit order, a finding of each committed query in commit order, and
-- the results in short, which the history determines.
pub record AreAudits (d : DistanceFunction) (h : Schedule) (updates : List ℕ) (findings : List Finding)
    (results : List (ℕ × ℕ × ℕ × List ℕ)) : Type 0 where
  pub order : updates ≡ committed_updates h
  pub queries : map (λ f. f.query.0) findings ≡ committed_queries h
  pub found : All (IsFinding d h) findings
  pub of_findings : results ≡ map summary findings
  pub summaries : results ≡ map (summary_of d h) (committed_queries h)

-- the audits as a book stores them, with all findings
abbrev pub IsBook : DistanceFunction → Schedule → Book → Type 0
IsBook d h b = AreAudits d h (map (λ t. t.0) b.order.items) b.findings.items (map summary b.findings.items)

-- the audits as summaries store them, without their findings
abbrev pub AreSummaries : DistanceFunction → Schedule → Summaries → Type 0
AreSummaries d h s =
    (findings : List Finding) × AreAudits d h (map (λ t. t.0) s.order.items) findings (map seen_summary s.summaries.items)
