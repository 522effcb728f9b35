-- The line of an audit agrees with its finding.
use Rattle.std.proofs.Common.{◌≡◌, ℕ, Result, Ok, Err, IfOk, map, ◌∙◌}
use Rattle.esr_history.specs.Machine.{DistanceFunction, Schedule, charges_in, import_in}
use Rattle.esr_cert.specs.Views.{certificate_of}
use Rattle.esr_order.specs.Placements.{is_among}
use Rattle.esr_order.specs.Least.{nearest_placement, least_distance}
use Rattle.esr_order.specs.Relevant.{AreRelevant}
use Rattle.esr_order.proofs.Least.{law_of_listed_sets}
use Rattle.esr_audit.specs.declared.finding.Finding.{Finding}
use Rattle.esr_audit.specs.declared.finding.AuditError.{AuditError}
use Rattle.esr_audit.specs.Findings.{IsShown, IsFindingOf}

module _ (d : DistanceFunction) (h : Schedule) (q : ℕ) where
  pub distance_is : (r : Result Finding AuditError) → IfOk r (IsFindingOf d h q) → IfOk r (λ f. f.distance ≡ least_distance d h q)
  distance_is (Ok f) a = a.answer.distance_is ∙ (law_of_listed_sets d h q (is_among (map (λ t. t.0) f.before.items)) a.answer.smallest).1
  distance_is (Err e) a = tt

  pub import_is : (r : Result Finding AuditError) → IfOk r (IsFindingOf d h q) → IfOk r (λ f. f.import ≡ import_in (charges_in d h) q)
  import_is (Ok f) a = a.answer.import_is
  import_is (Err e) a = tt

  pub before_is : (r : Result Finding AuditError) → IfOk r (IsFindingOf d h q) → IfOk r (λ f. map (λ t. t.0) f.before.items ≡ nearest_placement d h q)
  before_is (Ok f) a = a.answer.in_order ∙ (law_of_listed_sets d h q (is_among (map (λ t. t.0) f.before.items)) a.answer.smallest).0
  before_is (Err e) a = tt

  pub shown_is : (r : Result Finding AuditError) → IfOk r (IsFindingOf d h q) → IfOk r (λ f. IsShown d h q f.distance (map (λ t. t.0) f.before.items) f.problem (certificate_of f.certificate))
  shown_is (Ok f) a = a.shown
  shown_is (Err e) a = tt

  pub relevant_is : (r : Result Finding AuditError) → IfOk r (IsFindingOf d h q) → IfOk r (λ f. AreRelevant h q f.problem.updates)
  relevant_is (Ok f) a = a.relevant
  relevant_is (Err e) a = tt
