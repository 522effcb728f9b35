-- The output of certifying a query of a script.
use Rattle.std.specs.Prelude.{◌≡◌, ℕ, List, [], ◌∷◌, ◌++◌, Bool, true, false, Option, None, Result, filter_map, slice_get}
use Rattle.esr_items.specs.Weights.{weighted}
use Rattle.esr_history.specs.Machine.{Schedule}
use Rattle.esr_cert.specs.Problem.{Problem}
use Rattle.esr_cert.specs.Certificate.{Certificate, Certifies}
use Rattle.esr_order.specs.Least.{nearest_placement}
use Rattle.esr_order.specs.Relevant.{AreRelevant}
use Rattle.esr_audit.specs.Problems.{IsProblemOf}
use Rattle.esr_audit.specs.Findings.{HasAugmentationCount}
use Rattle.esr_bundle.specs.Bundle.{bundle}
use Rattle.esr_script.specs.Text.{final, RunFault}
use Rattle.esr_script.specs.Ends.{query_of, IsReportedBy}

-- whether the certificate contains the count of augmentations
abbrev pub HasAugmentations : Bool → Problem → Certificate → Type 0
HasAugmentations true p c = HasAugmentationCount p c
HasAugmentations false p c = c.augmentations ≡ None

-- The text is the bundle of the query's problem of the relevant updates, and of a certificate of it with the smallest
-- least set.
pub record IsBundleOf (steps : Bool) (h : Schedule) (q : ℕ) (text : List ℕ) : Type 0 where
  pub problem : Problem
  pub certificate : Certificate
  pub is_problem : IsProblemOf weighted h q problem
  pub relevant : AreRelevant h q problem.updates
  pub certified : Certifies problem certificate
  pub set_is : filter_map (slice_get problem.updates) certificate.set ≡ nearest_placement weighted h q
  pub reported : HasAugmentations steps problem certificate
  pub text_is : text ≡ bundle problem certificate

-- the text of such a bundle with a line feed
abbrev pub IsBundleLine : Bool → Schedule → ℕ → List ℕ → Type 0
IsBundleLine steps h q line = (text : List ℕ) × IsBundleOf steps h q text × (line ≡ text ++ 10 ∷ [])

-- The relation between the input of certifying the query of that name, the unread rest, the result, and the text
-- written: the bundle and a line feed.
abbrev pub IsCertifiedBy : Bool → List ℕ → List ℕ → Option (List ℕ) → Result (Unit {0}) RunFault → List ℕ → Type 0
IsCertifiedBy steps input name left r written =
    IsReportedBy (IsBundleLine steps (final input).history (query_of input name)) input name left r written
