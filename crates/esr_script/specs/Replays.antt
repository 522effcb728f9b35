-- The definitions for the private parts of certifying and of auditing.
use Rattle.std.specs.Prelude.{◌≡◌, List, [], ◌∷◌, ◌++◌, ℕ, Bool, true, false, Option, Result}
use Rattle.esr_cert.specs.Problem.{in_set, IsSmallestLeastCostSet}
use Rattle.esr_cert.specs.Certificate.{Certificate, Certifies}
use Rattle.esr_cert.specs.Views.{certificate_of}
use Rattle.esr_audit.specs.declared.finding.Finding.{Finding}
use Rattle.esr_audit.specs.Findings.{HasAugmentationCount}
use Rattle.esr_bundle.specs.Bundle.{bundle}
use Rattle.esr_script.specs.Text.{ScriptState, final, RunFault}
use Rattle.esr_script.specs.Ends.{IsReachedBy}

-- the lines of the input were gone over, and led to this state
abbrev pub IsReplay : List ℕ → Option (List ℕ) → Result (Unit {0}) RunFault → ScriptState → Type 0
IsReplay input left r s = IsReachedBy (λ done. final input ≡ s) ⊥ input left r

-- The bundle of a finding's problem, and a line feed: with its certificate, or with one that contains the count of
-- augmentations.
abbrev pub IsLineOf : Bool → Finding → List ℕ → Type 0
IsLineOf false f line = line ≡ bundle f.problem (certificate_of f.certificate) ++ 10 ∷ []
IsLineOf true f line =
    (c : Certificate) × Certifies f.problem c × IsSmallestLeastCostSet f.problem (in_set c.set) × HasAugmentationCount f.problem c
    × (line ≡ bundle f.problem c ++ 10 ∷ [])
