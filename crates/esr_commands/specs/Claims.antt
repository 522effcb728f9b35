-- The claim of a bundle about an audited query of a script.
use Rattle.std.specs.Prelude.{◌≡◌, ℕ, List, [], ◌∷◌, ◌++◌, codes, decimal, Some, None, Result, Ok, Err}
use Rattle.esr_items.specs.Weights.{weighted}
use Rattle.esr_cert.specs.Problem.{Problem}
use Rattle.esr_cert.specs.Certificate.{Certificate, Certifies, fault}
use Rattle.esr_cert.specs.declared.certificate.Fault.{Fault}
use Rattle.esr_cert.specs.Faults.{fault_number, bundle_fault_number}
use Rattle.esr_cert.specs.declared.problem.BundleFault.{BundleFault}
use Rattle.esr_audit.specs.Problems as problems
use Rattle.esr_order.specs.Placements.{IsLeastDistance}
use Rattle.esr_bundle.specs.Reading.{DecodesTo}
use Rattle.esr_views.specs.State.{ScriptState, transaction_called}
use Rattle.esr_commands.specs.declared.claim.BundleClaim.{BundleClaim}
use Rattle.esr_commands.specs.declared.claim.BundleClaim.TheVariants.{Of, NotOf, Invalid, Bad}

-- The claim of a bundle compared with the problem of the query: its certificate has no fault, and its problem is that
-- one, or is not specified; or its first fault; or that the bytes are not a bundle.
abbrev pub IsClaim : Problem → Result (Problem × Certificate) BundleFault → BundleClaim → Type 0
IsClaim asked (Ok b) (Of worth) = Certifies b.0 b.1 × (worth ≡ b.1.worth) × (b.0 ≡ asked)
IsClaim asked (Ok b) (NotOf worth) = Certifies b.0 b.1 × (worth ≡ b.1.worth)
IsClaim asked (Ok b) (Invalid number) = (f : Fault) × (fault b.0 b.1 ≡ Some f) × (number ≡ fault_number f)
IsClaim asked (Err f) (Bad number) = number ≡ bundle_fault_number f
IsClaim asked _ _ = ⊥

-- the claim of what the bytes mean
abbrev pub IsClaimOf : Problem → List ℕ → BundleClaim → Type 0
IsClaimOf asked bytes claim = (b : Result (Problem × Certificate) BundleFault) × DecodesTo bytes b × IsClaim asked b claim

-- the bytes are a bundle that shows this to be the distance of the query of that name after a script
abbrev pub ShowsDistance : ScriptState → List ℕ → List ℕ → ℕ → Type 0
ShowsDistance s name bytes worth =
    (b : Problem × Certificate) × DecodesTo bytes (Ok b) × Certifies b.0 b.1 × (worth ≡ b.1.worth)
    × problems.IsProblemOf weighted s.history (transaction_called s name).0 b.0
    × IsLeastDistance weighted s.history (transaction_called s name).0 worth

-- the line of a claim about the query of that name
abbrev pub claim_line : List ℕ → BundleClaim → List ℕ
claim_line name (Of worth) = codes "valid " ++ decimal worth ++ codes " of " ++ name ++ 10 ∷ []
claim_line name (NotOf worth) = codes "valid " ++ decimal worth ++ codes ", not of " ++ name ++ 10 ∷ []
claim_line name (Invalid number) = codes "invalid " ++ decimal number ++ 10 ∷ []
claim_line name (Bad number) = codes "bad " ++ decimal number ++ 10 ∷ []
