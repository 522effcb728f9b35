-- The claim of a bundle about an audited query.
use Rattle.std.proofs.Common.{◌≡◌, ◌≢◌, ℕ, true, All, List, refl, sym, ap, ◌∙◌, subst, Result, Ok, Err, IfOk, IsOk}
use Rattle.std.specs.declared.alloc.AllocError.{AllocError}
use Rattle.esr_items.specs.Values.{IsValue}
use Rattle.esr_items.specs.Weights.{weighted}
use Rattle.esr_history.specs.Machine.{Schedule, IsLegal}
use Rattle.esr_order.specs.Placements.{IsLeastDistance}
use Rattle.esr_cert.specs.Problem.{Problem, is_well_formed}
use Rattle.esr_cert.specs.Certificate.{Certificate}
use Rattle.esr_cert.specs.Faults.{bundle_fault_number}
use Rattle.esr_cert.specs.declared.problem.BundleFault.{BundleFault}
use Rattle.esr_cert.specs.declared.problem.BundleFault.TheVariants.{Json, Shape, Range, NoMemory}
use Rattle.esr_audit.specs.Problems as problems
use Rattle.esr_audit.proofs.Found.{certified_is_least}
use Rattle.esr_bundle.specs.Reading.{IsReadingOf, DecodesTo}
use Rattle.esr_views.specs.QueryAnswers.{IsAnswered}
use Rattle.esr_views.specs.State.{ScriptState, transaction_called}
use Rattle.esr_views.specs.declared.query.AuditedQuery.{AuditedQuery}
use Rattle.esr_commands.specs.declared.claim.BundleClaim.{BundleClaim}
use Rattle.esr_commands.specs.declared.claim.BundleClaim.TheVariants.{Of, Bad}
use Rattle.esr_commands.specs.Claims.{IsClaim, IsClaimOf, ShowsDistance}

bad_fault : (asked : Problem) (bytes : List ℕ) (f : BundleFault) → f ≢ NoMemory → IsReadingOf bytes (Err f) → IsClaimOf asked bytes (Bad (bundle_fault_number f))
bad_fault asked bytes Json other h = (Err Json, h, refl)
bad_fault asked bytes Shape other h = (Err Shape, h, refl)
bad_fault asked bytes Range other h = (Err Range, h, refl)
bad_fault asked bytes NoMemory other h = absurd (other refl)

pub claims_bad : (asked : Problem) (bytes : List ℕ) (f : BundleFault) (r : Result BundleClaim AllocError) → IfOk r (λ v. v ≡ Bad (bundle_fault_number f)) → (IsOk r → f ≢ NoMemory) → IsReadingOf bytes (Err f)
    → IfOk r (IsClaimOf asked bytes)
claims_bad asked bytes f (Ok v) is other h = rw is (bad_fault asked bytes f (other refl) h)
claims_bad asked bytes f (Err e) is other h = tt

pub shown_by : (s : ScriptState) (name : List ℕ) (a : AuditedQuery) (bytes : List ℕ) (b : Problem × Certificate) (claim : BundleClaim) (worth : ℕ) → IsAnswered s name a
    → All IsValue a.history.schedule.opening → IsLegal weighted a.history.schedule → is_well_formed a.finding.problem ≡ true
    → DecodesTo bytes (Ok b) → IsClaim a.finding.problem (Ok b) claim → claim ≡ Of worth → ShowsDistance s name bytes worth
shown_by s name a bytes b claim worth answered opened legal sound means held is =
    let k : IsClaim a.finding.problem (Ok b) (Of worth) = subst (IsClaim a.finding.problem (Ok b)) is held in
    let q : ℕ = (transaction_called s name).0 in
    let is_problem : problems.IsProblemOf weighted s.history q b.0 =
    subst (λ (p : Problem). problems.IsProblemOf weighted s.history q p) (sym k.2) answered.finding.found.is_problem in
    let least : IsLeastDistance weighted s.history q b.1.worth =
    certified_is_least weighted s.history q
    (subst (λ (h : Schedule). All IsValue h.opening) answered.history opened) (subst (IsLegal weighted) answered.history legal)
    b.0 b.1 is_problem (ap is_well_formed k.2 ∙ sound) k.0 in
    (b, means, k.0, k.1, is_problem, subst (IsLeastDistance weighted s.history q) (sym k.1) least)
