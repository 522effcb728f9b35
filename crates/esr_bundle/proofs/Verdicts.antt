-- Verdicts on bytes, and the bytes that a reader returned.
use Rattle.std.proofs.Common.{◌≡◌, ◌≢◌, ℕ, ◌<◌, take, length-take, length-append, List, ◌++◌, length, refl, sym, ap, ◌∙◌, arith, Option, Some, None, Result, Ok, Err, IfOk, IsOk, append-nil}
use Rattle.std.specs.Io.KnownBytes.{Consumes, IsAtEnd}
use Rattle.std.specs.declared.alloc.AllocError.{AllocError}
use Rattle.std.proofs.lemmas.List.{nil_from_length}
use Rattle.esr_cert.specs.Problem.{Problem}
use Rattle.esr_cert.specs.Certificate.{Certificate, fault, or_fault}
use Rattle.esr_cert.specs.Faults.{fault_number, bundle_fault_number}
use Rattle.esr_cert.specs.declared.certificate.Fault.{Fault}
use Rattle.esr_cert.specs.declared.problem.BundleFault.{BundleFault}
use Rattle.esr_cert.specs.declared.problem.BundleFault.TheVariants.{Json, Shape, Range, NoMemory}
use Rattle.esr_bundle.specs.declared.judgement.Verdict.{Verdict}
use Rattle.esr_bundle.specs.declared.judgement.Verdict.TheVariants.{Valid, Invalid, Bad}
use Rattle.esr_bundle.specs.Reading.{Encodes, IsReadingOf}
use Rattle.esr_bundle.specs.Judge.{IsVerdictOf, verdict_of_check}

or_none : (f : Option Fault) (u : Unit {0}) → Ok u ≡ or_fault f → f ≡ None
or_none None u h = refl
or_none (Some e) u h = cc

or_some : (f : Option Fault) (e : Fault) → Err e ≡ or_fault f → f ≡ Some e
or_some None e h = cc
or_some (Some f) e h = cc

pub valid : (bytes : List ℕ) (p : Problem) (c : Certificate) (u : Unit {0}) → Encodes bytes (Ok (p, c)) → Ok u ≡ or_fault (fault p c) → IsVerdictOf bytes (Valid c.worth)
valid bytes p c u encodes h = (Ok (p, c), encodes, ap (verdict_of_check c.worth) (sym (or_none (fault p c) u h)))

pub invalid : (bytes : List ℕ) (p : Problem) (c : Certificate) (f : Fault) (n : ℕ) → Encodes bytes (Ok (p, c)) → Err f ≡ or_fault (fault p c) → n ≡ fault_number f → IsVerdictOf bytes (Invalid n)
invalid bytes p c f n encodes h e = (Ok (p, c), encodes, ap (λ n. Invalid n) e ∙ ap (verdict_of_check c.worth) (sym (or_some (fault p c) f h)))

bad_fault : (bytes : List ℕ) (f : BundleFault) → f ≢ NoMemory → IsReadingOf bytes (Err f) → IsVerdictOf bytes (Bad (bundle_fault_number f))
bad_fault bytes Json other h = (Err Json, h, refl)
bad_fault bytes Shape other h = (Err Shape, h, refl)
bad_fault bytes Range other h = (Err Range, h, refl)
bad_fault bytes NoMemory other h = absurd (other refl)

pub bad : (bytes : List ℕ) (f : BundleFault) (r : Result Verdict AllocError) → IfOk r (λ v. v ≡ Bad (bundle_fault_number f)) → (IsOk r → f ≢ NoMemory) → IsReadingOf bytes (Err f) → IfOk r (IsVerdictOf bytes)
bad bytes f (Ok v) is other h = rw is (bad_fault bytes f (other refl) h)
bad bytes f (Err e) is other h = tt

-- ---- the bytes of a reader

-- a read that returned no bytes
pub no_more : (old new more : List ℕ) → new ≡ old ++ more → length more ≡ 0 → new ≡ old
no_more old new more is none = is ∙ ap (λ l. old ++ l) (nil_from_length more none) ∙ append-nil old

-- a nonempty buffer stays nonempty, whatever is read into it
pub capacity_kept : (xs ys : List ℕ) (n : ℕ) → 0 < n → 0 < length xs → 0 < length (take n (xs ++ ys))
capacity_kept xs ys n a b = omega (arith, length-take n (xs ++ ys), length-append xs ys)

pub all_of : (input bytes : List ℕ) (old left : Option (List ℕ)) → old ≡ Some input → Consumes old left bytes → IsAtEnd left → bytes ≡ input
all_of input bytes None left known took end = cc
all_of input bytes (Some xs) None known took end = absurd took
all_of input bytes (Some xs) (Some ys) known took end = let same : xs ≡ input = cc in sym (append-nil bytes) ∙ ap (λ l. bytes ++ l) (sym end) ∙ sym took ∙ same
