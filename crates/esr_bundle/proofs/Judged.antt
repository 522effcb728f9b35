-- The judgement of numbers.
use Rattle.std.proofs.Common.{◌≡◌, ◌≢◌, ℕ, List, Bool, true, false, not, cond, Option, Some, None, Result, Ok, Err, IfOk, IfErr, ap, ◌∙◌}
use Rattle.std.specs.List.{list_all}
use Rattle.std.proofs.lemmas.Bool.{and_parts}
use Rattle.serde_json.specs.Data.{Data}
use Rattle.esr_cert.specs.Problem.{Problem, has_valid_shape, is_in_range, is_well_formed}
use Rattle.esr_cert.specs.Certificate.{Certificate}
use Rattle.esr_cert.specs.Faults.{problem_fault}
use Rattle.esr_cert.specs.Views.{certificate_of}
use Rattle.esr_cert.specs.declared.certificate.Certificate as rust
use Rattle.esr_cert.specs.declared.problem.BundleFault.{BundleFault}
use Rattle.esr_cert.specs.declared.problem.BundleFault.TheVariants.{Json, Shape, Range, NoMemory}
use Rattle.esr_bundle.specs.Bundle.{is_position, judged, judged_with, judged_parts, parts_of, problem_in}
use Rattle.esr_bundle.specs.Reading.{IsTree, IsReadingOf}

pub judged_ok : (p : Problem) (c : Certificate) → problem_fault p ≡ None → list_all is_position c.set ≡ true → judged (p, c) ≡ Ok (p, c)
judged_ok p c a b =
    let F : Option BundleFault → Result (Problem × Certificate) BundleFault = λ f. judged_with f (p, c) in
    let G : Bool → Result (Problem × Certificate) BundleFault = λ t. cond t (Ok (p, c)) (Err Range) in
    ap F a ∙ ap G b

-- ---- numbers are never judged to be no JSON

last_not_json : (t : Bool) (b : Problem × Certificate) → cond t (Ok b) (Err Range) ≡ Err Json → ⊥
last_not_json true b h = cc
last_not_json false b h = cc

tests_not_json : (s r : Bool) (b : Problem × Certificate) → judged_with (cond (not s) (Some Shape) (cond (not r) (Some Range) None)) b ≡ Err Json → ⊥
tests_not_json false r b h = cc
tests_not_json true false b h = cc
tests_not_json true true b h = last_not_json (list_all is_position b.1.set) b h

not_json : (b : Problem × Certificate) → judged b ≡ Err Json → ⊥
not_json b h = tests_not_json (has_valid_shape b.0) (is_in_range b.0) b h

encodes : (d : Data) (b : Problem × Certificate) → parts_of d ≡ Some b → problem_in d ≡ judged b
encodes d b h = ap judged_parts h

pub reading_from : (bytes : List ℕ) (d : Data) → IsTree bytes d → (b : Problem × Certificate) → parts_of d ≡ Some b
    → (r : Result (Problem × rust.Certificate) BundleFault) → IfOk r (λ x. judged b ≡ Ok (x.0, certificate_of x.1)) → IfErr r (λ e. e ≢ NoMemory → judged b ≡ Err e)
    → IsReadingOf bytes r
reading_from bytes d t b h (Ok x) ok err = (d, t, encodes d b h ∙ ok)
reading_from bytes d t b h (Err Json) ok err = absurd (not_json b (err (λ e. cc)))
reading_from bytes d t b h (Err NoMemory) ok err = tt
reading_from bytes d t b h _ ok err = (d, t, encodes d b h ∙ err (λ e. cc))

pub not_faulty : (p : Problem) → is_well_formed p ≡ true → problem_fault p ≡ None
not_faulty p h =
    let both = and_parts (has_valid_shape p) (is_in_range p) h in
    let F : Bool → Option BundleFault = λ b. cond (not b) (Some Shape) (cond (not (is_in_range p)) (Some Range) None) in
    let G : Bool → Option BundleFault = λ b. cond (not b) (Some Range) None in
    ap F both.0 ∙ ap G both.1
