use Rattle.std.proofs.Common.{◌≡◌, ◌≢◌, ℕ, List, Bool, true, false, Some, Result, IfErr, map, sym, ap, ◌∙◌, IsErrAnd, map-id}
use Rattle.std.specs.List.{list_all}
use Rattle.esr_cert.specs.Problem.{Chain, Problem, has_valid_shape}
use Rattle.esr_cert.specs.Faults.{problem_fault}
use Rattle.esr_cert.specs.declared.problem.BundleFault.{BundleFault}
use Rattle.esr_cert.specs.declared.problem.BundleFault.TheVariants.{NoMemory, Range}
use Rattle.esr_bundle.specs.Bundle.{is_position, is_pair_of_positions, is_chain_of_positions}
use Rattle.esr_cert.specs.ProblemDrafts.{drafted_chain, drafted_problem}
use Rattle.esr_bundle.proofs.Exits.{passes}
use Rattle.esr_bundle.proofs.Wide.{wide}
use Rattle.esr_bundle.proofs.sound.parts_of.Goals as goal

abbrev made : List ℕ → List (ℕ × ℕ) → List Chain → List ℕ → Problem
made us es ks ms = record { updates = us; before = es; chains = ks; must = ms }

made_same : (us us' : List ℕ) (es es' : List (ℕ × ℕ)) (ks ks' : List Chain) (ms ms' : List ℕ) → us ≡ us' → es ≡ es' → ks ≡ ks' → ms ≡ ms' → made us es ks ms ≡ made us' es' ks' ms'
made_same us us' es es' ks ks' ms ms' a b c d = cc

pub returns-clause-ok : goal.returns-clause-ok
returns-clause-ok c =
    made_same _ _ _ _ _ _ _ _
    (c.in_ok-updates.ensures.ok ∙ map-id _ ∙ c.deref.ensures.value)
    (sym (map-id _) ∙ c.in_ok-before.ensures.ok ∙ map-id _ ∙ c.deref-2.ensures.value)
    (c.in_ok-chains.ensures.ok ∙ ap (map drafted_chain) c.deref-3.ensures.value)
    (c.in_ok-must.ensures.ok ∙ c.deref-4.ensures.value)

unmapped : {X : Type 0} (p : X → Bool) (xs : List X) → list_all p (map (λ x. x) xs) ≡ false → list_all p xs ≡ false
unmapped p xs h = ap (list_all p) (sym (map-id xs)) ∙ h

-- a fault of a part that is handed on is the fault of the whole
handed : {T : Type 0} (p : Problem) (fits : Bool) (r : Result T BundleFault) (x : BundleFault) → (has_valid_shape p ≡ true → fits ≡ false → problem_fault p ≡ Some Range) → has_valid_shape p ≡ true
    → IsErrAnd r (λ e. e ≡ x) → (x ≢ NoMemory → (x ≡ Range) × (fits ≡ false)) → IfErr r (λ e. e ≢ NoMemory → problem_fault p ≡ Some e)
handed p fits r x wide shape is err = passes (λ e. e ≢ NoMemory → problem_fault p ≡ Some e) r x is (λ n. let k = err n in wide shape k.1 ∙ ap (λ e. Some e) (sym k.0))

pub returns-in_err-updates-clause-err : goal.returns-in_err-updates-clause-err
returns-in_err-updates-clause-err c =
    let p = drafted_problem c.args.draft.now in
    handed p (list_all is_position c.args.draft.now.updates.items) _ _ (wide p _ (λ are. are.updates)) c.requires c.from_residual.ensures.1 (λ n. let k = c.in_err-updates.ensures.err n in (k.0, ap (list_all is_position) (sym c.deref.ensures.value) ∙ unmapped is_position c.deref.result.now k.1))

pub returns-in_err-before-clause-err : goal.returns-in_err-before-clause-err
returns-in_err-before-clause-err c =
    let p = drafted_problem c.args.draft.now in
    handed p (list_all is_pair_of_positions c.args.draft.now.before.items) _ _ (wide p _ (λ are. are.before)) c.requires c.from_residual-in_err-before.ensures.1 (λ n. let k = c.in_err-before.ensures.err n in (k.0, ap (list_all is_pair_of_positions) (sym c.deref-2.ensures.value) ∙ unmapped is_pair_of_positions c.deref-2.result.now k.1))

pub returns-in_err-chains-clause-err : goal.returns-in_err-chains-clause-err
returns-in_err-chains-clause-err c =
    let p = drafted_problem c.args.draft.now in
    handed p (list_all is_chain_of_positions (map drafted_chain c.args.draft.now.chains.items)) _ _ (wide p _ (λ are. are.chains)) c.requires c.from_residual-in_err-chains.ensures.1 (λ n. let k = c.in_err-chains.ensures.err n in (k.0, ap (λ ks. list_all is_chain_of_positions (map drafted_chain ks)) (sym c.deref-3.ensures.value) ∙ k.1))

pub returns-in_err-must-clause-err : goal.returns-in_err-must-clause-err
returns-in_err-must-clause-err c =
    let p = drafted_problem c.args.draft.now in
    handed p (list_all is_position c.args.draft.now.must.items) _ _ (wide p _ (λ are. are.must)) c.requires c.from_residual-in_err-must.ensures.1 (λ n. let k = c.in_err-must.ensures.err n in (k.0, ap (list_all is_position) (sym c.deref-4.ensures.value) ∙ k.1))
