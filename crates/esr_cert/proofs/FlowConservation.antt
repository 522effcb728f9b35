-- The steps that start at each node determine whether a flow is conserved there.
use Rattle.std.proofs.Common.{◌≡◌, ◌≢◌, ℕ, zero, suc, ◌+◌, ◌<◌, ◌≤◌, List, [], ◌∷◌, ◌++◌, Bool, true, cond, eqb, refl, sym, ap, ◌∙◌, arith, length, take, sum_by, Some, append_assoc, add-one, false, inl, inr, true≢false, eq-eqb}
use Rattle.std.proofs.lemmas.Bool.{cases_order, cases_Bool, eqb-true}
use Rattle.std.proofs.lemmas.List.{take_more, take_all, length-take-le}
use Rattle.std.proofs.lemmas.List.Elements.{filter-append}
use Rattle.std.proofs.lemmas.List.Sums.{sum_by-append}
use Rattle.esr_cert.specs.Network.{arc_at, network, Arc}
use Rattle.esr_cert.specs.Flow.{amount_at, carried, inflow, outflow, is_conserved_at, is_conserved}
use Rattle.esr_cert.specs.ResidualArcs.{start, ResidualArc, Forward, Backward}
use Rattle.esr_cert.specs.Adjacency.{residual_arcs_below, steps_from, row_of}
use Rattle.esr_cert.specs.FlowConservation.{amount_in, amount_out, is_balanced}
use Rattle.esr_cert.proofs.Cut.{pick, pick_zero}
use Rattle.esr_cert.specs.Problem.{Problem, update_count}
use Rattle.esr_cert.specs.Certificate.{Certificate, amounts}
use Rattle.esr_cert.proofs.Sound.{IsProblem}
use Rattle.esr_cert.proofs.Matched.{IsMatched, amounts_length}
use Rattle.esr_cert.proofs.Flows.{carried_append, conserved_each, conserved_from}

module _ (arcs : List Arc) (flow : List ℕ) (same : length flow ≡ length arcs) (v : ℕ) where
  -- a sum over the steps at a node and a sum over arcs agree on each arc
  abbrev Agree : (ResidualArc → ℕ) → (Arc → Bool) → Type 0
  Agree f q =
      (i : ℕ) → pick (eqb (arc_at arcs i).from v) (f (Forward i)) + pick (eqb (arc_at arcs i).to v) (f (Backward i)) ≡ pick (q (arc_at arcs i)) (amount_at flow i)

  one_step : (f : ResidualArc → ℕ) (s : ResidualArc) → sum_by f (steps_from arcs v (s ∷ [])) ≡ pick (eqb (start arcs s) v) (f s)
  one_step f s = go (eqb (start arcs s) v)
    where
      go : (b : Bool) → sum_by f (cond b (s ∷ []) []) ≡ pick b (f s)
      go true = omega arith
      go false = refl

  sums : (f : ResidualArc → ℕ) (q : Arc → Bool) → Agree f q → (n : ℕ) → n ≤ length arcs → sum_by f (steps_from arcs v (residual_arcs_below n)) ≡ carried q (take n arcs) (take n flow)
  sums f q agree zero l = refl
  sums f q agree (suc n) l =
      let split : steps_from arcs v (residual_arcs_below (suc n)) ≡ steps_from arcs v (residual_arcs_below n) ++ steps_from arcs v (Forward n ∷ []) ++ steps_from arcs v (Backward n ∷ []) =
      filter-append (λ step. eqb (start arcs step) v) (residual_arcs_below n) (Forward n ∷ Backward n ∷ [])
      ∙ ap (λ xs. steps_from arcs v (residual_arcs_below n) ++ xs) (filter-append (λ step. eqb (start arcs step) v) (Forward n ∷ []) (Backward n ∷ []))
      ∙ sym (append_assoc (steps_from arcs v (residual_arcs_below n)) (steps_from arcs v (Forward n ∷ [])) (steps_from arcs v (Backward n ∷ []))) in
      let more_arcs : take (suc n) arcs ≡ take n arcs ++ arc_at arcs n ∷ [] = ap (λ m. take m arcs) (sym (add-one n)) ∙ take_more arcs n (record { from = 0; to = 0; capacity = Some 0 }) (omega arith) in
      let more_flow : take (suc n) flow ≡ take n flow ++ amount_at flow n ∷ [] = ap (λ m. take m flow) (sym (add-one n)) ∙ take_more flow n 0 (omega arith) in
      omega (
        arith,
        ap (sum_by f) split,
        sum_by-append f (steps_from arcs v (residual_arcs_below n) ++ steps_from arcs v (Forward n ∷ [])) (steps_from arcs v (Backward n ∷ [])),
        sum_by-append f (steps_from arcs v (residual_arcs_below n)) (steps_from arcs v (Forward n ∷ [])),
        one_step f (Forward n),
        one_step f (Backward n),
        agree n,
        sums f q agree n (omega arith),
        ap (λ xs. carried q xs (take (suc n) flow)) more_arcs,
        ap (carried q (take n arcs ++ arc_at arcs n ∷ [])) more_flow,
        carried_append q (take n arcs) (arc_at arcs n ∷ []) (take n flow) (amount_at flow n ∷ []) (omega (arith, length-take-le n arcs (omega arith), length-take-le n flow (omega arith))),
      )

  whole : (f : ResidualArc → ℕ) (q : Arc → Bool) → Agree f q → sum_by f (row_of arcs v) ≡ carried q arcs flow
  whole f q agree =
      sums f q agree (length arcs) (omega arith) ∙ ap (λ xs. carried q xs (take (length arcs) flow)) (take_all (length arcs) arcs (omega arith)) ∙ ap (carried q arcs) (take_all (length arcs) flow (omega arith))

  in_is : sum_by (amount_in flow) (row_of arcs v) ≡ inflow arcs flow v
  in_is = whole (amount_in flow) (λ arc. eqb arc.to v) (λ i. omega (arith, pick_zero (eqb (arc_at arcs i).from v)))

  pub out_is : sum_by (amount_out flow) (row_of arcs v) ≡ outflow arcs flow v
  out_is = whole (amount_out flow) (λ arc. eqb arc.from v) (λ i. omega (arith, pick_zero (eqb (arc_at arcs i).to v)))

  pub balanced_is : is_balanced flow (row_of arcs v) ≡ is_conserved_at arcs flow v
  balanced_is = ap (λ n. eqb n (sum_by (amount_out flow) (row_of arcs v))) in_is ∙ ap (eqb (inflow arcs flow v)) out_is

-- if the steps at a node are balanced, the flow of a certificate is conserved there
pub balanced_at : (p : Problem) → IsProblem p → (c : Certificate) → IsMatched p c → (v : ℕ) → is_balanced (amounts c) (row_of (network p).arcs v) ≡ is_conserved_at (network p).arcs (amounts c) v
balanced_at p ok c m v = balanced_is (network p).arcs (amounts c) (amounts_length p ok c m) v

-- a flow is conserved if it is conserved at each update
pub all_conserved : (p : Problem) (flow : List ℕ) → ((v : ℕ) → v < update_count p → is_conserved_at (network p).arcs flow v ≡ true) → is_conserved (network p) flow ≡ true
all_conserved p flow h = conserved_from (network p) flow (λ v l ns nt. eqb-true _ _ (h v (inner v l ns nt)))
  where
    inner : (v : ℕ) → v < update_count p + 2 → v ≢ update_count p → v ≢ update_count p + 1 → v < update_count p
    inner v l ns nt =
        elim (cases_order v (update_count p)) [
          | inl e ↦ absurd (ns e)
          | inr o ↦ elim o [ inl k ↦ k | inr k ↦ absurd (nt (omega arith)) ]
        ]

-- a flow is not conserved if it is not conserved at some update
pub one_not : (p : Problem) (flow : List ℕ) (v : ℕ) → v < update_count p → is_conserved_at (network p).arcs flow v ≡ false → is_conserved (network p) flow ≡ false
one_not p flow v l h =
    elim (cases_Bool (is_conserved (network p) flow)) [
      | inl whole ↦ absurd (true≢false (sym (eq-eqb _ _ (conserved_each (network p) flow whole v (omega arith) (λ (q : v ≡ update_count p). omega arith) (λ (q : v ≡ update_count p + 1). omega arith))) ∙ h))
      | inr not_whole ↦ not_whole
    ]
