-- The meaning of the tests of a flow, arc by arc and node by node.
use Rattle.std.proofs.Common.{◌≡◌, ◌≢◌, ℕ, zero, suc, ◌+◌, ◌<◌, ◌≤◌, Bool, true, ◌||◌, eqb, List, [], ◌∷◌, ◌++◌, length, refl, sym, ap, ◌∙◌, inl, inr, arith, true≢false, eq-eqb}
use Rattle.std.specs.List.{list_all, range_with_len}
use Rattle.std.proofs.lemmas.Bool.{and_parts, and_from, or_cases, or_left, or_right, cases_eq, eqb-true}
use Rattle.esr_cert.specs.Network.{Arc, arc_at, Network}
use Rattle.esr_cert.specs.Flow.{within, amount_at, carried, inflow, outflow, are_within, is_conserved_at, is_conserved, IsFlow}

within_length : (arcs : List Arc) (flow : List ℕ) → are_within arcs flow ≡ true → length flow ≡ length arcs
within_length [] [] h = refl
within_length [] (x ∷ flow) h = absurd (true≢false (sym h))
within_length (a ∷ arcs) [] h = absurd (true≢false (sym h))
within_length (a ∷ arcs) (x ∷ flow) h = omega (arith, within_length arcs flow (and_parts (within x a.capacity) (are_within arcs flow) h).1)

within_each : (arcs : List Arc) (flow : List ℕ) → are_within arcs flow ≡ true → (i : ℕ) → i < length arcs → within (amount_at flow i) (arc_at arcs i).capacity ≡ true
within_each [] flow h i l = absurd (omega arith)
within_each (a ∷ arcs) [] h i l = absurd (true≢false (sym h))
within_each (a ∷ arcs) (x ∷ flow) h zero l = (and_parts (within x a.capacity) (are_within arcs flow) h).0
within_each (a ∷ arcs) (x ∷ flow) h (suc i) l = within_each arcs flow (and_parts (within x a.capacity) (are_within arcs flow) h).1 i (omega arith)

pub within_from : (arcs : List Arc) (flow : List ℕ) → length flow ≡ length arcs → ((i : ℕ) → i < length arcs → within (amount_at flow i) (arc_at arcs i).capacity ≡ true) → are_within arcs flow ≡ true
within_from [] [] e h = refl
within_from [] (x ∷ flow) e h = absurd (omega arith)
within_from (a ∷ arcs) [] e h = absurd (omega arith)
within_from (a ∷ arcs) (x ∷ flow) e h =
    and_from (within x a.capacity) (are_within arcs flow) (h 0 (omega arith)) (within_from arcs flow (omega arith) (λ i l. h (suc i) (omega arith)))

range_each : (p : ℕ → Bool) (a n v : ℕ) → list_all p (range_with_len a n) ≡ true → a ≤ v → v < a + n → p v ≡ true
range_each p a zero v h l m = absurd (omega arith)
range_each p a (suc n) v h l m =
    let both : (p a ≡ true) × (list_all p (range_with_len (a + 1) n) ≡ true) = and_parts (p a) (list_all p (range_with_len (a + 1) n)) h in
    let later : a + 1 ≤ v → p v ≡ true = λ k. range_each p (a + 1) n v both.1 k (omega arith) in
    elim (cases_eq v a) [ inl e ↦ ap p e ∙ both.0 | inr ne ↦ later (omega arith) ]

range_from : (p : ℕ → Bool) (a n : ℕ) → ((v : ℕ) → a ≤ v → v < a + n → p v ≡ true) → list_all p (range_with_len a n) ≡ true
range_from p a zero h = refl
range_from p a (suc n) h =
    and_from (p a) (list_all p (range_with_len (a + 1) n)) (h a (omega arith) (omega arith)) (range_from p (a + 1) n (λ v l m. h v (omega arith) (omega arith)))

pub conserved_each : (net : Network) (flow : List ℕ) → is_conserved net flow ≡ true → (v : ℕ) → v < net.node_count → v ≢ net.source → v ≢ net.sink → inflow net.arcs flow v ≡ outflow net.arcs flow v
conserved_each net flow h v l ns nt =
    let at : (eqb v net.source || (eqb v net.sink || is_conserved_at net.arcs flow v)) ≡ true =
    range_each (λ v. eqb v net.source || (eqb v net.sink || is_conserved_at net.arcs flow v)) 0 net.node_count v h (omega arith) (omega arith) in
    elim (or_cases (eqb v net.source) (eqb v net.sink || is_conserved_at net.arcs flow v) at) [
      | inl e ↦ absurd (ns (eqb-true _ _ e))
      | inr r ↦ elim (or_cases (eqb v net.sink) (is_conserved_at net.arcs flow v) r) [ inl e ↦ absurd (nt (eqb-true _ _ e)) | inr e ↦ eqb-true _ _ e ]
    ]

pub conserved_from : (net : Network) (flow : List ℕ) → ((v : ℕ) → v < net.node_count → v ≢ net.source → v ≢ net.sink → inflow net.arcs flow v ≡ outflow net.arcs flow v) → is_conserved net flow ≡ true
conserved_from net flow h = range_from (λ v. eqb v net.source || (eqb v net.sink || is_conserved_at net.arcs flow v)) 0 net.node_count at
  where
    at : (v : ℕ) → 0 ≤ v → v < 0 + net.node_count → (eqb v net.source || (eqb v net.sink || is_conserved_at net.arcs flow v)) ≡ true
    at v k l =
        let past : v ≢ net.source → (eqb v net.sink || is_conserved_at net.arcs flow v) ≡ true =
        λ ns. elim (cases_eq v net.sink) [
          | inl e ↦ or_left (eqb v net.sink) (is_conserved_at net.arcs flow v) (eq-eqb v net.sink e)
          | inr nt ↦ or_right (eqb v net.sink) (is_conserved_at net.arcs flow v) (eq-eqb (inflow net.arcs flow v) (outflow net.arcs flow v) (h v (omega arith) ns nt))
        ] in
        elim (cases_eq v net.source) [
          | inl e ↦ or_left (eqb v net.source) (eqb v net.sink || is_conserved_at net.arcs flow v) (eq-eqb v net.source e)
          | inr ns ↦ or_right (eqb v net.source) (eqb v net.sink || is_conserved_at net.arcs flow v) (past ns)
        ]

pub flow_facts : (net : Network) (flow : List ℕ) → are_within net.arcs flow ≡ true → is_conserved net flow ≡ true → IsFlow net flow
flow_facts net flow w k = record {
  same_length = within_length net.arcs flow w;
  within_capacity = within_each net.arcs flow w;
  conserved = conserved_each net flow k;
}

-- ---- sums over arcs

pub carried_append : (p : Arc → Bool) (xs ys : List Arc) (gs bs : List ℕ) → length gs ≡ length xs → carried p (xs ++ ys) (gs ++ bs) ≡ carried p xs gs + carried p ys bs
carried_append p [] ys [] bs e = omega arith
carried_append p [] ys (a ∷ gs) bs e = absurd (omega arith)
carried_append p (x ∷ xs) ys [] bs e = absurd (omega arith)
carried_append p (x ∷ xs) ys (a ∷ gs) bs e = omega (arith, carried_append p xs ys gs bs (omega arith))
