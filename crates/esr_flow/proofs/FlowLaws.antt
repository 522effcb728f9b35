-- The effect of an augmentation on a flow: it stays a flow, its worth rises by the amount, and no arc gets more than
-- that.
use Rattle.std.proofs.Common.{◌≡◌, ℕ, zero, suc, ◌+◌, ◌-◌, ◌<◌, ◌≤◌, Bool, true, false, eqb, List, [], ◌∷◌, length, set, replicate, Option, Some, None, refl, sym, ap, ◌∙◌, subst, inl, inr, arith, le-leb, leb-true, eq-eqb, ne_eqb, get_or-set_same}
use Rattle.std.proofs.lemmas.Bool.{cases_eq}
use Rattle.std.proofs.lemmas.List.{length-replicate, get_or-replicate}
use Rattle.esr_flow.specs.Types.{Arc, ResidualArc, Forward, Backward}
use Rattle.esr_flow.specs.Residual.{Falls, left_of, finish, residual_capacity, IsPath, shift, raise}
use Rattle.esr_cert.specs.ResidualArcs.{arc_of, start}
use Rattle.esr_cert.specs.Flow.{within, amount_at, carried, inflow, outflow, IsFlow, worth}
use Rattle.esr_cert.specs.Network.{arc_at, Network, IsNetwork}
use Rattle.esr_cert.proofs.Cut.{pick, pick_add, pick_zero, nothing_into_source}
use Rattle.esr_flow.specs.Augmentation.{Augments, AugmentsFrom}
use Rattle.esr_flow.specs.Maximum.{IsStart}
use Rattle.esr_flow.proofs.Labels.{Levels, ResidualCapacities, capacities_kept, above_step, untouched, shift_other, length-shift, levels_from}
use Rattle.esr_flow.proofs.Distance.{distance, distance_sink, distance_falls, distance_limit}
use Rattle.esr_flow.proofs.Phases.{capacities_from, bottle_from, amount_pos, length-raise}

carried_set : (p : Arc → Bool) (arcs : List Arc) (flow : List ℕ) (i y : ℕ) → length flow ≡ length arcs → i < length arcs → carried p arcs (set flow i y) + pick (p (arc_at arcs i)) (amount_at flow i) ≡ carried p arcs flow + pick (p (arc_at arcs i)) y
carried_set p [] flow i y e l = absurd (omega arith)
carried_set p (a ∷ arcs) [] i y e l = absurd (omega arith)
carried_set p (a ∷ arcs) (x ∷ flow) zero y e l = omega arith
carried_set p (a ∷ arcs) (x ∷ flow) (suc i) y e l = omega (arith, carried_set p arcs flow i y (omega arith) (omega arith))

carried_along : (p : Arc → Bool) (arcs : List Arc) (flow : List ℕ) (i x : ℕ) → length flow ≡ length arcs → i < length arcs → carried p arcs (shift flow x (Forward i)) ≡ carried p arcs flow + pick (p (arc_at arcs i)) x
carried_along p arcs flow i x e l =
    omega (arith, carried_set p arcs flow i (amount_at flow i + x) e l, pick_add (p (arc_at arcs i)) (amount_at flow i) x)

carried_against : (p : Arc → Bool) (arcs : List Arc) (flow : List ℕ) (i x : ℕ) → length flow ≡ length arcs → i < length arcs → x ≤ amount_at flow i → carried p arcs (shift flow x (Backward i)) + pick (p (arc_at arcs i)) x ≡ carried p arcs flow
carried_against p arcs flow i x e l le =
    let whole : amount_at flow i ≡ (amount_at flow i - x) + x = omega arith in
    omega (arith, carried_set p arcs flow i (amount_at flow i - x) e l, pick_add (p (arc_at arcs i)) (amount_at flow i - x) x, ap (pick (p (arc_at arcs i))) whole)

step_balance : (arcs : List Arc) (flow : List ℕ) (x : ℕ) (s : ResidualArc) (v : ℕ) → length flow ≡ length arcs → arc_of s < length arcs → within x (residual_capacity arcs flow s) ≡ true → outflow arcs (shift flow x s) v + inflow arcs flow v + pick (eqb (finish arcs s) v) x ≡ outflow arcs flow v + inflow arcs (shift flow x s) v + pick (eqb (start arcs s) v) x
step_balance arcs flow x (Forward i) v e l w =
    omega (arith, carried_along (λ arc. eqb arc.to v) arcs flow i x e l, carried_along (λ arc. eqb arc.from v) arcs flow i x e l)
step_balance arcs flow x (Backward i) v e l w =
    let le : x ≤ amount_at flow i = leb-true x (amount_at flow i) w in
    omega (arith, carried_against (λ arc. eqb arc.to v) arcs flow i x e l le, carried_against (λ arc. eqb arc.from v) arcs flow i x e l le)

-- a path, whatever the flow
abbrev pub Linked : List Arc → ℕ → List ResidualArc → ℕ → Type 0
Linked arcs a [] b = a ≡ b
Linked arcs a (s ∷ path) b = (start arcs s ≡ a) × Linked arcs (finish arcs s) path b

-- along a path from a to b, x more leaves a and enters b
path_balance : (d : ℕ → ℕ) (arcs : List Arc) (flow : List ℕ) (x : ℕ) (path : List ResidualArc) (k a b v : ℕ) → length flow ≡ length arcs → Levels d arcs k path → ResidualCapacities arcs flow x path → Linked arcs a path b → outflow arcs (raise flow x path) v + inflow arcs flow v + pick (eqb b v) x ≡ outflow arcs flow v + inflow arcs (raise flow x path) v + pick (eqb a v) x
path_balance d arcs flow x [] k a b v e h r c = omega (arith, ap (λ n. pick (eqb n v) x) c)
path_balance d arcs flow x (s ∷ path) k a b v e h r c =
    let rest : outflow arcs (raise (shift flow x s) x path) v + inflow arcs (shift flow x s) v + pick (eqb b v) x ≡ outflow arcs (shift flow x s) v + inflow arcs (raise (shift flow x s) x path) v + pick (eqb (finish arcs s) v) x =
    path_balance d arcs (shift flow x s) x path (d (finish arcs s)) (finish arcs s) b v (length-shift flow x s ∙ e) h.3 (capacities_kept d arcs flow x x s (d (finish arcs s)) path h.3 (above_step d arcs s h.1) r.1) c.1 in
    let here : outflow arcs (shift flow x s) v + inflow arcs flow v + pick (eqb (finish arcs s) v) x ≡ outflow arcs flow v + inflow arcs (shift flow x s) v + pick (eqb (start arcs s) v) x = step_balance arcs flow x s v e h.2 r.0 in
    omega (arith, ap (λ n. pick (eqb n v) x) c.0)

abbrev pub Capped : List Arc → List ℕ → Type 0
Capped arcs flow = (i : ℕ) → i < length arcs → within (amount_at flow i) (arc_at arcs i).capacity ≡ true

within_more : (o : Option ℕ) (a x : ℕ) → within a o ≡ true → within x (left_of o a) ≡ true → within (a + x) o ≡ true
within_more None a x h w = refl
within_more (Some c) a x h w = le-leb (a + x) c (omega (arith, leb-true a c h, leb-true x (c - a) w))

within_fewer : (o : Option ℕ) (a b : ℕ) → b ≤ a → within a o ≡ true → within b o ≡ true
within_fewer None a b l h = refl
within_fewer (Some c) a b l h = le-leb b c (omega (arith, leb-true a c h))

shift_capped : (arcs : List Arc) (flow : List ℕ) (x : ℕ) (s : ResidualArc) → length flow ≡ length arcs → arc_of s < length arcs → within x (residual_capacity arcs flow s) ≡ true → Capped arcs flow → Capped arcs (shift flow x s)
shift_capped arcs flow x (Forward j) e l w c i m =
    elim (cases_eq i j) [
      | inl same ↦
          let at : amount_at (shift flow x (Forward j)) i ≡ amount_at flow j + x = ap (amount_at (shift flow x (Forward j))) same ∙ get_or-set_same flow j (amount_at flow j + x) 0 (omega arith) in
          subst (λ n. within n (arc_at arcs i).capacity ≡ true) (sym at)
          (subst (λ n. within (amount_at flow j + x) (arc_at arcs n).capacity ≡ true) (sym same) (within_more (arc_at arcs j).capacity (amount_at flow j) x (c j l) w))
      | inr ne ↦ subst (λ n. within n (arc_at arcs i).capacity ≡ true) (sym (shift_other flow x (Forward j) i ne)) (c i m)
    ]
shift_capped arcs flow x (Backward j) e l w c i m =
    elim (cases_eq i j) [
      | inl same ↦
          let at : amount_at (shift flow x (Backward j)) i ≡ amount_at flow j - x = ap (amount_at (shift flow x (Backward j))) same ∙ get_or-set_same flow j (amount_at flow j - x) 0 (omega arith) in
          subst (λ n. within n (arc_at arcs i).capacity ≡ true) (sym at)
          (subst (λ n. within (amount_at flow j - x) (arc_at arcs n).capacity ≡ true) (sym same) (within_fewer (arc_at arcs j).capacity (amount_at flow j) (amount_at flow j - x) (omega arith) (c j l)))
      | inr ne ↦ subst (λ n. within n (arc_at arcs i).capacity ≡ true) (sym (shift_other flow x (Backward j) i ne)) (c i m)
    ]

raise_capped : (d : ℕ → ℕ) (arcs : List Arc) (flow : List ℕ) (x : ℕ) (path : List ResidualArc) (k : ℕ) → length flow ≡ length arcs → Levels d arcs k path → ResidualCapacities arcs flow x path → Capped arcs flow → Capped arcs (raise flow x path)
raise_capped d arcs flow x [] k e h r c = c
raise_capped d arcs flow x (s ∷ path) k e h r c =
    raise_capped d arcs (shift flow x s) x path (d (finish arcs s)) (length-shift flow x s ∙ e) h.3 (capacities_kept d arcs flow x x s (d (finish arcs s)) path h.3 (above_step d arcs s h.1) r.1) (shift_capped arcs flow x s e h.2 r.0 c)

set_at_most : (flow : List ℕ) (j y z : ℕ) → y ≤ z → amount_at flow j ≤ z → amount_at (set flow j y) j ≤ z
set_at_most [] j y z a b = b
set_at_most (w ∷ flow) zero y z a b = a
set_at_most (w ∷ flow) (suc j) y z a b = set_at_most flow j y z a b

shift_at_most : (flow : List ℕ) (x : ℕ) (s : ResidualArc) → amount_at (shift flow x s) (arc_of s) ≤ amount_at flow (arc_of s) + x
shift_at_most flow x (Forward j) = set_at_most flow j (amount_at flow j + x) (amount_at flow j + x) (omega arith) (omega arith)
shift_at_most flow x (Backward j) = set_at_most flow j (amount_at flow j - x) (amount_at flow j + x) (omega arith) (omega arith)

-- no arc is raised by more than the amount
pub raise_at_most : (d : ℕ → ℕ) (arcs : List Arc) (flow : List ℕ) (x : ℕ) (path : List ResidualArc) (k i : ℕ) → Levels d arcs k path → amount_at (raise flow x path) i ≤ amount_at flow i + x
raise_at_most d arcs flow x [] k i h = omega arith
raise_at_most d arcs flow x (s ∷ path) k i h =
    let later : amount_at (raise (shift flow x s) x path) i ≤ amount_at (shift flow x s) i + x = raise_at_most d arcs (shift flow x s) x path (d (finish arcs s)) i h.3 in
    let at_step : amount_at (raise (shift flow x s) x path) (arc_of s) ≡ amount_at (shift flow x s) (arc_of s) = untouched d arcs (shift flow x s) x path (d (finish arcs s)) (arc_of s) h.3 (above_step d arcs s h.1) in
    elim (cases_eq i (arc_of s)) [
      | inl same ↦ subst (λ n. amount_at (raise (shift flow x s) x path) n ≤ amount_at flow n + x) (sym same) (omega (arith, shift_at_most flow x s))
      | inr ne ↦ omega (arith, shift_other flow x s i ne)
    ]

linked_from : (arcs : List Arc) (flow : List ℕ) (path : List ResidualArc) (a b : ℕ) → IsPath arcs flow a path b → Linked arcs a path b
linked_from arcs flow [] a b h = h
linked_from arcs flow (s ∷ path) a b h = (h.0, linked_from arcs flow path (finish arcs s) b h.2)

-- the state after an augmentation
pub record After (net : Network) (flow after : List ℕ) (x : ℕ) : Type 0 where
  pub is_flow : IsFlow net after
  pub raised : worth net after ≡ worth net flow + x
  pub positive : 1 ≤ x
  pub at_most : (i : ℕ) → amount_at after i ≤ amount_at flow i + x

-- labels that fall at each step of a shortest path
pub path_labels : (net : Network) (flow after : List ℕ) (a : Augments net flow after) → (d : ℕ → ℕ) × (Falls net.arcs flow d) × (d net.sink ≡ 0) × (d net.source ≡ length a.path) × Levels d net.arcs (d net.source) a.path
path_labels net flow after a =
    let d : ℕ → ℕ = distance net.arcs flow net.sink (length a.path) in
    let top : d net.source ≡ length a.path = distance_limit net.arcs flow net.sink (length a.path) net.source a.is_shortest in
    let falls : Falls net.arcs flow d = distance_falls net.arcs flow net.sink (length a.path) in
    let bottom : d net.sink ≡ 0 = distance_sink net.arcs flow net.sink (length a.path) in
    (d, falls, bottom, top, levels_from net.arcs flow d falls a.path net.source net.sink a.is_path (omega arith))

pub augmented : (net : Network) → IsNetwork net → (flow after : List ℕ) → IsFlow net flow → (a : Augments net flow after) → After net flow after a.amount
augmented net ok flow after f a =
    let p : (d : ℕ → ℕ) × (Falls net.arcs flow d) × (d net.sink ≡ 0) × (d net.source ≡ length a.path) × Levels d net.arcs (d net.source) a.path = path_labels net flow after a in
    let r : ResidualCapacities net.arcs flow a.amount a.path = capacities_from net.arcs flow a.amount a.path a.is_bottleneck in
    let balance : (v : ℕ) → outflow net.arcs (raise flow a.amount a.path) v + inflow net.arcs flow v + pick (eqb net.sink v) a.amount ≡ outflow net.arcs flow v + inflow net.arcs (raise flow a.amount a.path) v + pick (eqb net.source v) a.amount =
    λ v. path_balance p.0 net.arcs flow a.amount a.path (p.0 net.source) net.source net.sink v f.same_length p.4 r (linked_from net.arcs flow a.path net.source net.sink a.is_path) in
    let here : eqb net.source net.source ≡ true = eq-eqb _ _ refl in
    let not_there : eqb net.sink net.source ≡ false = ne_eqb _ _ (λ e. ok.source_is_not_sink (sym e)) in
    subst (λ g. After net flow g a.amount) (sym a.is_raised) (record {
      is_flow = record {
        same_length = length-raise flow a.amount a.path ∙ f.same_length;
        within_capacity = raise_capped p.0 net.arcs flow a.amount a.path (p.0 net.source) f.same_length p.4 r f.within_capacity;
        conserved = λ v l ns nt.
            omega (
              arith,
              balance v,
              f.conserved v l ns nt,
              ap (λ b. pick b a.amount) (ne_eqb net.sink v (λ e. nt (sym e))),
              ap (λ b. pick b a.amount) (ne_eqb net.source v (λ e. ns (sym e))),
            );
      };
      raised = omega (arith, balance net.source, nothing_into_source net ok flow, nothing_into_source net ok (raise flow a.amount a.path), ap (λ b. pick b a.amount) here, ap (λ b. pick b a.amount) not_there);
      positive = amount_pos net.arcs flow a.amount a.path net.source net.sink a.is_path (bottle_from net.arcs flow a.amount a.path a.is_bottleneck);
      at_most = λ i. raise_at_most p.0 net.arcs flow a.amount a.path (p.0 net.source) i p.4;
    })

zero_within : (o : Option ℕ) → within 0 o ≡ true
zero_within None = refl
zero_within (Some c) = le-leb 0 c (omega arith)

zero_carried : (p : Arc → Bool) (arcs : List Arc) → carried p arcs (replicate (length arcs) 0) ≡ 0
zero_carried p [] = refl
zero_carried p (a ∷ arcs) = omega (arith, pick_zero (p a), zero_carried p arcs)

pub zero_worth : (net : Network) → worth net (replicate (length net.arcs) 0) ≡ 0
zero_worth net = zero_carried (λ arc. eqb arc.from net.source) net.arcs

pub no_flow : (net : Network) → IsFlow net (replicate (length net.arcs) 0)
no_flow net = record {
  same_length = length-replicate (length net.arcs) 0;
  within_capacity = λ i l. subst (λ n. within n (arc_at net.arcs i).capacity ≡ true) (sym (get_or-replicate (length net.arcs) i 0 0 l)) (zero_within (arc_at net.arcs i).capacity);
  conserved = λ v l ns nt. zero_carried (λ arc. eqb arc.to v) net.arcs ∙ sym (zero_carried (λ arc. eqb arc.from v) net.arcs);
}

-- a flow that takes n augmentations from another: each raises the worth, and no amount is above that
pub record Taken (net : Network) (first : List ℕ) (n : ℕ) (flow : List ℕ) : Type 0 where
  pub is_flow : IsFlow net flow
  pub count_small : n + worth net first ≤ worth net flow
  pub amounts_small : (i : ℕ) → amount_at flow i ≤ worth net flow

zero_amount : (n i : ℕ) → amount_at (replicate n 0) i ≡ 0
zero_amount zero i = refl
zero_amount (suc n) zero = refl
zero_amount (suc n) (suc i) = zero_amount n i

pub zero_start : (net : Network) → IsStart net (replicate (length net.arcs) 0)
zero_start net = record { is_flow = no_flow net; amounts = λ i. omega (arith, zero_amount (length net.arcs) i) }

pub taken : (net : Network) → IsNetwork net → (first : List ℕ) → IsStart net first → (n : ℕ) (flow : List ℕ) → AugmentsFrom net first n flow → Taken net first n flow
taken net ok first s zero flow h = subst (Taken net first 0) (sym h) (record { is_flow = s.is_flow; count_small = omega arith; amounts_small = s.amounts })
taken net ok first s (suc n) flow h =
    let t : Taken net first n h.0 = taken net ok first s n h.0 h.1 in
    let a : After net h.0 flow h.2.amount = augmented net ok h.0 flow t.is_flow h.2 in
    record {
      is_flow = a.is_flow;
      count_small = omega (arith, t.count_small, a.raised, a.positive);
      amounts_small = λ i. omega (arith, t.amounts_small i, a.at_most i, a.raised);
    }
