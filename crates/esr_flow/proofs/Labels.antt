-- Labels of the nodes that fall by at most one along each residual arc, and the effect on them of an augmentation along
-- a path on which they fall by one at each step.
use Rattle.std.proofs.Common.{◌≡◌, ◌≢◌, ℕ, suc, ◌+◌, ◌-◌, ◌<◌, ◌≤◌, Bool, true, false, ◌&&◌, ◌||◌, ◌⊎◌, leb, eqb, List, [], ◌∷◌, length, Option, Some, None, refl, sym, ap, ◌∙◌, subst, inl, inr, arith, length-set, eq-eqb, ne_eqb, eqb-true, le-leb, leb-true, get_or-set_other, get_or-set_same}
use Rattle.std.proofs.lemmas.Bool.{or_left, or_right, or_cases, and_parts, and_from, and_left, or_from, lt-leb, cases_eq, and_right}
use Rattle.esr_flow.specs.Types.{Arc, ResidualArc, Forward, Backward}
use Rattle.esr_cert.specs.Flow.{within, amount_at}
use Rattle.esr_flow.specs.Residual.{left_of, finish, residual_capacity, IsPath, Falls, shift, raise}
use Rattle.esr_cert.specs.ResidualArcs.{arc_of, start}
use Rattle.esr_cert.specs.Network.{arc_at}

pub label_bound : (arcs : List Arc) (flow : List ℕ) (d : ℕ → ℕ) → Falls arcs flow d → (path : List ResidualArc) (a b : ℕ) → IsPath arcs flow a path b → d a ≤ length path + d b
label_bound arcs flow d f [] a b e = omega (arith, ap d e)
label_bound arcs flow d f (s ∷ path) a b h =
    omega (arith, label_bound arcs flow d f path (finish arcs s) b h.2, f s h.1, ap d h.0)

-- the labels fall by one at each step, from k at most
abbrev pub Levels : (ℕ → ℕ) → List Arc → ℕ → List ResidualArc → Type 0
Levels d arcs k [] = Unit {0}
Levels d arcs k (s ∷ path) =
    (d (start arcs s) ≤ k) × (d (start arcs s) ≡ suc (d (finish arcs s))) × (arc_of s < length arcs) × Levels d arcs (d (finish arcs s)) path

-- each step has residual capacity for x
abbrev pub ResidualCapacities : List Arc → List ℕ → ℕ → List ResidualArc → Type 0
ResidualCapacities arcs flow x [] = Unit {0}
ResidualCapacities arcs flow x (s ∷ path) = (within x (residual_capacity arcs flow s) ≡ true) × ResidualCapacities arcs flow x path

-- a step that has residual capacity for x and no more
abbrev pub Bottle : List Arc → List ℕ → ℕ → List ResidualArc → Type 0
Bottle arcs flow x [] = ⊥
Bottle arcs flow x (s ∷ path) = (residual_capacity arcs flow s ≡ Some x) ⊎ Bottle arcs flow x path

pub levels_from : (arcs : List Arc) (flow : List ℕ) (d : ℕ → ℕ) → Falls arcs flow d → (path : List ResidualArc) (a b : ℕ) → IsPath arcs flow a path b → length path + d b ≤ d a → Levels d arcs (d a) path
levels_from arcs flow d f [] a b h l = tt
levels_from arcs flow d f (s ∷ path) a b h l =
    let rest : d (finish arcs s) ≤ length path + d b = label_bound arcs flow d f path (finish arcs s) b h.2 in
    let one : d (start arcs s) ≤ suc (d (finish arcs s)) = f s h.1 in
    let e : d (start arcs s) ≡ d a = ap d h.0 in
    (omega arith, omega arith, h.1.0, levels_from arcs flow d f path (finish arcs s) b h.2 (omega arith))

-- an arc on which the labels differ by one, with residual capacity in the direction in which they fall
abbrev pub tight_at : (ℕ → ℕ) → Arc → ℕ → Bool
tight_at d arc amount =
    (within 1 (left_of arc.capacity amount) && eqb (d arc.from) (suc (d arc.to)))
    || (leb 1 amount && eqb (d arc.to) (suc (d arc.from)))

abbrev pub tight : (ℕ → ℕ) → List Arc → List ℕ → ℕ → Bool
tight d arcs flow i = tight_at d (arc_at arcs i) (amount_at flow i)

pub within_less : (x : ℕ) (o : Option ℕ) → 1 ≤ x → within x o ≡ true → within 1 o ≡ true
within_less x None l h = refl
within_less x (Some r) l h = le-leb 1 r (omega (arith, leb-true x r h))

pub tight_step : (d : ℕ → ℕ) (arcs : List Arc) (flow : List ℕ) (x : ℕ) (s : ResidualArc) → 1 ≤ x → within x (residual_capacity arcs flow s) ≡ true → d (start arcs s) ≡ suc (d (finish arcs s)) → tight d arcs flow (arc_of s) ≡ true
tight_step d arcs flow x (Forward i) l h e =
    or_left _ _ (and_from _ _ (within_less x (left_of (arc_at arcs i).capacity (amount_at flow i)) l h) (eq-eqb _ _ e))
tight_step d arcs flow x (Backward i) l h e =
    or_right _ _ (and_from _ _ (within_less x (Some (amount_at flow i)) l h) (eq-eqb _ _ e))

-- the labels at the ends of a tight arc differ by one
tight_labels : (d : ℕ → ℕ) (arc : Arc) (amount : ℕ) → tight_at d arc amount ≡ true → (d arc.from ≡ suc (d arc.to)) ⊎ (d arc.to ≡ suc (d arc.from))
tight_labels d arc amount h = go (or_cases _ _ h)
  where
    go : (((within 1 (left_of arc.capacity amount) && eqb (d arc.from) (suc (d arc.to))) ≡ true) ⊎ ((leb 1 amount && eqb (d arc.to) (suc (d arc.from))) ≡ true)) → (d arc.from ≡ suc (d arc.to)) ⊎ (d arc.to ≡ suc (d arc.from))
    go (inl t) = inl (eqb-true _ _ (and_parts _ _ t).1)
    go (inr t) = inr (eqb-true _ _ (and_parts _ _ t).1)

-- an arc one of whose ends has a label above k
abbrev pub Above : (ℕ → ℕ) → List Arc → ℕ → ℕ → Type 0
Above d arcs k i = (k < d (arc_at arcs i).from) ⊎ (k < d (arc_at arcs i).to)

above_less : (d : ℕ → ℕ) (arcs : List Arc) (k k' i : ℕ) → k' ≤ k → Above d arcs k i → Above d arcs k' i
above_less d arcs k k' i l (inl h) = inl (omega arith)
above_less d arcs k k' i l (inr h) = inr (omega arith)

pub above_step : (d : ℕ → ℕ) (arcs : List Arc) (s : ResidualArc) → d (start arcs s) ≡ suc (d (finish arcs s)) → Above d arcs (d (finish arcs s)) (arc_of s)
above_step d arcs (Forward i) e = inl (omega arith)
above_step d arcs (Backward i) e = inr (omega arith)

-- such an arc is no step of a path from k down
above_other : (d : ℕ → ℕ) (arcs : List Arc) (s : ResidualArc) (k i : ℕ) → d (start arcs s) ≤ k → d (start arcs s) ≡ suc (d (finish arcs s)) → Above d arcs k i → i ≢ arc_of s
above_other d arcs (Forward j) k i l e (inl h) same = let q : d (arc_at arcs i).from ≡ d (arc_at arcs j).from = ap (λ n. d (arc_at arcs n).from) same in omega arith
above_other d arcs (Forward j) k i l e (inr h) same = let q : d (arc_at arcs i).to ≡ d (arc_at arcs j).to = ap (λ n. d (arc_at arcs n).to) same in omega arith
above_other d arcs (Backward j) k i l e (inl h) same = let q : d (arc_at arcs i).from ≡ d (arc_at arcs j).from = ap (λ n. d (arc_at arcs n).from) same in omega arith
above_other d arcs (Backward j) k i l e (inr h) same = let q : d (arc_at arcs i).to ≡ d (arc_at arcs j).to = ap (λ n. d (arc_at arcs n).to) same in omega arith

pub shift_other : (flow : List ℕ) (x : ℕ) (s : ResidualArc) (i : ℕ) → i ≢ arc_of s → amount_at (shift flow x s) i ≡ amount_at flow i
shift_other flow x (Forward j) i ne = get_or-set_other flow j i _ 0 ne
shift_other flow x (Backward j) i ne = get_or-set_other flow j i _ 0 ne

pub length-shift : (flow : List ℕ) (x : ℕ) (s : ResidualArc) → length (shift flow x s) ≡ length flow
length-shift flow x (Forward j) = length-set flow j _
length-shift flow x (Backward j) = length-set flow j _

capacity_at : (arcs : List Arc) (s : ResidualArc) (flow flow' : List ℕ) → amount_at flow' (arc_of s) ≡ amount_at flow (arc_of s) → residual_capacity arcs flow' s ≡ residual_capacity arcs flow s
capacity_at arcs (Forward i) flow flow' e = ap (left_of (arc_at arcs i).capacity) e
capacity_at arcs (Backward i) flow flow' e = ap (λ n. Some n) e

pub untouched : (d : ℕ → ℕ) (arcs : List Arc) (flow : List ℕ) (x : ℕ) (path : List ResidualArc) (k i : ℕ) → Levels d arcs k path → Above d arcs k i → amount_at (raise flow x path) i ≡ amount_at flow i
untouched d arcs flow x [] k i h a = refl
untouched d arcs flow x (s ∷ path) k i h a =
    untouched d arcs (shift flow x s) x path (d (finish arcs s)) i h.3 (above_less d arcs k (d (finish arcs s)) i (omega arith) a)
    ∙ shift_other flow x s i (above_other d arcs s k i h.0 h.1 a)

-- the steps below k have the residual capacity that they had
pub capacity_kept : (d : ℕ → ℕ) (arcs : List Arc) (flow : List ℕ) (x : ℕ) (t : ResidualArc) (k : ℕ) (s : ResidualArc) → d (start arcs s) ≤ k → d (start arcs s) ≡ suc (d (finish arcs s)) → Above d arcs k (arc_of t) → residual_capacity arcs (shift flow x t) s ≡ residual_capacity arcs flow s
capacity_kept d arcs flow x t k s l e a =
    capacity_at arcs s flow (shift flow x t) (shift_other flow x t (arc_of s) (λ same. above_other d arcs s k (arc_of t) l e a (sym same)))

pub capacities_kept : (d : ℕ → ℕ) (arcs : List Arc) (flow : List ℕ) (x y : ℕ) (t : ResidualArc) (k : ℕ) (path : List ResidualArc) → Levels d arcs k path → Above d arcs k (arc_of t) → ResidualCapacities arcs flow x path → ResidualCapacities arcs (shift flow y t) x path
capacities_kept d arcs flow x y t k [] h a r = tt
capacities_kept d arcs flow x y t k (s ∷ path) h a r = (
  subst (λ o. within x o ≡ true) (sym (capacity_kept d arcs flow y t k s h.0 h.1 a)) r.0,
  capacities_kept d arcs flow x y t (d (finish arcs s)) path h.3 (above_less d arcs k (d (finish arcs s)) (arc_of t) (omega arith) a) r.1,
)

bottle_kept : (d : ℕ → ℕ) (arcs : List Arc) (flow : List ℕ) (x y : ℕ) (t : ResidualArc) (k : ℕ) (path : List ResidualArc) → Levels d arcs k path → Above d arcs k (arc_of t) → Bottle arcs flow x path → Bottle arcs (shift flow y t) x path
bottle_kept d arcs flow x y t k [] h a r = r
bottle_kept d arcs flow x y t k (s ∷ path) h a (inl e) = inl (capacity_kept d arcs flow y t k s h.0 h.1 a ∙ e)
bottle_kept d arcs flow x y t k (s ∷ path) h a (inr r) =
    inr (bottle_kept d arcs flow x y t (d (finish arcs s)) path h.3 (above_less d arcs k (d (finish arcs s)) (arc_of t) (omega arith) a) r)

-- each arc's amount is as it was, or the arc was tight
pub outcome : (d : ℕ → ℕ) (arcs : List Arc) (flow : List ℕ) (x : ℕ) (path : List ResidualArc) (k i : ℕ) → 1 ≤ x → Levels d arcs k path → ResidualCapacities arcs flow x path → (amount_at (raise flow x path) i ≡ amount_at flow i) ⊎ (tight d arcs flow i ≡ true)
outcome d arcs flow x [] k i l h r = inl refl
outcome d arcs flow x (s ∷ path) k i l h r =
    let after : List ℕ = shift flow x s in
    let up : Above d arcs (d (finish arcs s)) (arc_of s) = above_step d arcs s h.1 in
    let here : tight d arcs flow (arc_of s) ≡ true = tight_step d arcs flow x s l r.0 h.1 in
    let ih : (amount_at (raise after x path) i ≡ amount_at after i) ⊎ (tight d arcs after i ≡ true) = outcome d arcs after x path (d (finish arcs s)) i l h.3 (capacities_kept d arcs flow x x s (d (finish arcs s)) path h.3 up r.1) in
    elim (cases_eq i (arc_of s)) [
      | inl same ↦ inr (ap (tight d arcs flow) same ∙ here)
      | inr ne ↦
          let kept : amount_at after i ≡ amount_at flow i = shift_other flow x s i ne in
          elim ih [
            | inl e ↦ inl (e ∙ kept)
            | inr t ↦ inr (ap (tight_at d (arc_at arcs i)) (sym kept) ∙ t)
          ]
    ]

left_full : (o : Option ℕ) (a x : ℕ) → left_of o a ≡ Some x → within 1 (left_of o (a + x)) ≡ false
left_full None a x h = cc
left_full (Some c) a x h = let e : c - a ≡ x = cc in lt-leb 1 (c - (a + x)) (omega arith)

-- the step that is filled up is tight no more
filled : (d : ℕ → ℕ) (arcs : List Arc) (flow : List ℕ) (x : ℕ) (s : ResidualArc) → arc_of s < length flow → d (start arcs s) ≡ suc (d (finish arcs s)) → residual_capacity arcs flow s ≡ Some x → tight d arcs (shift flow x s) (arc_of s) ≡ false
filled d arcs flow x (Forward i) l e r =
    let set_to : amount_at (shift flow x (Forward i)) i ≡ amount_at flow i + x = get_or-set_same flow i (amount_at flow i + x) 0 l in
    ap (tight_at d (arc_at arcs i)) set_to
    ∙ or_from _ _ (and_left _ _ (left_full (arc_at arcs i).capacity (amount_at flow i) x r))
    (and_right _ _ (ne_eqb (d (arc_at arcs i).to) (suc (d (arc_at arcs i).from)) (λ (q : d (arc_at arcs i).to ≡ suc (d (arc_at arcs i).from)). omega arith)))
filled d arcs flow x (Backward i) l e r =
    let full : amount_at flow i ≡ x = cc in
    let set_to : amount_at (shift flow x (Backward i)) i ≡ amount_at flow i - x = get_or-set_same flow i (amount_at flow i - x) 0 l in
    ap (tight_at d (arc_at arcs i)) set_to
    ∙ or_from _ _
    (and_right _ _ (ne_eqb (d (arc_at arcs i).from) (suc (d (arc_at arcs i).to)) (λ (q : d (arc_at arcs i).from ≡ suc (d (arc_at arcs i).to)). omega arith)))
    (and_left _ _ (lt-leb 1 (amount_at flow i - x) (omega arith)))

pub bottleneck_full : (d : ℕ → ℕ) (arcs : List Arc) (flow : List ℕ) (x : ℕ) (path : List ResidualArc) (k : ℕ) → 1 ≤ x → length flow ≡ length arcs → Levels d arcs k path → ResidualCapacities arcs flow x path → Bottle arcs flow x path → (i : ℕ) × (i < length arcs) × (tight d arcs flow i ≡ true) × (tight d arcs (raise flow x path) i ≡ false)
bottleneck_full d arcs flow x [] k l len h r b = absurd b
bottleneck_full d arcs flow x (s ∷ path) k l len h r (inl e) =
    let up : Above d arcs (d (finish arcs s)) (arc_of s) = above_step d arcs s h.1 in (
      arc_of s,
      h.2,
      tight_step d arcs flow x s l r.0 h.1,
      ap (tight_at d (arc_at arcs (arc_of s))) (untouched d arcs (shift flow x s) x path (d (finish arcs s)) (arc_of s) h.3 up)
          ∙ filled d arcs flow x s (omega arith) h.1 e,
    )
bottleneck_full d arcs flow x (s ∷ path) k l len h r (inr b) =
    let after : List ℕ = shift flow x s in
    let up : Above d arcs (d (finish arcs s)) (arc_of s) = above_step d arcs s h.1 in
    let here : tight d arcs flow (arc_of s) ≡ true = tight_step d arcs flow x s l r.0 h.1 in
    let ih : (i : ℕ) × (i < length arcs) × (tight d arcs after i ≡ true) × (tight d arcs (raise after x path) i ≡ false) =
    bottleneck_full d arcs after x path (d (finish arcs s)) l (length-shift flow x s ∙ len) h.3 (capacities_kept d arcs flow x x s (d (finish arcs s)) path h.3 up r.1) (bottle_kept d arcs flow x x s (d (finish arcs s)) path h.3 up b) in
    let was : tight d arcs flow ih.0 ≡ true =
    elim (cases_eq ih.0 (arc_of s)) [
      | inl same ↦ ap (tight d arcs flow) same ∙ here
      | inr ne ↦ ap (tight_at d (arc_at arcs ih.0)) (sym (shift_other flow x s ih.0 ne)) ∙ ih.2
    ] in
    (ih.0, ih.1, was, ih.3)

-- the labels still fall by at most one along each residual arc
pub falls_after : (d : ℕ → ℕ) (arcs : List Arc) (flow : List ℕ) (x : ℕ) (path : List ResidualArc) (k : ℕ) → 1 ≤ x → Levels d arcs k path → ResidualCapacities arcs flow x path → Falls arcs flow d → Falls arcs (raise flow x path) d
falls_after d arcs flow x path k l h r f s res =
    elim (outcome d arcs flow x path k (arc_of s) l h r) [
      | inl e ↦ f s (res.0, subst (λ o. within 1 o ≡ true) (capacity_at arcs s flow (raise flow x path) e) res.1)
      | inr t ↦ differ s (tight_labels d (arc_at arcs (arc_of s)) (amount_at flow (arc_of s)) t)
    ]
  where
    differ : (s : ResidualArc) → ((d (arc_at arcs (arc_of s)).from ≡ suc (d (arc_at arcs (arc_of s)).to)) ⊎ (d (arc_at arcs (arc_of s)).to ≡ suc (d (arc_at arcs (arc_of s)).from))) → d (start arcs s) ≤ suc (d (finish arcs s))
    differ (Forward i) (inl e) = omega arith
    differ (Forward i) (inr e) = omega arith
    differ (Backward i) (inl e) = omega arith
    differ (Backward i) (inr e) = omega arith
