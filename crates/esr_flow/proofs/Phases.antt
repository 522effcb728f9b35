-- The number of augmentations: in a phase the sink's distance stays, and each augmentation leaves fewer tight arcs;
-- each further phase has a greater distance.
use Rattle.std.proofs.Common.{◌≡◌, ℕ, zero, suc, ◌+◌, ◌*◌, ◌<◌, ◌≤◌, true, false, ◌⊎◌, leb, min, List, [], ◌∷◌, length, Option, Some, None, refl, sym, ap, ◌∙◌, subst, inl, inr, arith, le-leb, leb-true, mul-le-mul_right, ne_eqb}
use Rattle.std.proofs.lemmas.Bool.{or_from, and_right}
use Rattle.esr_flow.specs.Types.{Arc, ResidualArc}
use Rattle.esr_flow.specs.Residual.{Falls, finish, residual_capacity, IsPath, smaller, bottleneck, shift, raise}
use Rattle.esr_cert.specs.Flow.{within}
use Rattle.esr_cert.specs.Network.{arc_at, Network, IsNetwork}
use Rattle.esr_flow.specs.Augmentation.{Augments, AugmentsFrom}
use Rattle.esr_flow.proofs.Count.{count_below, count_le, count_none_lem, count_fewer}
use Rattle.esr_flow.proofs.Labels.{Levels, ResidualCapacities, Bottle, levels_from, tight, tight_at, outcome, bottleneck_full, falls_after, length-shift}
use Rattle.esr_flow.proofs.Distance.{distance, distance_sink, distance_falls, distance_limit, steps_le_nodes}

-- the smaller of two rooms is within both, and is one of them
smaller_parts : (a b : Option ℕ) (x : ℕ) → smaller a b ≡ Some x → (within x a ≡ true) × (within x b ≡ true) × ((a ≡ Some x) ⊎ (b ≡ Some x))
smaller_parts None b x h = (refl, subst (λ o. within x o ≡ true) (sym h) (le-leb x x (omega arith)), inr h)
smaller_parts (Some a) None x h = (subst (λ o. within x o ≡ true) (sym h) (le-leb x x (omega arith)), refl, inl h)
smaller_parts (Some a) (Some b) x h =
    let e : min a b ≡ x = cc in
    let split : (a ≡ x) ⊎ (b ≡ x) = grind arith in
    (le-leb x a (omega arith), le-leb x b (omega arith), elim split [ inl q ↦ inl (ap (λ n. Some n) q) | inr q ↦ inr (ap (λ n. Some n) q) ])

-- the relation of a path's bottleneck to each step and to one of them
within_capacity : (x : ℕ) (b : Option ℕ) → within x b ≡ true → (r : ℕ) → b ≡ Some r → x ≤ r
within_capacity x None h r e = cc
within_capacity x (Some s) h r e = let q : s ≡ r = cc in omega (arith, leb-true x s h)

-- within the bottleneck, within each
pub capacities_within : (arcs : List Arc) (flow : List ℕ) (x : ℕ) (path : List ResidualArc) → within x (bottleneck arcs flow path) ≡ true → ResidualCapacities arcs flow x path
capacities_within arcs flow x [] h = tt
capacities_within arcs flow x (s ∷ path) h =
    let p : (within x (residual_capacity arcs flow s) ≡ true) × (within x (bottleneck arcs flow path) ≡ true) = smaller_within (residual_capacity arcs flow s) (bottleneck arcs flow path) x h in
    (p.0, capacities_within arcs flow x path p.1)
  where
    smaller_within : (a b : Option ℕ) (x : ℕ) → within x (smaller a b) ≡ true → (within x a ≡ true) × (within x b ≡ true)
    smaller_within None b x h = (refl, h)
    smaller_within (Some a) None x h = (h, refl)
    smaller_within (Some a) (Some b) x h = let l : x ≤ min a b = leb-true x (min a b) h in (le-leb x a (omega arith), le-leb x b (omega arith))

pub capacities_from : (arcs : List Arc) (flow : List ℕ) (x : ℕ) (path : List ResidualArc) → bottleneck arcs flow path ≡ Some x → ResidualCapacities arcs flow x path
capacities_from arcs flow x path h = capacities_within arcs flow x path (subst (λ o. within x o ≡ true) (sym h) (le-leb x x (omega arith)))

pub bottle_from : (arcs : List Arc) (flow : List ℕ) (x : ℕ) (path : List ResidualArc) → bottleneck arcs flow path ≡ Some x → Bottle arcs flow x path
bottle_from arcs flow x [] h = cc
bottle_from arcs flow x (s ∷ path) h =
    elim (smaller_parts (residual_capacity arcs flow s) (bottleneck arcs flow path) x h).2 [
      | inl e ↦ inl e
      | inr e ↦ inr (bottle_from arcs flow x path e)
    ]

pub amount_pos : (arcs : List Arc) (flow : List ℕ) (x : ℕ) (path : List ResidualArc) (a b : ℕ) → IsPath arcs flow a path b → Bottle arcs flow x path → 1 ≤ x
amount_pos arcs flow x [] a b h r = absurd r
amount_pos arcs flow x (s ∷ path) a b h (inl e) = within_capacity 1 (residual_capacity arcs flow s) h.1.1 x e
amount_pos arcs flow x (s ∷ path) a b h (inr r) = amount_pos arcs flow x path (finish arcs s) b h.2 r

pub length-raise : (flow : List ℕ) (x : ℕ) (path : List ResidualArc) → length (raise flow x path) ≡ length flow
length-raise flow x [] = refl
length-raise flow x (s ∷ path) = length-raise (shift flow x s) x path ∙ length-shift flow x s

-- an augmentation along a path on which the labels fall at each step leaves fewer tight arcs
pub fewer_tight : (d : ℕ → ℕ) (arcs : List Arc) (flow : List ℕ) (x : ℕ) (path : List ResidualArc) (k : ℕ) → 1 ≤ x → length flow ≡ length arcs → Levels d arcs k path → ResidualCapacities arcs flow x path → Bottle arcs flow x path → suc (count_below (tight d arcs (raise flow x path)) (length arcs)) ≤ count_below (tight d arcs flow) (length arcs)
fewer_tight d arcs flow x path k l len h r b =
    let full : (i : ℕ) × (i < length arcs) × (tight d arcs flow i ≡ true) × (tight d arcs (raise flow x path) i ≡ false) = bottleneck_full d arcs flow x path k l len h r b in
    count_fewer (tight d arcs (raise flow x path)) (tight d arcs flow) (length arcs) full.0 still full.1 full.3 full.2
  where
    still : (i : ℕ) → i < length arcs → tight d arcs (raise flow x path) i ≡ true → tight d arcs flow i ≡ true
    still i m t = elim (outcome d arcs flow x path k i l h r) [ inl e ↦ ap (tight_at d (arc_at arcs i)) (sym e) ∙ t | inr q ↦ q ]

-- the invariant after n augmentations, for some labels
pub record Phase (net : Network) (n : ℕ) (flow : List ℕ) : Type 0 where
  pub label : ℕ → ℕ
  pub at_sink : label net.sink ≡ 0
  pub falls : Falls net.arcs flow label
  pub count_within_max : label net.source ≤ net.node_count
  pub spent : n + count_below (tight label net.arcs flow) (length net.arcs) ≤ label net.source * length net.arcs
  pub same_length : length flow ≡ length net.arcs

first_phase : (net : Network) (first : List ℕ) → length first ≡ length net.arcs → Phase net 0 first
first_phase net first e = record {
  label = λ v. 0;
  at_sink = refl;
  falls = λ s res. omega arith;
  count_within_max = omega arith;
  spent = omega (arith, count_none_lem (tight (λ v. 0) net.arcs first) (length net.arcs) (λ i. or_from _ _ (and_right _ _ (ne_eqb 0 1 (λ (e : 0 ≡ 1). omega arith))) (and_right _ _ (ne_eqb 0 1 (λ (e : 0 ≡ 1). omega arith)))));
  same_length = e;
}

-- the augmentation within a phase: the path is as long as the source's label
within_phase : (net : Network) → IsNetwork net → (n : ℕ) (flow after : List ℕ) (p : Phase net n flow) (a : Augments net flow after) → length a.path ≤ p.label net.source → Phase net (suc n) after
within_phase net ok n flow after p a l =
    let b : Bottle net.arcs flow a.amount a.path = bottle_from net.arcs flow a.amount a.path a.is_bottleneck in
    let r : ResidualCapacities net.arcs flow a.amount a.path = capacities_from net.arcs flow a.amount a.path a.is_bottleneck in
    let x : 1 ≤ a.amount = amount_pos net.arcs flow a.amount a.path net.source net.sink a.is_path b in
    let h : Levels p.label net.arcs (p.label net.source) a.path = levels_from net.arcs flow p.label p.falls a.path net.source net.sink a.is_path (omega (arith, p.at_sink)) in
    let fewer : suc (count_below (tight p.label net.arcs (raise flow a.amount a.path)) (length net.arcs)) ≤ count_below (tight p.label net.arcs flow) (length net.arcs) =
    fewer_tight p.label net.arcs flow a.amount a.path (p.label net.source) x p.same_length h r b in
    subst (Phase net (suc n)) (sym a.is_raised) (record {
      label = p.label;
      at_sink = p.at_sink;
      falls = falls_after p.label net.arcs flow a.amount a.path (p.label net.source) x h r p.falls;
      count_within_max = p.count_within_max;
      spent = omega (arith, p.spent);
      same_length = length-raise flow a.amount a.path ∙ p.same_length;
    })

-- if the path is longer, a phase begins
next_phase : (net : Network) → IsNetwork net → (n : ℕ) (flow after : List ℕ) (p : Phase net n flow) (a : Augments net flow after) → p.label net.source < length a.path → (q : Phase net n flow) × (length a.path ≤ q.label net.source)
next_phase net ok n flow after p a l =
    let d : ℕ → ℕ = distance net.arcs flow net.sink (length a.path) in
    let top : d net.source ≡ length a.path = distance_limit net.arcs flow net.sink (length a.path) net.source a.is_shortest in
    let falls : Falls net.arcs flow d = distance_falls net.arcs flow net.sink (length a.path) in
    let bottom : d net.sink ≡ 0 = distance_sink net.arcs flow net.sink (length a.path) in
    let h : Levels d net.arcs (d net.source) a.path = levels_from net.arcs flow d falls a.path net.source net.sink a.is_path (omega arith) in
    let count_within_max : length a.path ≤ net.node_count = omega (arith, steps_le_nodes net ok d (d net.source) a.path h, count_le (λ v. leb (d v) (d net.source)) net.node_count) in
    let all : count_below (tight d net.arcs flow) (length net.arcs) ≤ length net.arcs = count_le (tight d net.arcs flow) (length net.arcs) in
    let rows : suc (p.label net.source) * length net.arcs ≤ d net.source * length net.arcs = mul-le-mul_right (length net.arcs) (omega arith) in
    (record { label = d; at_sink = bottom; falls = falls; count_within_max = omega arith; spent = omega (arith, p.spent, rows, all); same_length = p.same_length }, omega arith)

phase_step : (net : Network) → IsNetwork net → (n : ℕ) (flow after : List ℕ) → Phase net n flow → Augments net flow after → Phase net (suc n) after
phase_step net ok n flow after p a =
    let split : (length a.path ≤ p.label net.source) ⊎ (p.label net.source < length a.path) = grind arith in
    elim split [
      | inl l ↦ within_phase net ok n flow after p a l
      | inr l ↦
          let q : (q : Phase net n flow) × (length a.path ≤ q.label net.source) = next_phase net ok n flow after p a l in
          within_phase net ok n flow after q.0 a q.1
    ]

pub phases : (net : Network) → IsNetwork net → (first : List ℕ) → length first ≡ length net.arcs → (n : ℕ) (flow : List ℕ) → AugmentsFrom net first n flow → Phase net n flow
phases net ok first e zero flow h = subst (Phase net 0) (sym h) (first_phase net first e)
phases net ok first e (suc n) flow h = phase_step net ok n h.0 flow (phases net ok first e n h.0 h.1) h.2

-- at most nodes times arcs
pub bounded_augmentations : (net : Network) → IsNetwork net → (first : List ℕ) → length first ≡ length net.arcs → (n : ℕ) (flow : List ℕ) → AugmentsFrom net first n flow → n ≤ net.node_count * length net.arcs
bounded_augmentations net ok first e n flow h =
    let p : Phase net n flow = phases net ok first e n flow h in
    let rows : p.label net.source * length net.arcs ≤ net.node_count * length net.arcs = mul-le-mul_right (length net.arcs) p.count_within_max in
    omega (arith, p.spent, rows)
