-- The amount that a flow carries out of a set of nodes that contains the source but not the sink.
use Rattle.std.proofs.Common.{◌≡◌, ℕ, zero, suc, ◌+◌, ◌<◌, ◌≤◌, Bool, true, false, cond, not, ◌&&◌, eqb, List, [], ◌∷◌, length, Option, Some, None, refl, sym, ap, ◌∙◌, inl, inr, arith, leb-true, eq-eqb, ne_eqb, true≢false}
use Rattle.std.proofs.lemmas.Bool.{cases_eq}
use Rattle.esr_cert.specs.Network.{Arc, arc_at, Network, IsNetwork}
use Rattle.esr_cert.specs.Flow.{within, amount_at, carried, inflow, outflow, IsFlow, worth}
use Rattle.esr_cert.specs.Cut.{leaves, enters, finite_capacity_or_zero, cut_capacity, IsFinite, HasFiniteCapacity}

abbrev pub pick : Bool → ℕ → ℕ
pick b x = cond b x 0

pub pick_add : (b : Bool) (x y : ℕ) → pick b (x + y) ≡ pick b x + pick b y
pick_add true x y = refl
pick_add false x y = omega arith

pub pick_zero : (b : Bool) → pick b 0 ≡ 0
pick_zero true = refl
pick_zero false = refl

pub carried_none : (p : Arc → Bool) (arcs : List Arc) (flow : List ℕ) → ((i : ℕ) → i < length arcs → p (arc_at arcs i) ≡ false) → carried p arcs flow ≡ 0
carried_none p [] flow h = refl
carried_none p (a ∷ arcs) [] h = refl
carried_none p (a ∷ arcs) (x ∷ flow) h =
    omega (arith, ap (λ b. pick b x) (h 0 (omega arith)), carried_none p arcs flow (λ i l. h (suc i) (omega arith)))

pub nothing_into_source : (net : Network) → IsNetwork net → (flow : List ℕ) → inflow net.arcs flow net.source ≡ 0
nothing_into_source net ok flow = carried_none (λ arc. eqb arc.to net.source) net.arcs flow (λ i l. ne_eqb _ _ (ok.none_into_source i l))

abbrev pub node_sum : (ℕ → Bool) → (ℕ → ℕ) → ℕ → ℕ
node_sum has g zero = 0
node_sum has g (suc n) = pick (has n) (g n) + node_sum has g n

pub node_sum_add : (has : ℕ → Bool) (g h : ℕ → ℕ) (n : ℕ) → node_sum has (λ v. g v + h v) n ≡ node_sum has g n + node_sum has h n
node_sum_add has g h zero = refl
node_sum_add has g h (suc n) = omega (arith, pick_add (has n) (g n) (h n), node_sum_add has g h n)

pub node_sum_zero : (has : ℕ → Bool) (g : ℕ → ℕ) (n : ℕ) → ((v : ℕ) → v < n → g v ≡ 0) → node_sum has g n ≡ 0
node_sum_zero has g zero h = refl
node_sum_zero has g (suc n) h =
    omega (arith, ap (pick (has n)) (h n (omega arith)), pick_zero (has n), node_sum_zero has g n (λ v l. h v (omega arith)))

node_sum_same : (has : ℕ → Bool) (g h : ℕ → ℕ) (n : ℕ) → ((v : ℕ) → v < n → has v ≡ true → g v ≡ h v) → node_sum has g n ≡ node_sum has h n
node_sum_same has g h zero e = refl
node_sum_same has g h (suc n) e =
    omega (arith, same (has n) (e n (omega arith)), node_sum_same has g h n (λ v l. e v (omega arith)))
  where
    same : (b : Bool) → (b ≡ true → g n ≡ h n) → pick b (g n) ≡ pick b (h n)
    same true k = k refl
    same false k = refl

pub node_sum_point : (has : ℕ → Bool) (u x n : ℕ) → u < n → node_sum has (λ v. pick (eqb u v) x) n ≡ pick (has u) x
node_sum_point has u x zero l = absurd (omega arith)
node_sum_point has u x (suc n) l =
    let later : u < n → node_sum has (λ v. pick (eqb u v) x) n ≡ pick (has u) x = λ k. node_sum_point has u x n k in
    elim (cases_eq u n) [
      | inl e ↦
          let rest : node_sum has (λ v. pick (eqb u v) x) n ≡ 0 = node_sum_zero has (λ v. pick (eqb u v) x) n (λ v k. ap (λ b. pick b x) (ne_eqb u v (λ (q : u ≡ v). omega arith))) in
          omega (arith, ap (λ b. pick (has n) (pick b x)) (eq-eqb u n e), ap (λ m. pick (has m) x) e)
      | inr ne ↦
          omega (arith, ap (λ b. pick (has n) (pick b x)) (ne_eqb u n ne), pick_zero (has n), later (omega arith))
    ]

node_sum_carried : (has : ℕ → Bool) (end : Arc → ℕ) (n : ℕ) (arcs : List Arc) (flow : List ℕ) → ((i : ℕ) → i < length arcs → end (arc_at arcs i) < n) → node_sum has (λ v. carried (λ arc. eqb (end arc) v) arcs flow) n ≡ carried (λ arc. has (end arc)) arcs flow
node_sum_carried has end n [] flow l = node_sum_zero has (λ v. 0) n (λ v k. refl)
node_sum_carried has end n (a ∷ arcs) [] l = node_sum_zero has (λ v. 0) n (λ v k. refl)
node_sum_carried has end n (a ∷ arcs) (x ∷ flow) l =
    omega (
      arith,
      node_sum_add has (λ v. pick (eqb (end a) v) x) (λ v. carried (λ arc. eqb (end arc) v) arcs flow) n,
      node_sum_point has (end a) x n (l 0 (omega arith)),
      node_sum_carried has end n arcs flow (λ i k. l (suc i) (omega arith)),
    )

carried_split : (has : ℕ → Bool) (arcs : List Arc) (flow : List ℕ) → carried (λ arc. has arc.from) arcs flow + carried (enters has) arcs flow ≡ carried (λ arc. has arc.to) arcs flow + carried (leaves has) arcs flow
carried_split has [] flow = refl
carried_split has (a ∷ arcs) [] = refl
carried_split has (a ∷ arcs) (x ∷ flow) = omega (arith, one (has a.from) (has a.to), carried_split has arcs flow)
  where
    one : (b c : Bool) → pick b x + pick (not b && c) x ≡ pick c x + pick (b && not c) x
    one true true = refl
    one true false = omega arith
    one false true = omega arith
    one false false = refl

-- the worth plus the amount that returns is the amount that crosses
pub cut : (net : Network) → IsNetwork net → (flow : List ℕ) → IsFlow net flow → (has : ℕ → Bool) → has net.source ≡ true → has net.sink ≡ false → worth net flow + carried (enters has) net.arcs flow ≡ carried (leaves has) net.arcs flow
cut net ok flow f has at_source at_sink =
    let out_sum : node_sum has (λ v. outflow net.arcs flow v) net.node_count ≡ carried (λ arc. has arc.from) net.arcs flow = node_sum_carried has (λ arc. arc.from) net.node_count net.arcs flow (λ i l. (ok.ends i l).0) in
    let in_sum : node_sum has (λ v. inflow net.arcs flow v) net.node_count ≡ carried (λ arc. has arc.to) net.arcs flow = node_sum_carried has (λ arc. arc.to) net.node_count net.arcs flow (λ i l. (ok.ends i l).1) in
    let same : node_sum has (λ v. outflow net.arcs flow v) net.node_count ≡ node_sum has (λ v. inflow net.arcs flow v + pick (eqb net.source v) (worth net flow)) net.node_count =
    node_sum_same has (λ v. outflow net.arcs flow v) (λ v. inflow net.arcs flow v + pick (eqb net.source v) (worth net flow)) net.node_count each in
    let added : node_sum has (λ v. inflow net.arcs flow v + pick (eqb net.source v) (worth net flow)) net.node_count ≡ node_sum has (λ v. inflow net.arcs flow v) net.node_count + node_sum has (λ v. pick (eqb net.source v) (worth net flow)) net.node_count =
    node_sum_add has (λ v. inflow net.arcs flow v) (λ v. pick (eqb net.source v) (worth net flow)) net.node_count in
    let point : node_sum has (λ v. pick (eqb net.source v) (worth net flow)) net.node_count ≡ worth net flow = node_sum_point has net.source (worth net flow) net.node_count ok.source_is_node ∙ ap (λ b. pick b (worth net flow)) at_source in
    omega (arith, carried_split has net.arcs flow)
  where
    each : (v : ℕ) → v < net.node_count → has v ≡ true → outflow net.arcs flow v ≡ inflow net.arcs flow v + pick (eqb net.source v) (worth net flow)
    each v l h =
        elim (cases_eq v net.source) [
          | inl e ↦
              omega (arith, ap (λ n. outflow net.arcs flow n) e, ap (λ n. inflow net.arcs flow n) e, nothing_into_source net ok flow, ap (λ b. pick b (worth net flow)) (eq-eqb net.source v (sym e)))
          | inr ne ↦
              omega (arith, f.conserved v l ne (λ e. true≢false (sym h ∙ ap has e ∙ at_sink)), ap (λ b. pick b (worth net flow)) (ne_eqb net.source v (λ e. ne (sym e))))
        ]

at_most_limit : (o : Option ℕ) (x : ℕ) → IsFinite o → within x o ≡ true → x ≤ finite_capacity_or_zero o
at_most_limit None x l w = absurd l
at_most_limit (Some c) x l w = leb-true x c w

pick_le : (b : Bool) (x y : ℕ) → (b ≡ true → x ≤ y) → pick b x ≤ pick b y
pick_le true x y h = h refl
pick_le false x y h = omega arith

pub carried_at_most : (has : ℕ → Bool) (arcs : List Arc) (flow : List ℕ) → ((i : ℕ) → i < length arcs → within (amount_at flow i) (arc_at arcs i).capacity ≡ true) → HasFiniteCapacity has arcs → carried (leaves has) arcs flow ≤ cut_capacity has arcs
carried_at_most has [] flow w l = omega arith
carried_at_most has (a ∷ arcs) [] w l = omega arith
carried_at_most has (a ∷ arcs) (x ∷ flow) w l =
    omega (
      arith,
      pick_le (leaves has a) x (finite_capacity_or_zero a.capacity) (λ c. at_most_limit a.capacity x (l 0 (omega arith) c) (w 0 (omega arith))),
      carried_at_most has arcs flow (λ i k. w (suc i) (omega arith)) (λ i k. l (suc i) (omega arith)),
    )

-- if every crossing arc is full, the amount that crosses is the capacity
pub carried_full : (has : ℕ → Bool) (arcs : List Arc) (flow : List ℕ) → length flow ≡ length arcs → ((i : ℕ) → i < length arcs → leaves has (arc_at arcs i) ≡ true → amount_at flow i ≡ finite_capacity_or_zero (arc_at arcs i).capacity) → carried (leaves has) arcs flow ≡ cut_capacity has arcs
carried_full has [] flow e h = refl
carried_full has (a ∷ arcs) [] e h = absurd (omega arith)
carried_full has (a ∷ arcs) (x ∷ flow) e h =
    omega (arith, same (leaves has a) x (finite_capacity_or_zero a.capacity) (h 0 (omega arith)), carried_full has arcs flow (omega arith) (λ i k. h (suc i) (omega arith)))
  where
    same : (b : Bool) (x y : ℕ) → (b ≡ true → x ≡ y) → pick b x ≡ pick b y
    same true x y k = k refl
    same false x y k = refl

-- and the other way round
pub full_from : (has : ℕ → Bool) (arcs : List Arc) (flow : List ℕ) → length flow ≡ length arcs → ((i : ℕ) → i < length arcs → within (amount_at flow i) (arc_at arcs i).capacity ≡ true) → HasFiniteCapacity has arcs → cut_capacity has arcs ≤ carried (leaves has) arcs flow → (i : ℕ) → i < length arcs → leaves has (arc_at arcs i) ≡ true → amount_at flow i ≡ finite_capacity_or_zero (arc_at arcs i).capacity
full_from has [] flow e w l g i k c = absurd (omega arith)
full_from has (a ∷ arcs) [] e w l g i k c = absurd (omega arith)
full_from has (a ∷ arcs) (x ∷ flow) e w l g zero k c =
    let upper_bound : x ≤ finite_capacity_or_zero a.capacity = at_most_limit a.capacity x (l 0 (omega arith) c) (w 0 (omega arith)) in
    omega (
      arith,
      ap (λ b. pick b x) c,
      ap (λ b. pick b (finite_capacity_or_zero a.capacity)) c,
      carried_at_most has arcs flow (λ i k. w (suc i) (omega arith)) (λ i k. l (suc i) (omega arith)),
    )
full_from has (a ∷ arcs) (x ∷ flow) e w l g (suc i) k c =
    full_from has arcs flow (omega arith) (λ i k. w (suc i) (omega arith)) (λ i k. l (suc i) (omega arith))
    (omega (arith, pick_le (leaves has a) x (finite_capacity_or_zero a.capacity) (λ c. at_most_limit a.capacity x (l 0 (omega arith) c) (w 0 (omega arith)))))
    i (omega arith) c

-- nothing returns if no returning arc carries anything
pub nothing_back : (has : ℕ → Bool) (arcs : List Arc) (flow : List ℕ) → ((i : ℕ) → i < length arcs → enters has (arc_at arcs i) ≡ true → amount_at flow i ≡ 0) → carried (enters has) arcs flow ≡ 0
nothing_back has [] flow h = refl
nothing_back has (a ∷ arcs) [] h = refl
nothing_back has (a ∷ arcs) (x ∷ flow) h =
    omega (arith, none (enters has a) x (h 0 (omega arith)), nothing_back has arcs flow (λ i k. h (suc i) (omega arith)))
  where
    none : (b : Bool) (x : ℕ) → (b ≡ true → x ≡ 0) → pick b x ≡ 0
    none true x k = k refl
    none false x k = refl

pub nothing_from : (has : ℕ → Bool) (arcs : List Arc) (flow : List ℕ) → length flow ≡ length arcs → carried (enters has) arcs flow ≡ 0 → (i : ℕ) → i < length arcs → enters has (arc_at arcs i) ≡ true → amount_at flow i ≡ 0
nothing_from has [] flow e z i k c = absurd (omega arith)
nothing_from has (a ∷ arcs) [] e z i k c = absurd (omega arith)
nothing_from has (a ∷ arcs) (x ∷ flow) e z zero k c = omega (arith, ap (λ b. pick b x) c)
nothing_from has (a ∷ arcs) (x ∷ flow) e z (suc i) k c = nothing_from has arcs flow (omega arith) (omega arith) i (omega arith) c

module _ (net : Network) (ok : IsNetwork net) (flow : List ℕ) (f : IsFlow net flow) (has : ℕ → Bool) where
  -- the worth is at most the capacity of a cut that no unlimited arc crosses
  pub weak : has net.source ≡ true → has net.sink ≡ false → HasFiniteCapacity has net.arcs → worth net flow ≤ cut_capacity has net.arcs
  weak at_source at_sink limited =
      omega (arith, cut net ok flow f has at_source at_sink, carried_at_most has net.arcs flow f.within_capacity limited)
