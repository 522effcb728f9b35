-- How a breadth-first search continues, and what it has found at its end.
use Rattle.std.proofs.Common.{◌≡◌, ◌≢◌, ℕ, zero, suc, ◌+◌, ◌<◌, ◌≤◌, Bool, true, false, cond, ◌⊎◌, eqb, List, [], ◌∷◌, ◌++◌, length, set, refl, sym, ap, ◌∙◌, subst, inl, inr, arith, true≢false, length-set, get_or-set_other, get_or-set_same, eq-eqb, eqb-true}
use Rattle.std.proofs.lemmas.Bool.{cases_eq, cases_Bool, cases_lt, cond-true, cond-false}
use Rattle.std.proofs.lemmas.List.{get_or_append_left, get_or_push, length_push}
use Rattle.esr_flow.specs.Types.{Arc, ResidualArc, Forward, Backward}
use Rattle.esr_cert.specs.ResidualArcs.{arc_of, start}
use Rattle.esr_flow.specs.Residual.{finish, IsResidual, IsPath}
use Rattle.esr_cert.specs.Network.{Network, IsNetwork}
use Rattle.esr_flow.specs.Augmentation.{IsReach}
use Rattle.esr_flow.specs.Search.{visit_at, is_marked, unmarked, EndsVisited, IsReached, Searched, Visit}

-- labels that rise by at most one along each residual step
rise_bound : (arcs : List Arc) (flow : List ℕ) (d : ℕ → ℕ) → ((s : ResidualArc) → IsResidual arcs flow s → d (finish arcs s) ≤ suc (d (start arcs s))) → (path : List ResidualArc) (a b : ℕ) → IsPath arcs flow a path b → d b ≤ length path + d a
rise_bound arcs flow d r [] a b h = omega (arith, ap d h)
rise_bound arcs flow d r (s ∷ path) a b h =
    omega (arith, rise_bound arcs flow d r path (finish arcs s) b h.2, r s h.1, ap d h.0)

-- the level of the first visit of a node, or top
abbrev label : List Visit → ℕ → ℕ → ℕ
label [] top v = top
label (x ∷ visits) top v = cond (eqb x.node v) x.level (label visits top v)

-- it is the level of some visit of the node, or top if the node has none
label_cases : (visits : List Visit) (top v : ℕ) → ((i : ℕ) × (i < length visits) × ((visit_at visits i).node ≡ v) × (label visits top v ≡ (visit_at visits i).level)) ⊎ ((label visits top v ≡ top) × ((i : ℕ) → i < length visits → (visit_at visits i).node ≢ v))
label_cases [] top v = inr (refl, λ i l. absurd (omega arith))
label_cases (x ∷ visits) top v =
    let rest : ((i : ℕ) × (i < length visits) × ((visit_at visits i).node ≡ v) × (label visits top v ≡ (visit_at visits i).level)) ⊎ ((label visits top v ≡ top) × ((i : ℕ) → i < length visits → (visit_at visits i).node ≢ v)) = label_cases visits top v in
    elim (cases_Bool (eqb x.node v)) [
      | inl t ↦ inl (0, omega arith, eqb-true x.node v t, cond-true (eqb x.node v) x.level (label visits top v) t)
      | inr f ↦
          let skip : label (x ∷ visits) top v ≡ label visits top v = cond-false (eqb x.node v) x.level (label visits top v) f in
          elim rest [
            | inl (i, l, e, q) ↦ inl (suc i, omega arith, e, skip ∙ q)
            | inr (q, none) ↦ inr (skip ∙ q, not_there f none)
          ]
    ]
  where
    not_there : eqb x.node v ≡ false → ((i : ℕ) → i < length visits → (visit_at visits i).node ≢ v) → (i : ℕ) → i < length (x ∷ visits) → (visit_at (x ∷ visits) i).node ≢ v
    not_there f none zero l e = true≢false (sym (eq-eqb x.node v e) ∙ f)
    not_there f none (suc i) l e = none i (omega arith) e

-- if levels rise along the list, it is at most the level of each visit of the node
label_least : (visits : List Visit) (top : ℕ) → ((i j : ℕ) → i ≤ j → j < length visits → (visit_at visits i).level ≤ (visit_at visits j).level) → (j : ℕ) → j < length visits → label visits top (visit_at visits j).node ≤ (visit_at visits j).level
label_least [] top s j l = absurd (omega arith)
label_least (x ∷ visits) top s zero l =
    let t : eqb x.node x.node ≡ true = eq-eqb x.node x.node refl in
    omega (arith, cond-true (eqb x.node x.node) x.level (label visits top x.node) t)
label_least (x ∷ visits) top s (suc j) l =
    let rest : label visits top (visit_at visits j).node ≤ (visit_at visits j).level = label_least visits top (λ i k a b. s (suc i) (suc k) (omega arith) (omega arith)) j (omega arith) in
    let front : x.level ≤ (visit_at visits j).level = s 0 (suc j) (omega arith) l in
    elim (eqb x.node (visit_at visits j).node) as (λ b. cond b x.level (label visits top (visit_at visits j).node) ≤ (visit_at visits j).level) [ true ↦ front | false ↦ rest ]

pub path_append : (arcs : List Arc) (flow : List ℕ) (path : List ResidualArc) (a b : ℕ) (s : ResidualArc) → IsPath arcs flow a path b → start arcs s ≡ b → IsResidual arcs flow s → IsPath arcs flow a (path ++ s ∷ []) (finish arcs s)
path_append arcs flow [] a b s h e r = (e ∙ sym h, r, refl)
path_append arcs flow (t ∷ path) a b s h e r = (h.0, h.1, path_append arcs flow path (finish arcs t) b s h.2 e r)

pub unmarked_mark : (marks : List Bool) (w : ℕ) → w < length marks → is_marked marks w ≡ false → unmarked (set marks w true) + 1 ≡ unmarked marks
unmarked_mark [] w l f = absurd (omega arith)
unmarked_mark (b ∷ marks) zero l f = omega (arith, ap {B = ℕ} (λ x. cond x 0 1) f)
unmarked_mark (b ∷ marks) (suc w) l f = omega (arith, unmarked_mark marks w (omega arith) f)

module _ (net : Network) (flow : List ℕ) where
  -- no path to an unmarked node has fewer steps than the next level
  pub unmarked_far : (visits : List Visit) (marks : List Bool) (head v : ℕ) → Searched net flow visits marks head → head < length visits → is_marked marks v ≡ false → (path : List ResidualArc) → IsPath net.arcs flow net.source path v → suc (visit_at visits head).level ≤ length path
  unmarked_far visits marks head v h l f path p =
      let top : ℕ = suc (visit_at visits head).level in
      let at_source : label visits top net.source ≤ 0 =
      subst (λ n. label visits top n ≤ 0) h.first_node (omega (arith, label_least visits top h.sorted 0 h.some, h.first_level)) in
      let at_v : label visits top v ≡ top =
      elim (label_cases visits top v) [
        | inl (i, k, e, q) ↦ absurd (true≢false (sym (h.marked i k) ∙ ap (is_marked marks) e ∙ f))
        | inr (q, none) ↦ q
      ] in
      omega (arith, rise_bound net.arcs flow (label visits top) rises path net.source v p)
    where
      at_most_top : (w : ℕ) → label visits (suc (visit_at visits head).level) w ≤ suc (visit_at visits head).level
      at_most_top w =
          elim (label_cases visits (suc (visit_at visits head).level) w) [
            | inl (i, k, e, q) ↦ omega (arith, h.relevant i k l)
            | inr (q, none) ↦ omega arith
          ]

      rises : (s : ResidualArc) → IsResidual net.arcs flow s → label visits (suc (visit_at visits head).level) (finish net.arcs s) ≤ suc (label visits (suc (visit_at visits head).level) (start net.arcs s))
      rises s res =
          let upper_bound : label visits (suc (visit_at visits head).level) (finish net.arcs s) ≤ suc (visit_at visits head).level = at_most_top (finish net.arcs s) in
          elim (label_cases visits (suc (visit_at visits head).level) (start net.arcs s)) [
            | inl (i, k, e, q) ↦
                elim (cases_lt i head) [
                  | inl before ↦
                      let leads : EndsVisited net.arcs visits (visit_at visits i).level s = h.done i before s res (sym e) in
                      let least : label visits (suc (visit_at visits head).level) (visit_at visits leads.0).node ≤ (visit_at visits leads.0).level = label_least visits (suc (visit_at visits head).level) h.sorted leads.0 leads.1 in
                      omega (arith, ap (label visits (suc (visit_at visits head).level)) leads.2, leads.3)
                  | inr after ↦ omega (arith, h.sorted head i after k)
                ]
            | inr (q, none) ↦ omega arith
          ]

  pub start_search : (marks : List Bool) (visits : List Visit) → net.source < net.node_count → length marks ≡ net.node_count → unmarked marks + 1 ≡ net.node_count → ((v : ℕ) → is_marked marks v ≡ true → v ≡ net.source) → is_marked marks net.source ≡ true → visits ≡ record { node = net.source; level = 0; step = Forward 0; parent = 0 } ∷ [] → Searched net flow visits marks 0
  start_search marks visits ok ml spare_capacity only here e =
      subst (λ vs. Searched net flow vs marks 0) (sym e) (record {
        marks_length = ml;
        some = omega arith;
        first_node = refl;
        first_level = refl;
        is_reached = λ j a b. absurd (omega arith);
        sorted = λ i j a b. let z : j ≡ 0 = omega arith in let y : i ≡ 0 = omega arith in same_level i j (y ∙ sym z);
        low = λ j a. let z : j ≡ 0 = omega arith in omega (arith, zero_level j z);
        node_count = λ j a. let z : j ≡ 0 = omega arith in subst (λ n. (visit_at one n).node < net.node_count) (sym z) ok;
        marked = λ j a. let z : j ≡ 0 = omega arith in subst (λ n. is_marked marks (visit_at one n).node ≡ true) (sym z) here;
        visited = λ v t. (0, omega arith, sym (only v t));
        done = λ i a. absurd (omega arith);
        relevant = λ j a b. let z : j ≡ 0 = omega arith in omega (arith, zero_level j z);
        spare_capacity = omega arith;
      })
    where
      one : List Visit
      one = record { node = net.source; level = 0; step = Forward 0; parent = 0 } ∷ []

      same_level : (i j : ℕ) → i ≡ j → (visit_at (record { node = net.source; level = 0; step = Forward 0; parent = 0 } ∷ []) i).level ≤ (visit_at (record { node = net.source; level = 0; step = Forward 0; parent = 0 } ∷ []) j).level
      same_level i j q = omega (arith, ap (λ n. (visit_at (record { node = net.source; level = 0; step = Forward 0; parent = 0 } ∷ []) n).level) q)

      zero_level : (j : ℕ) → j ≡ 0 → (visit_at (record { node = net.source; level = 0; step = Forward 0; parent = 0 } ∷ []) j).level ≡ 0
      zero_level j z = ap (λ n. (visit_at (record { node = net.source; level = 0; step = Forward 0; parent = 0 } ∷ []) n).level) z

  -- one more visit, of a node that was not marked
  pub visit_more : (visits : List Visit) (marks : List Bool) (head : ℕ) (s : ResidualArc) → IsNetwork net → Searched net flow visits marks head → head < length visits → IsResidual net.arcs flow s → start net.arcs s ≡ (visit_at visits head).node → is_marked marks (finish net.arcs s) ≡ false → Searched net flow (visits ++ record { node = finish net.arcs s; level = (visit_at visits head).level + 1; step = s; parent = head } ∷ []) (set marks (finish net.arcs s) true) head
  visit_more visits marks head s ok h l res e f =
      record {
        marks_length = length-set marks (finish net.arcs s) true ∙ h.marks_length;
        some = omega (arith, len);
        first_node = ap (λ x. x.node) (old 0 h.some) ∙ h.first_node;
        first_level = ap (λ x. x.level) (old 0 h.some) ∙ h.first_level;
        is_reached = reached_more;
        sorted = λ i j a b. elim (place j b) [
          | inl jl ↦ omega (arith, ap (λ x. x.level) (old i (omega arith)), ap (λ x. x.level) (old j jl), h.sorted i j a jl)
          | inr je ↦ elim (place i (omega arith)) [
            | inl il ↦ omega (arith, ap (λ x. x.level) (old i il), ap (λ x. x.level) (new j je), h.relevant i il l)
            | inr ie ↦ omega (arith, ap (λ x. x.level) (new i ie), ap (λ x. x.level) (new j je))
          ]
        ];
        low = λ j b. elim (place j b) [
          | inl jl ↦ omega (arith, ap (λ x. x.level) (old j jl), h.low j jl)
          | inr je ↦ omega (arith, ap (λ x. x.level) (new j je), h.low head l)
        ];
        node_count = λ j b. elim (place j b) [
          | inl jl ↦ omega (arith, ap (λ x. x.node) (old j jl), h.node_count j jl)
          | inr je ↦ omega (arith, ap (λ x. x.node) (new j je), target)
        ];
        marked = λ j b. elim (place j b) [
          | inl jl ↦ ap (is_marked (set marks (finish net.arcs s) true)) (ap (λ x. x.node) (old j jl)) ∙ mark_stays (visit_at visits j).node (h.marked j jl)
          | inr je ↦ ap (is_marked (set marks (finish net.arcs s) true)) (ap (λ x. x.node) (new j je)) ∙ get_or-set_same marks (finish net.arcs s) true false (omega (arith, target, h.marks_length))
        ];
        visited = λ v t. elim (cases_eq v (finish net.arcs s)) [
          | inl q ↦ (length visits, omega (arith, len), ap (λ x. x.node) (new (length visits) refl) ∙ sym q)
          | inr ne ↦ visited_old v (h.visited v (sym (get_or-set_other marks (finish net.arcs s) v true false ne) ∙ t))
        ];
        done = λ i a t r q.
            let il : i < length visits = omega arith in
            let q' : start net.arcs t ≡ (visit_at visits i).node = q ∙ ap (λ x. x.node) (old i il) in
            done_old i il t (h.done i a t r q');
        relevant = λ j b m. elim (place j b) [
          | inl jl ↦ omega (arith, ap (λ x. x.level) (old j jl), ap (λ x. x.level) (old head l), h.relevant j jl l)
          | inr je ↦ omega (arith, ap (λ x. x.level) (new j je), ap (λ x. x.level) (old head l))
        ];
        spare_capacity = omega (arith, len, unmarked_mark marks (finish net.arcs s) (omega (arith, target, h.marks_length)) f, h.spare_capacity);
      }
    where
      extra : Visit
      extra = record { node = finish net.arcs s; level = (visit_at visits head).level + 1; step = s; parent = head }

      len : length (visits ++ extra ∷ []) ≡ length visits + 1
      len = length_push visits extra

      old : (i : ℕ) → i < length visits → visit_at (visits ++ extra ∷ []) i ≡ visit_at visits i
      old i il = get_or_append_left visits (extra ∷ []) (record { node = 0; level = 0; step = Forward 0; parent = 0 }) i il

      new : (i : ℕ) → i ≡ length visits → visit_at (visits ++ extra ∷ []) i ≡ extra
      new i e = get_or_push visits extra (record { node = 0; level = 0; step = Forward 0; parent = 0 }) i (sym e)

      place : (j : ℕ) → j < length (visits ++ extra ∷ []) → (j < length visits) ⊎ (j ≡ length visits)
      place j b = let m : j < length visits + 1 = omega (arith, len) in grind arith

      target : finish net.arcs s < net.node_count
      target = in_range s res.0
        where
          in_range : (s : ResidualArc) → arc_of s < length net.arcs → finish net.arcs s < net.node_count
          in_range (Forward i) k = (ok.ends i k).1
          in_range (Backward i) k = (ok.ends i k).0

      mark_stays : (v : ℕ) → is_marked marks v ≡ true → is_marked (set marks (finish net.arcs s) true) v ≡ true
      mark_stays v t = elim (cases_eq v (finish net.arcs s)) [
        | inl q ↦ ap (is_marked (set marks (finish net.arcs s) true)) q ∙ get_or-set_same marks (finish net.arcs s) true false (omega (arith, target, h.marks_length))
        | inr ne ↦ get_or-set_other marks (finish net.arcs s) v true false ne ∙ t
      ]

      visited_old : (v : ℕ) → (j : ℕ) × (j < length visits) × ((visit_at visits j).node ≡ v) → (j : ℕ) × (j < length (visits ++ extra ∷ [])) × ((visit_at (visits ++ extra ∷ []) j).node ≡ v)
      visited_old v (j, k, q) = (j, omega (arith, len), ap (λ x. x.node) (old j k) ∙ q)

      done_old : (i : ℕ) → i < length visits → (t : ResidualArc) → EndsVisited net.arcs visits (visit_at visits i).level t → EndsVisited net.arcs (visits ++ extra ∷ []) (visit_at (visits ++ extra ∷ []) i).level t
      done_old i il t (j, k, q, m) = (j, omega (arith, len), ap (λ x. x.node) (old j k) ∙ q, omega (arith, ap (λ x. x.level) (old j k), ap (λ x. x.level) (old i il)))

      reached_old : (j : ℕ) → j < length visits → IsReached net.arcs flow visits j → IsReached net.arcs flow (visits ++ extra ∷ []) j
      reached_old j jl c =
          let opposite_has_residual : visit_at (visits ++ extra ∷ []) (visit_at visits j).parent ≡ visit_at visits (visit_at visits j).parent = old (visit_at visits j).parent (omega (arith, c.earlier)) in
          let same : visit_at (visits ++ extra ∷ []) j ≡ visit_at visits j = old j jl in
          let back' : visit_at (visits ++ extra ∷ []) (visit_at (visits ++ extra ∷ []) j).parent ≡ visit_at visits (visit_at visits j).parent = ap (λ x. visit_at (visits ++ extra ∷ []) x.parent) same ∙ opposite_has_residual in
          record {
            earlier = omega (arith, ap (λ x. x.parent) same, c.earlier);
            residual = subst (λ x. IsResidual net.arcs flow x.step) (sym same) c.residual;
            ends = ap (λ x. finish net.arcs x.step) same ∙ c.ends ∙ sym (ap (λ x. x.node) same);
            begins = ap (λ x. start net.arcs x.step) same ∙ c.begins ∙ sym (ap (λ x. x.node) back');
            next_level = ap (λ x. x.level) same ∙ c.next_level ∙ ap suc (sym (ap (λ x. x.level) back'));
          }

      reached_new : (j : ℕ) → j ≡ length visits → IsReached net.arcs flow (visits ++ extra ∷ []) j
      reached_new j je =
          let same : visit_at (visits ++ extra ∷ []) j ≡ extra = new j je in
          let opposite_has_residual : visit_at (visits ++ extra ∷ []) (visit_at (visits ++ extra ∷ []) j).parent ≡ visit_at visits head = ap (λ x. visit_at (visits ++ extra ∷ []) x.parent) same ∙ old head l in
          record {
            earlier = omega (arith, ap (λ x. x.parent) same);
            residual = subst (λ x. IsResidual net.arcs flow x.step) (sym same) res;
            ends = ap (λ x. finish net.arcs x.step) same ∙ sym (ap (λ x. x.node) same);
            begins = ap (λ x. start net.arcs x.step) same ∙ e ∙ sym (ap (λ x. x.node) opposite_has_residual);
            next_level = omega (arith, ap (λ x. x.level) same, ap (λ x. x.level) opposite_has_residual);
          }

      reached_more : (j : ℕ) → 0 < j → j < length (visits ++ extra ∷ []) → IsReached net.arcs flow (visits ++ extra ∷ []) j
      reached_more j a b = elim (place j b) [ inl jl ↦ reached_old j jl (h.is_reached j a jl) | inr je ↦ reached_new j je ]

  -- the next visit, once each step from this one is done
  pub next_head : (visits : List Visit) (marks : List Bool) (head : ℕ) → Searched net flow visits marks head → head < length visits → ((s : ResidualArc) → IsResidual net.arcs flow s → start net.arcs s ≡ (visit_at visits head).node → EndsVisited net.arcs visits (visit_at visits head).level s) → Searched net flow visits marks (head + 1)
  next_head visits marks head h l each = record {
    marks_length = h.marks_length;
    some = h.some;
    first_node = h.first_node;
    first_level = h.first_level;
    is_reached = h.is_reached;
    sorted = h.sorted;
    low = h.low;
    node_count = h.node_count;
    marked = h.marked;
    visited = h.visited;
    spare_capacity = h.spare_capacity;
    done = λ i a s r q. elim (cases_eq i head) [
      | inl e ↦ subst (λ n. EndsVisited net.arcs visits (visit_at visits n).level s) (sym e) (each s r (q ∙ ap (λ n. (visit_at visits n).node) e))
      | inr ne ↦ h.done i (omega arith) s r q
    ];
    relevant = λ j a b. omega (arith, h.relevant j a l, h.sorted head (head + 1) (omega arith) b);
  }

  -- a path to each visit
  path_to : (visits : List Visit) (marks : List Bool) (head : ℕ) → Searched net flow visits marks head → (fuel j : ℕ) → j < fuel → j < length visits → (path : List ResidualArc) × IsPath net.arcs flow net.source path (visit_at visits j).node
  path_to visits marks head h zero j a l = absurd (omega arith)
  path_to visits marks head h (suc fuel) zero a l = ([], sym h.first_node)
  path_to visits marks head h (suc fuel) (suc j) a l =
      let c : IsReached net.arcs flow visits (suc j) = h.is_reached (suc j) (omega arith) l in
      let p : (path : List ResidualArc) × IsPath net.arcs flow net.source path (visit_at visits (visit_at visits (suc j)).parent).node =
      path_to visits marks head h fuel (visit_at visits (suc j)).parent (omega (arith, c.earlier)) (omega (arith, c.earlier)) in (
        p.0 ++ (visit_at visits (suc j)).step ∷ [],
        subst (λ n. IsPath net.arcs flow net.source (p.0 ++ (visit_at visits (suc j)).step ∷ []) n) c.ends
            (path_append net.arcs flow p.0 net.source (visit_at visits (visit_at visits (suc j)).parent).node (visit_at visits (suc j)).step p.1 c.begins c.residual),
      )

  -- at the end the marked nodes are those that the source reaches
  pub all_reached : (visits : List Visit) (marks : List Bool) (head : ℕ) → Searched net flow visits marks head → length visits ≤ head → IsReach net flow (is_marked marks)
  all_reached visits marks head h l = record {
    source = sym (ap (is_marked marks) h.first_node) ∙ h.marked 0 h.some;
    closed = λ s r t.
        let v : (j : ℕ) × (j < length visits) × ((visit_at visits j).node ≡ start net.arcs s) = h.visited (start net.arcs s) t in
        let leads : EndsVisited net.arcs visits (visit_at visits v.0).level s = h.done v.0 (omega (arith, v.1)) s r (sym v.2) in
        sym (ap (is_marked marks) leads.2) ∙ h.marked leads.0 leads.1;
    only_reachable = λ v t.
        let j : (j : ℕ) × (j < length visits) × ((visit_at visits j).node ≡ v) = h.visited v t in
        let p : (path : List ResidualArc) × IsPath net.arcs flow net.source path (visit_at visits j.0).node = path_to visits marks head h (suc j.0) j.0 (omega arith) j.1 in
        (p.0, subst (λ n. IsPath net.arcs flow net.source p.0 n) j.2 p.1);
  }
