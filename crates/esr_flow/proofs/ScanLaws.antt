-- A scan of the steps from one visit.
use Rattle.std.proofs.Common.{◌≡◌, ◌≢◌, ℕ, ◌+◌, ◌-◌, ◌<◌, ◌≤◌, Bool, true, false, ◌⊎◌, List, [], ◌∷◌, ◌++◌, length, get_or, set, refl, sym, ap, ◌∙◌, subst, inl, inr, arith, true≢false, get_or-set_other}
use Rattle.std.proofs.lemmas.Bool.{cases_eq}
use Rattle.std.proofs.lemmas.List.{get_or_append_left, get_or_push, length_push, get_or_default}
use Rattle.esr_flow.specs.Types.{Arc, ResidualArc, Forward, Backward}
use Rattle.esr_flow.specs.ShortEntry.{AdjacencyEntry}
use Rattle.esr_cert.specs.ResidualArcs.{arc_of, start, step_at}
use Rattle.esr_flow.specs.Residual.{finish, IsResidual}
use Rattle.esr_cert.specs.Network.{Network, IsNetwork}
use Rattle.esr_flow.specs.ResidualGraph.{IsEntry, IsAdjacencyRow}
use Rattle.esr_flow.specs.Search.{visit_at, is_marked, EndsVisited, Searched, FoundSink, Visit}
use Rattle.esr_flow.proofs.SearchLaws.{visit_more, next_head, unmarked_far}

-- the first k steps of the row are done
pub record Scanning (net : Network) (flow : List ℕ) (steps : List ResidualArc) (row : List AdjacencyEntry) (visits : List Visit) (marks : List Bool) (head level k : ℕ) : Type 0 where
  pub searched : Searched net flow visits marks head
  pub in_visits : head < length visits
  pub lists : IsAdjacencyRow net.arcs flow (visit_at visits head).node steps row
  pub next_level : level ≡ (visit_at visits head).level + 1
  pub unfound : is_marked marks net.sink ≡ false
  pub row_done : (i : ℕ) → i < k → i < length row → IsResidual net.arcs flow (step_at steps i) → EndsVisited net.arcs visits (visit_at visits head).level (step_at steps i)

abbrev pub none_at : AdjacencyEntry
none_at = record { to = 0; has_residual = false; opposite_has_residual = false }

abbrev pub visit_of : ResidualArc → AdjacencyEntry → ℕ → ℕ → Visit
visit_of s e level head = record { node = e.to; level = level; step = s; parent = head }

-- a step of a node has a place in the node's row
place_of : (arcs : List Arc) (flow : List ℕ) (v : ℕ) (steps : List ResidualArc) (row : List AdjacencyEntry) (s : ResidualArc) → IsAdjacencyRow arcs flow v steps row → arc_of s < length arcs → start arcs s ≡ v → (k : ℕ) × (k < length row) × (step_at steps k ≡ s)
place_of arcs flow v steps row s h l e =
    let (k, m, q) = h.all s l e in
    (k, omega (arith, h.count), get_or_default steps k (Forward 0) s m ∙ q)

ends_visited_more : (arcs : List Arc) (visits : List Visit) (x : Visit) (level : ℕ) (s : ResidualArc) → EndsVisited arcs visits level s → EndsVisited arcs (visits ++ x ∷ []) level s
ends_visited_more arcs visits x level s (j, l, e, m) =
    let same : visit_at (visits ++ x ∷ []) j ≡ visit_at visits j = get_or_append_left visits (x ∷ []) (record { node = 0; level = 0; step = Forward 0; parent = 0 }) j l in
    (j, omega (arith, length_push visits x), ap (λ v. v.node) same ∙ e, omega (arith, ap (λ v. v.level) same))

finish_in : (net : Network) → IsNetwork net → (s : ResidualArc) → arc_of s < length net.arcs → finish net.arcs s < net.node_count
finish_in net ok (Forward i) k = (ok.ends i k).1
finish_in net ok (Backward i) k = (ok.ends i k).0

module _ (net : Network) (ok : IsNetwork net) (flow : List ℕ) (steps : List ResidualArc) (row : List AdjacencyEntry) (visits : List Visit) (marks : List Bool) (head level k : ℕ) where
  at_k : (P : ResidualArc → Type 0) → P (step_at steps k) → ((i : ℕ) → i < k → i < length row → P (step_at steps i)) → (i : ℕ) → i < k + 1 → i < length row → P (step_at steps i)
  at_k P p before i a b =
      elim (cases_eq i k) [
        | inl q ↦ subst (λ n. P (step_at steps n)) (sym q) p
        | inr ne ↦ before i (omega arith) b
      ]

  entry_in : (e : AdjacencyEntry) → Scanning net flow steps row visits marks head level k → k < length row → e ≡ get_or row k none_at → IsEntry net.arcs flow (visit_at visits head).node (step_at steps k) e
  entry_in e h l is = subst (IsEntry net.arcs flow (visit_at visits head).node (step_at steps k)) (sym is) (h.lists.entries k l)

  pub entry_marked : (e : AdjacencyEntry) → Scanning net flow steps row visits marks head level k → k < length row → e ≡ get_or row k none_at → e.to < length marks
  entry_marked e h l is = let q : IsEntry net.arcs flow (visit_at visits head).node (step_at steps k) e = entry_in e h l is in omega (arith, q.leads, finish_in net ok (step_at steps k) q.arc_in_range, h.searched.marks_length)

  -- one more step, which leads to a visit if it has residual capacity
  scan_on : Scanning net flow steps row visits marks head level k → (IsResidual net.arcs flow (step_at steps k) → EndsVisited net.arcs visits (visit_at visits head).level (step_at steps k)) → Scanning net flow steps row visits marks head level (k + 1)
  scan_on h here = record {
    searched = h.searched;
    in_visits = h.in_visits;
    lists = h.lists;
    next_level = h.next_level;
    unfound = h.unfound;
    row_done = at_k (λ t. IsResidual net.arcs flow t → EndsVisited net.arcs visits (visit_at visits head).level t) here h.row_done;
  }

  -- a step without residual capacity
  pub scan_skip : (e : AdjacencyEntry) → Scanning net flow steps row visits marks head level k → k < length row → e ≡ get_or row k none_at → e.has_residual ≡ false → Scanning net flow steps row visits marks head level (k + 1)
  scan_skip e h l is f =
      let q : IsEntry net.arcs flow (visit_at visits head).node (step_at steps k) e = entry_in e h l is in
      scan_on h (λ r. absurd (true≢false (sym r.1 ∙ sym q.has_residual ∙ f)))

  -- a step to a node that was visited; the node is in range, so elements past the end do not matter
  pub scan_marked : (e : AdjacencyEntry) → Scanning net flow steps row visits marks head level k → k < length row → e ≡ get_or row k none_at → get_or marks e.to true ≡ true → Scanning net flow steps row visits marks head level (k + 1)
  scan_marked e h l is m =
      let q : IsEntry net.arcs flow (visit_at visits head).node (step_at steps k) e = entry_in e h l is in
      let t : is_marked marks (finish net.arcs (step_at steps k)) ≡ true = ap (is_marked marks) (sym q.leads) ∙ get_or_default marks e.to false true (omega (arith, q.leads, finish_in net ok (step_at steps k) q.arc_in_range, h.searched.marks_length)) ∙ m in
      scan_on h (λ r.
      let v : (j : ℕ) × (j < length visits) × ((visit_at visits j).node ≡ finish net.arcs (step_at steps k)) = h.searched.visited (finish net.arcs (step_at steps k)) t in
      (v.0, v.1, v.2, h.searched.relevant v.0 v.1 h.in_visits))

  searched_more : (e : AdjacencyEntry) → Scanning net flow steps row visits marks head level k → k < length row → e ≡ get_or row k none_at → e.has_residual ≡ true → is_marked marks e.to ≡ false → Searched net flow (visits ++ visit_of (step_at steps k) e level head ∷ []) (set marks e.to true) head
  searched_more e h l is r f =
      let q : IsEntry net.arcs flow (visit_at visits head).node (step_at steps k) e = entry_in e h l is in
      let more : Searched net flow (visits ++ record { node = finish net.arcs (step_at steps k); level = (visit_at visits head).level + 1; step = (step_at steps k); parent = head } ∷ []) (set marks (finish net.arcs (step_at steps k)) true) head =
      visit_more net flow visits marks head (step_at steps k) ok h.searched h.in_visits (q.arc_in_range, sym q.has_residual ∙ r) q.starts (ap (is_marked marks) (sym q.leads) ∙ f) in
      subst (λ n. Searched net flow (visits ++ visit_of (step_at steps k) e n head ∷ []) (set marks e.to true) head) (sym h.next_level)
      (subst (λ n. Searched net flow (visits ++ record { node = n; level = (visit_at visits head).level + 1; step = (step_at steps k); parent = head } ∷ []) (set marks n true) head) (sym q.leads) more)

  same_head : (e : AdjacencyEntry) → head < length visits → visit_at (visits ++ visit_of (step_at steps k) e level head ∷ []) head ≡ visit_at visits head
  same_head e l = get_or_append_left visits (visit_of (step_at steps k) e level head ∷ []) (record { node = 0; level = 0; step = Forward 0; parent = 0 }) head l

  -- a step to a node that was not
  pub scan_visit : (e : AdjacencyEntry) → Scanning net flow steps row visits marks head level k → k < length row → e ≡ get_or row k none_at → e.has_residual ≡ true → is_marked marks e.to ≡ false → e.to ≢ net.sink → Scanning net flow steps row (visits ++ visit_of (step_at steps k) e level head ∷ []) (set marks e.to true) head level (k + 1)
  scan_visit e h l is r f ne =
      let q : IsEntry net.arcs flow (visit_at visits head).node (step_at steps k) e = entry_in e h l is in
      let same : visit_at (visits ++ visit_of (step_at steps k) e level head ∷ []) head ≡ visit_at visits head = same_head e h.in_visits in
      let len : length (visits ++ visit_of (step_at steps k) e level head ∷ []) ≡ length visits + 1 = length_push visits (visit_of (step_at steps k) e level head) in
      let new : visit_at (visits ++ visit_of (step_at steps k) e level head ∷ []) (length visits) ≡ visit_of (step_at steps k) e level head = get_or_push visits (visit_of (step_at steps k) e level head) (record { node = 0; level = 0; step = Forward 0; parent = 0 }) (length visits) refl in
      record {
        searched = searched_more e h l is r f;
        in_visits = omega (arith, len, h.in_visits);
        lists = subst (λ x. IsAdjacencyRow net.arcs flow x.node steps row) (sym same) h.lists;
        next_level = omega (arith, h.next_level, ap (λ x. x.level) same);
        unfound = get_or-set_other marks e.to net.sink true false (λ g. ne (sym g)) ∙ h.unfound;
        row_done = subst (λ x. (i : ℕ) → i < k + 1 → i < length row → IsResidual net.arcs flow (step_at steps i) → EndsVisited net.arcs (visits ++ visit_of (step_at steps k) e level head ∷ []) x.level (step_at steps i)) (sym same)
            (at_k (λ t. IsResidual net.arcs flow t → EndsVisited net.arcs (visits ++ visit_of (step_at steps k) e level head ∷ []) (visit_at visits head).level t)
            (λ g. (length visits, omega (arith, len), ap (λ x. x.node) new ∙ q.leads, omega (arith, ap (λ x. x.level) new, h.next_level)))
            (λ i a b g. ends_visited_more net.arcs visits (visit_of (step_at steps k) e level head) (visit_at visits head).level (step_at steps i) (h.row_done i a b g)));
      }

  -- a step to the sink
  pub scan_found : (e : AdjacencyEntry) → Scanning net flow steps row visits marks head level k → k < length row → e ≡ get_or row k none_at → e.has_residual ≡ true → is_marked marks e.to ≡ false → e.to ≡ net.sink → FoundSink net flow (visits ++ visit_of (step_at steps k) e level head ∷ [])
  scan_found e h l is r f at =
      let len : length (visits ++ visit_of (step_at steps k) e level head ∷ []) - 1 ≡ length visits = omega (arith, length_push visits (visit_of (step_at steps k) e level head)) in
      let new : visit_at (visits ++ visit_of (step_at steps k) e level head ∷ []) (length (visits ++ visit_of (step_at steps k) e level head ∷ []) - 1) ≡ visit_of (step_at steps k) e level head =
      ap (visit_at (visits ++ visit_of (step_at steps k) e level head ∷ [])) len ∙ get_or_push visits (visit_of (step_at steps k) e level head) (record { node = 0; level = 0; step = Forward 0; parent = 0 }) (length visits) refl in
      record {
        marks = set marks e.to true;
        head = head;
        searched = searched_more e h l is r f;
        at_sink = ap (λ x. x.node) new ∙ at;
        in_visits = omega (arith, length_push visits (visit_of (step_at steps k) e level head), h.in_visits);
        only = only;
        nearest = λ other p. omega (arith, ap (λ x. x.level) new, h.next_level, unmarked_far net flow visits marks head net.sink h.searched h.in_visits h.unfound other p);
      }
    where
      only : (j : ℕ) → j < length (visits ++ visit_of (step_at steps k) e level head ∷ []) → (visit_at (visits ++ visit_of (step_at steps k) e level head ∷ []) j).node ≡ net.sink → (visit_at (visits ++ visit_of (step_at steps k) e level head ∷ []) j).level ≡ (visit_at (visits ++ visit_of (step_at steps k) e level head ∷ []) (length (visits ++ visit_of (step_at steps k) e level head ∷ []) - 1)).level
      only j l q =
          let split : (j < length visits) ⊎ (j ≡ length visits) = (let m : j < length visits + 1 = omega (arith, length_push visits (visit_of (step_at steps k) e level head)) in grind arith) in
          elim split [
            | inl m ↦
                let old : visit_at (visits ++ visit_of (step_at steps k) e level head ∷ []) j ≡ visit_at visits j = get_or_append_left visits (visit_of (step_at steps k) e level head ∷ []) (record { node = 0; level = 0; step = Forward 0; parent = 0 }) j m in
                absurd (true≢false (sym (h.searched.marked j m) ∙ ap (is_marked marks) (sym (ap (λ x. x.node) old) ∙ q) ∙ h.unfound))
            | inr z ↦
                ap (λ n. (visit_at (visits ++ visit_of (step_at steps k) e level head ∷ []) n).level) (let g : j ≡ length (visits ++ visit_of (step_at steps k) e level head ∷ []) - 1 = omega (arith, length_push visits (visit_of (step_at steps k) e level head)) in g)
          ]

  -- the whole row
  pub scan_end : length row ≤ k → Scanning net flow steps row visits marks head level k → Searched net flow visits marks (head + 1) × (is_marked marks net.sink ≡ false) × (head < length visits)
  scan_end l h = (
    next_head net flow visits marks head h.searched h.in_visits (λ s r q.
        let c : (i : ℕ) × (i < length row) × (step_at steps i ≡ s) = place_of net.arcs flow (visit_at visits head).node steps row s h.lists r.0 q in
        subst (λ t. EndsVisited net.arcs visits (visit_at visits head).level t) c.2
        (h.row_done c.0 (omega (arith, c.1)) c.1 (subst (IsResidual net.arcs flow) (sym c.2) r))),
    h.unfound,
    h.in_visits,
  )
