-- The labels of a search: by how many levels a node's first visit precedes the sink's.
use Rattle.std.proofs.Common.{◌≡◌, ℕ, ◌+◌, ◌-◌, ◌<◌, ◌≤◌, ◌⊎◌, max, List, length, set, sym, ap, ◌∙◌, subst, inl, inr, arith, length-set, get_or-set_other, get_or-set_same}
use Rattle.std.proofs.lemmas.Bool.{cases_eq, cases_lt}
use Rattle.esr_cert.specs.ResidualArcs.{start}
use Rattle.esr_flow.specs.Residual.{finish, Falls}
use Rattle.esr_cert.specs.Network.{Network}
use Rattle.esr_flow.specs.Search.{visit_at, label_at, EndsVisited, FoundSink, Guides, Visit}

-- the labels of the first k visits are set
pub record Labelled (visits : List Visit) (node_count last : ℕ) (labels : List ℕ) (k : ℕ) : Type 0 where
  pub count : length labels ≡ node_count
  pub some_visit : (v : ℕ) → (label_at labels v ≡ 0) ⊎ ((i : ℕ) × (i < length visits) × ((visit_at visits i).node ≡ v) × (label_at labels v ≡ last - (visit_at visits i).level))
  pub at_least : (j : ℕ) → j < k → last - (visit_at visits j).level ≤ label_at labels (visit_at visits j).node

pub label_more : (visits : List Visit) (node_count last : ℕ) (labels : List ℕ) (k : ℕ) → k < length visits → (visit_at visits k).node < node_count → Labelled visits node_count last labels k → Labelled visits node_count last (set labels (visit_at visits k).node (max (label_at labels (visit_at visits k).node) (last - (visit_at visits k).level))) (k + 1)
label_more visits node_count last labels k l n h =
    record { count = length-set labels node new ∙ h.count; some_visit = some_visit; at_least = at_least }
  where
    node : ℕ
    node = (visit_at visits k).node

    new : ℕ
    new = max (label_at labels (visit_at visits k).node) (last - (visit_at visits k).level)

    here : label_at (set labels (visit_at visits k).node new) (visit_at visits k).node ≡ new
    here = get_or-set_same labels (visit_at visits k).node new 0 (omega (arith, n, h.count))

    some_visit : (v : ℕ) → (label_at (set labels (visit_at visits k).node new) v ≡ 0) ⊎ ((i : ℕ) × (i < length visits) × ((visit_at visits i).node ≡ v) × (label_at (set labels (visit_at visits k).node new) v ≡ last - (visit_at visits i).level))
    some_visit v = elim (cases_eq v (visit_at visits k).node) [
      | inl q ↦
          let at_v : label_at (set labels (visit_at visits k).node new) v ≡ new = ap (label_at (set labels (visit_at visits k).node new)) q ∙ here in
          elim (cases_lt (label_at labels (visit_at visits k).node) (last - (visit_at visits k).level)) [
            | inl less ↦
                let e : new ≡ last - (visit_at visits k).level = omega arith in
                inr (k, l, sym q, at_v ∙ e)
            | inr more ↦
                let e : new ≡ label_at labels (visit_at visits k).node = omega arith in
                let kept : label_at (set labels (visit_at visits k).node new) v ≡ label_at labels v = at_v ∙ e ∙ ap (label_at labels) (sym q) in
                elim (h.some_visit v) [ inl z ↦ inl (kept ∙ z) | inr (i, a, b, c) ↦ inr (i, a, b, kept ∙ c) ]
          ]
      | inr ne ↦
          let kept : label_at (set labels (visit_at visits k).node new) v ≡ label_at labels v = get_or-set_other labels (visit_at visits k).node v new 0 ne in
          elim (h.some_visit v) [ inl z ↦ inl (kept ∙ z) | inr (i, a, b, c) ↦ inr (i, a, b, kept ∙ c) ]
    ]

    at_least : (j : ℕ) → j < k + 1 → last - (visit_at visits j).level ≤ label_at (set labels (visit_at visits k).node new) (visit_at visits j).node
    at_least j a = elim (cases_eq j k) [
      | inl q ↦ subst (λ i. last - (visit_at visits i).level ≤ label_at (set labels (visit_at visits k).node new) (visit_at visits i).node) (sym q) (omega (arith, here))
      | inr ne ↦
          let before : last - (visit_at visits j).level ≤ label_at labels (visit_at visits j).node = h.at_least j (omega arith) in
          elim (cases_eq (visit_at visits j).node (visit_at visits k).node) [
            | inl same ↦ omega (arith, here, before, ap (label_at labels) same, ap (label_at (set labels (visit_at visits k).node new)) same)
            | inr other ↦ omega (arith, before, get_or-set_other labels (visit_at visits k).node (visit_at visits j).node new 0 other)
          ]
    ]

module _ (net : Network) (flow : List ℕ) (visits : List Visit) (f : FoundSink net flow visits) (labels : List ℕ) (k : ℕ) (past : length visits ≤ k) (h : Labelled visits net.node_count (visit_at visits (length visits - 1)).level labels k) where
  falls : Falls net.arcs flow (label_at labels)
  falls s res = elim (h.some_visit (start net.arcs s)) [
    | inl z ↦ omega arith
    | inr (i, l, e, q) ↦ elim (cases_lt i f.head) [
      | inl before ↦
          let leads : EndsVisited net.arcs visits (visit_at visits i).level s = f.searched.done i before s res (sym e) in
          let least : (visit_at visits (length visits - 1)).level - (visit_at visits leads.0).level ≤ label_at labels (finish net.arcs s) = subst (λ n. (visit_at visits (length visits - 1)).level - (visit_at visits leads.0).level ≤ label_at labels n) leads.2 (h.at_least leads.0 (omega (arith, leads.1))) in
          omega (arith, leads.3)
      | inr after ↦
          omega (arith, f.searched.sorted f.head i after l, f.searched.relevant (length visits - 1) (omega (arith, f.searched.some)) f.in_visits)
    ]
  ]

  pub labels_guide : Guides net flow labels
  labels_guide = record {
    count = h.count;
    falls = falls;
    at_sink = elim (h.some_visit net.sink) [ inl z ↦ z | inr (i, l, e, q) ↦ omega (arith, f.only i l e) ];
  }
