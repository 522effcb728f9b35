-- The entries of a graph's steps: the row of a node, and the changes by an arc's new amount.
use Rattle.std.proofs.Common.{◌≡◌, ◌≢◌, ℕ, suc, Bool, true, Contains, ◌-◌, ◌<◌, List, [], ◌∷◌, length, get_or, set, take, drop, map, refl, sym, ap, ◌∙◌, subst, inl, inr, arith, Some, length-set, get_or-set_other, get_or-set_same}
use Rattle.std.proofs.lemmas.Bool.{cases_eq, eqb-true, or_cases}
use Rattle.std.proofs.lemmas.List.{ext_get_or, get_or-map, length-map, take-map, drop-map}
use Rattle.esr_flow.specs.Types.{Arc, ResidualArc, Forward, Backward}
use Rattle.esr_cert.specs.Network.{arc_at}
use Rattle.esr_flow.specs.ShortEntry.{AdjacencyEntry}
use Rattle.esr_cert.specs.declared.adjacency.Span.{Span}
use Rattle.esr_cert.specs.Flow.{within, amount_at}
use Rattle.esr_cert.specs.ResidualArcs.{arc_of, start, step_at, same_step, has_step, HasSteps}
use Rattle.esr_flow.specs.Residual.{residual_capacity, left_of}
use Rattle.esr_flow.specs.ResidualGraph.{network_arcs, network_of, adjacency_entry, entry_at, AreEntries, IsEntry, IsAdjacencyRow, ResidualGraph}
use Rattle.esr_cert.specs.Adjacency.{span_at, row_in}
use Rattle.esr_flow.proofs.WalkLaws.{start_in}

same_is : (t s : ResidualArc) → same_step t s ≡ true → t ≡ s
same_is (Forward i) (Forward j) h = ap (λ n. Forward n) (eqb-true i j h)
same_is (Forward i) (Backward j) h = cc
same_is (Backward i) (Forward j) h = cc
same_is (Backward i) (Backward j) h = ap (λ n. Backward n) (eqb-true i j h)

contains_from : (steps : List ResidualArc) (s : ResidualArc) → has_step steps s ≡ true → Contains steps s
contains_from [] s h = cc
contains_from (t ∷ steps) s h =
    let rest : has_step steps s ≡ true → Contains steps s = contains_from steps s in
    elim (or_cases (same_step t s) (has_step steps s) h) [
      | inl q ↦ (0, omega arith, same_is t s q)
      | inr q ↦ let (k, l, e) = rest q in (suc k, omega arith, e)
    ]

-- the entries of a node's steps
lists_from : (arcs : List Arc) (flow : List ℕ) (v : ℕ) (steps : List ResidualArc) → HasSteps arcs v steps → IsAdjacencyRow arcs flow v steps (map (adjacency_entry arcs flow) steps)
lists_from arcs flow v steps h = record {
  count = length-map steps (adjacency_entry arcs flow);
  entries = λ k l.
      let inside : k < length steps = omega (arith, length-map steps (adjacency_entry arcs flow)) in
      let is : entry_at (map (adjacency_entry arcs flow) steps) k ≡ adjacency_entry arcs flow (step_at steps k) = get_or-map (adjacency_entry arcs flow) steps k (Forward 0) (entry_at [] 0) inside in
      let (a, s) = h.starts k inside in
      subst (IsEntry arcs flow v (step_at steps k)) (sym is) (record { arc_in_range = a; starts = s; leads = refl; has_residual = refl; opposite_has_residual = refl });
  all = λ step l e. contains_from steps step (h.all step l e);
}

-- a mapped list with two of its elements overwritten, if the others keep their values
module _ {S E : Type 0} (f h : S → E) (steps : List S) (entries : List E) (p q : ℕ) (a b d : S) (z : E) where
  each_written : entries ≡ map f steps → p < length steps → q < length steps → get_or steps p d ≡ a → get_or steps q d ≡ b → ((k : ℕ) → k < length steps → k ≢ p → k ≢ q → h (get_or steps k d) ≡ f (get_or steps k d)) → (k : ℕ) → k < length steps → get_or (set (set entries p (h a)) q (h b)) k z ≡ h (get_or steps k d)
  each_written are lp lq at_p at_q others k l =
      let long : length entries ≡ length steps = ap (λ (es : List E). length es) are ∙ length-map steps f in
      let unless_q : k ≢ q → get_or (set entries p (h a)) k z ≡ h (get_or steps k d) = λ nq.
      elim (cases_eq k p) [
        | inl e ↦ ap (λ n. get_or (set entries p (h a)) n z) e ∙ get_or-set_same entries p (h a) z (omega arith) ∙ ap h (sym at_p) ∙ ap (λ n. h (get_or steps n d)) (sym e)
        | inr np ↦ get_or-set_other entries p k (h a) z np ∙ ap (λ es. get_or es k z) are ∙ get_or-map f steps k d z l ∙ sym (others k l np nq)
      ] in
      elim (cases_eq k q) [
        | inl e ↦ ap (λ n. get_or (set (set entries p (h a)) q (h b)) n z) e ∙ get_or-set_same (set entries p (h a)) q (h b) z (omega (arith, length-set entries p (h a))) ∙ ap h (sym at_q) ∙ ap (λ n. h (get_or steps n d)) (sym e)
        | inr nq ↦ get_or-set_other (set entries p (h a)) q k (h b) z nq ∙ unless_q nq
      ]

  written : entries ≡ map f steps → p < length steps → q < length steps → get_or steps p d ≡ a → get_or steps q d ≡ b → ((k : ℕ) → k < length steps → k ≢ p → k ≢ q → h (get_or steps k d) ≡ f (get_or steps k d)) → set (set entries p (h a)) q (h b) ≡ map h steps
  written are lp lq at_p at_q others =
      let same_length : length (set (set entries p (h a)) q (h b)) ≡ length (map h steps) = omega (arith, length-set (set entries p (h a)) q (h b), length-set entries p (h a), ap (λ (es : List E). length es) are, length-map steps f, length-map steps h) in
      ext_get_or z (set (set entries p (h a)) q (h b)) (map h steps) same_length (λ k l.
      let inside : k < length steps = omega (arith, same_length, length-map steps h) in
      each_written are lp lq at_p at_q others k inside ∙ sym (get_or-map h steps k d z inside))

-- the entries of an arc's two steps
pub along_is : (arcs : List Arc) (flow : List ℕ) (i x : ℕ) (arc : Arc) → arc ≡ arc_at arcs i → x ≡ amount_at flow i → record { to = arc.to; has_residual = within 1 (left_of arc.capacity x); opposite_has_residual = within 1 (Some x) } ≡ adjacency_entry arcs flow (Forward i)
along_is arcs flow i x arc is x_is =
    let by : Arc → ℕ → AdjacencyEntry = λ a n. record { to = a.to; has_residual = within 1 (left_of a.capacity n); opposite_has_residual = within 1 (Some n) } in
    ap (λ a. by a x) is ∙ ap (by (arc_at arcs i)) x_is

pub against_is : (arcs : List Arc) (flow : List ℕ) (i x : ℕ) (arc : Arc) → arc ≡ arc_at arcs i → x ≡ amount_at flow i → record { to = arc.from; has_residual = within 1 (Some x); opposite_has_residual = within 1 (left_of arc.capacity x) } ≡ adjacency_entry arcs flow (Backward i)
against_is arcs flow i x arc is x_is =
    let by : Arc → ℕ → AdjacencyEntry = λ a n. record { to = a.from; has_residual = within 1 (Some n); opposite_has_residual = within 1 (left_of a.capacity n) } in
    ap (λ a. by a x) is ∙ ap (by (arc_at arcs i)) x_is

-- the entry of a step of another arc
same_entry : (arcs : List Arc) (flow : List ℕ) (i x : ℕ) (t : ResidualArc) → arc_of t ≢ i → adjacency_entry arcs (set flow i x) t ≡ adjacency_entry arcs flow t
same_entry arcs flow i x (Forward j) ne =
    let by : ℕ → AdjacencyEntry = λ n. record { to = (arc_at arcs j).to; has_residual = within 1 (left_of (arc_at arcs j).capacity n); opposite_has_residual = within 1 (Some n) } in
    ap by (get_or-set_other flow i j x 0 ne)
same_entry arcs flow i x (Backward j) ne =
    let by : ℕ → AdjacencyEntry = λ n. record { to = (arc_at arcs j).from; has_residual = within 1 (Some n); opposite_has_residual = within 1 (left_of (arc_at arcs j).capacity n) } in
    ap by (get_or-set_other flow i j x 0 ne)

abbrev entry : ℕ → Bool → Bool → AdjacencyEntry
entry n has_residual opposite_has_residual = record { to = n; has_residual = has_residual; opposite_has_residual = opposite_has_residual }

same_capacities : (n : ℕ) {a b c d : Bool} → a ≡ b → c ≡ d → entry n a c ≡ entry n b d
same_capacities n {a} {b} {c} {d} p q = ap (λ x. entry n x c) p ∙ ap (entry n b) q

map_same : {S E : Type 0} (f h : S → E) → ((s : S) → f s ≡ h s) → (steps : List S) → map f steps ≡ map h steps
map_same f h e [] = refl
map_same f h e (s ∷ steps) = ap (λ x. x ∷ map f steps) (e s) ∙ ap (λ xs. h s ∷ xs) (map_same f h e steps)

module _ (g : ResidualGraph) where
  -- a step is in the row of the node where it starts
  pub in_row : (s : ResidualArc) → arc_of s < length (network_arcs g) → Contains (row_in g.adjacency.now.steps.items (span_at g.adjacency.now.spans.items (start (network_arcs g) s))) s
  in_row s l =
      contains_from (row_in g.adjacency.now.steps.items (span_at g.adjacency.now.spans.items (start (network_arcs g) s))) s
      ((g.kept.lists (start (network_arcs g) s) (start_in (network_of g) g.kept.is_network s l)).all s l refl)

  row_lists : (flow : List ℕ) (entries : List AdjacencyEntry) → AreEntries g flow entries → (v : ℕ) → v < g.node_count → IsAdjacencyRow (network_arcs g) flow v (row_in g.adjacency.now.steps.items (span_at g.adjacency.now.spans.items v)) (row_in entries (span_at g.adjacency.now.spans.items v))
  row_lists flow entries are v l =
      let span : Span = span_at g.adjacency.now.spans.items v in
      let same : row_in entries span ≡ map (adjacency_entry (network_arcs g) flow) (row_in g.adjacency.now.steps.items span) =
      ap (λ es. row_in es span) are ∙ ap (take (span.end - span.begin)) (drop-map (adjacency_entry (network_arcs g) flow) span.begin g.adjacency.now.steps.items) ∙ take-map (adjacency_entry (network_arcs g) flow) (span.end - span.begin) (drop span.begin g.adjacency.now.steps.items) in
      subst (IsAdjacencyRow (network_arcs g) flow v (row_in g.adjacency.now.steps.items span)) (sym same) (lists_from (network_arcs g) flow v (row_in g.adjacency.now.steps.items span) (g.kept.lists v l))

  -- the steps and the entries of a node as they were read
  pub lists_read : (flow : List ℕ) (entries : List AdjacencyEntry) → AreEntries g flow entries → (v : ℕ) → v < g.node_count → (steps : List ResidualArc) (row : List AdjacencyEntry) → steps ≡ row_in g.adjacency.now.steps.items (span_at g.adjacency.now.spans.items v) → row ≡ row_in entries (span_at g.adjacency.now.spans.items v) → IsAdjacencyRow (network_arcs g) flow v steps row
  lists_read flow entries are v l steps row steps_are row_is =
      subst (λ list. IsAdjacencyRow (network_arcs g) flow v list row) (sym steps_are)
      (subst (IsAdjacencyRow (network_arcs g) flow v (row_in g.adjacency.now.steps.items (span_at g.adjacency.now.spans.items v))) (sym row_is) (row_lists flow entries are v l))

  -- a step at neither index of an arc's two steps belongs to another arc
  other_arc : (i k p q : ℕ) → k < length g.adjacency.now.steps.items → p < length g.adjacency.now.steps.items → q < length g.adjacency.now.steps.items → step_at g.adjacency.now.steps.items p ≡ Forward i → step_at g.adjacency.now.steps.items q ≡ Backward i → k ≢ p → k ≢ q
      → (t : ResidualArc) → step_at g.adjacency.now.steps.items k ≡ t → arc_of t ≢ i
  other_arc i k p q l lp lq at_p at_q np nq (Forward j) is e = np (g.kept.steps.once k p l lp (is ∙ ap (λ n. Forward n) e ∙ sym at_p))
  other_arc i k p q l lp lq at_p at_q np nq (Backward j) is e = nq (g.kept.steps.once k q l lq (is ∙ ap (λ n. Backward n) e ∙ sym at_q))

  pub renewed : (flow : List ℕ) (entries : List AdjacencyEntry) (i x p q : ℕ) (a b : AdjacencyEntry) → AreEntries g flow entries
      → p < length g.adjacency.now.steps.items → step_at g.adjacency.now.steps.items p ≡ Forward i → q < length g.adjacency.now.steps.items → step_at g.adjacency.now.steps.items q ≡ Backward i
      → a ≡ adjacency_entry (network_arcs g) (set flow i x) (Forward i) → b ≡ adjacency_entry (network_arcs g) (set flow i x) (Backward i) → AreEntries g (set flow i x) (set (set entries p a) q b)
  renewed flow entries i x p q a b are lp at_p lq at_q along against =
      let f : ResidualArc → AdjacencyEntry = adjacency_entry (network_arcs g) flow in
      let h : ResidualArc → AdjacencyEntry = adjacency_entry (network_arcs g) (set flow i x) in
      ap (λ e. set (set entries p e) q b) along ∙ ap (λ e. set (set entries p (h (Forward i))) q e) against
      ∙ written f h g.adjacency.now.steps.items entries p q (Forward i) (Backward i) (Forward 0) (entry_at [] 0) are lp lq at_p at_q
      (λ k l np nq. same_entry (network_arcs g) flow i x (step_at g.adjacency.now.steps.items k) (other_arc i k p q l lp lq at_p at_q np nq (step_at g.adjacency.now.steps.items k) refl))

  -- if the same steps of an arc have residual capacity as before, so do all steps
  pub unchanged : (flow : List ℕ) (entries : List AdjacencyEntry) (i x : ℕ) (arc : Arc) → i < length flow → arc ≡ arc_at (network_arcs g) i → AreEntries g flow entries
      → within 1 (left_of arc.capacity (amount_at flow i)) ≡ within 1 (left_of arc.capacity x) → within 1 (Some (amount_at flow i)) ≡ within 1 (Some x) → AreEntries g (set flow i x) entries
  unchanged flow entries i x arc l is are same_ahead same_back =
      are ∙ map_same (adjacency_entry (network_arcs g) flow) (adjacency_entry (network_arcs g) (set flow i x)) (λ s. elim (cases_eq (arc_of s) i) [
        | inl e ↦ here s e
        | inr ne ↦ sym (same_entry (network_arcs g) flow i x s ne)
      ]) g.adjacency.now.steps.items
    where
      now : x ≡ amount_at (set flow i x) i
      now = sym (get_or-set_same flow i x 0 l)

      has_residual : within 1 (residual_capacity (network_arcs g) flow (Forward i)) ≡ within 1 (residual_capacity (network_arcs g) (set flow i x) (Forward i))
      has_residual =
          subst (λ (a : Arc). within 1 (left_of a.capacity (amount_at flow i)) ≡ within 1 (left_of a.capacity x)) is same_ahead
          ∙ ap (λ n. within 1 (left_of (arc_at (network_arcs g) i).capacity n)) now

      opposite_has_residual : within 1 (residual_capacity (network_arcs g) flow (Backward i)) ≡ within 1 (residual_capacity (network_arcs g) (set flow i x) (Backward i))
      opposite_has_residual = same_back ∙ ap (λ n. within 1 (Some n)) now

      here : (s : ResidualArc) → arc_of s ≡ i → adjacency_entry (network_arcs g) flow s ≡ adjacency_entry (network_arcs g) (set flow i x) s
      here (Forward j) e = subst (λ n. adjacency_entry (network_arcs g) flow (Forward n) ≡ adjacency_entry (network_arcs g) (set flow i x) (Forward n)) (sym e) (same_capacities (arc_at (network_arcs g) i).to has_residual opposite_has_residual)
      here (Backward j) e = subst (λ n. adjacency_entry (network_arcs g) flow (Backward n) ≡ adjacency_entry (network_arcs g) (set flow i x) (Backward n)) (sym e) (same_capacities (arc_at (network_arcs g) i).from opposite_has_residual has_residual)
