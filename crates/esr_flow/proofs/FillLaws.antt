-- The entries of a graph's steps as they are put into their rows, arc by arc.
use Rattle.std.proofs.Common.{◌≡◌, ℕ, zero, suc, ◌+◌, ◌-◌, ◌<◌, ◌⊎◌, Contains, List, [], ◌∷◌, ◌++◌, length, get_or, set, map, sym, ap, ◌∙◌, subst, inl, inr, ⊎_elim, Some, arith, append_assoc, length-set, get_or-set_same, get_or-set_other}
use Rattle.std.proofs.Math.Seq.{get_or-append_seam}
use Rattle.std.proofs.lemmas.Bool.{cases_eq}
use Rattle.std.proofs.lemmas.List.{ext_get_or, get_or-map, get_or_default, length-map}
use Rattle.std.proofs.lemmas.List.Elements.{Contains-push_cases}
use Rattle.esr_flow.specs.Types.{Arc, ResidualArc, Forward, Backward}
use Rattle.esr_cert.specs.Network.{arc_at}
use Rattle.esr_cert.specs.Flow.{within, amount_at}
use Rattle.esr_cert.specs.ResidualArcs.{start, step_at}
use Rattle.esr_cert.specs.Adjacency.{span_at, residual_arcs_below, steps_from, row_of, Counted}
use Rattle.esr_cert.proofs.ResidualArcsLaws.{steps_parts, room_for, first_all, first_next}
use Rattle.esr_cert.proofs.AdjacencyLaws.{row_length, at_row, counted_more}
use Rattle.esr_flow.specs.ShortEntry.{AdjacencyEntry}
use Rattle.esr_flow.specs.Residual.{left_of}
use Rattle.esr_flow.specs.ResidualGraph.{network_arcs, adjacency_entry, entry_at, AreEntries, ResidualGraph}
use Rattle.esr_flow.proofs.EntriesLaws.{along_is, against_is}

-- the first steps are those before an arc, its two, and later ones
pub first_split : (i n : ℕ) → i < n → (rest : List ResidualArc) × (residual_arcs_below n ≡ residual_arcs_below i ++ Forward i ∷ Backward i ∷ rest)
first_split i zero l = absurd (omega arith)
first_split i (suc n) l =
    let again : i < n → (rest : List ResidualArc) × (residual_arcs_below n ≡ residual_arcs_below i ++ Forward i ∷ Backward i ∷ rest) = first_split i n in
    let split : (i ≡ n) ⊎ (i < n) = grind arith in
    elim split [
      | inl e ↦ ([], ap (λ k. residual_arcs_below k ++ Forward k ∷ Backward k ∷ []) (sym e))
      | inr m ↦
          let (rest, is) = again m in
          (rest ++ Forward n ∷ Backward n ∷ [], ap (λ xs. xs ++ Forward n ∷ Backward n ∷ []) is ∙ append_assoc (residual_arcs_below i) (Forward i ∷ Backward i ∷ rest) (Forward n ∷ Backward n ∷ []))
    ]

-- the entries of some steps are in their places, and the steps of each node are counted
pub record ArePut (g : ResidualGraph) (flow : List ℕ) (done : List ResidualArc) (counts : List ℕ) (entries : List AdjacencyEntry) : Type 0 where
  pub counted : Counted (network_arcs g) g.node_count done counts
  pub long : length entries ≡ length g.adjacency.now.steps.items
  pub put : (k : ℕ) → k < length g.adjacency.now.steps.items → Contains done (step_at g.adjacency.now.steps.items k)
      → entry_at entries k ≡ adjacency_entry (network_arcs g) flow (step_at g.adjacency.now.steps.items k)

module _ (g : ResidualGraph) where
  abbrev steps : List ResidualArc
  steps = g.adjacency.now.steps.items

  abbrev begin : ℕ → ℕ
  begin v = (span_at g.adjacency.now.spans.items v).begin

  -- a step comes after the earlier steps of its node
  module _ (done rest : List ResidualArc) (s : ResidualArc) (v : ℕ) (known : v < g.node_count) (starts : start (network_arcs g) s ≡ v) (all : residual_arcs_below (length (network_arcs g)) ≡ done ++ s ∷ rest) where
    abbrev place : ℕ
    place = length (steps_from (network_arcs g) v done)

    here : step_at (row_of (network_arcs g) v) place ≡ s
    here =
        ap (λ list. step_at (steps_from (network_arcs g) v list) place) all
        ∙ ap (λ list. step_at list place) (steps_parts (network_arcs g) v done rest s starts)
        ∙ get_or-append_seam (steps_from (network_arcs g) v done) s (steps_from (network_arcs g) v rest) (Forward 0)

    early : place < (span_at g.adjacency.now.spans.items v).end - begin v
    early =
        omega (
          arith,
          room_for (network_arcs g) v done rest s starts,
          ap (λ list. length (steps_from (network_arcs g) v list)) all,
          ap (λ (list : List ResidualArc). length list) (g.kept.row v known),
          row_length steps (span_at g.adjacency.now.spans.items v) (g.kept.inside v known),
        )

    pub lies_within : begin v + place < length steps
    lies_within = omega (arith, early, g.kept.inside v known)

    pub lies : step_at steps (begin v + place) ≡ s
    lies = sym (at_row steps (span_at g.adjacency.now.spans.items v) place (Forward 0) early) ∙ ap (λ list. step_at list place) (g.kept.row v known) ∙ here

    module _ (flow counts : List ℕ) (entries : List AdjacencyEntry) (are : ArePut g flow done counts entries) where
      abbrev at : ℕ
      at = begin v + get_or counts v 0

      at_is : at ≡ begin v + place
      at_is = ap (λ n. begin v + n) (are.counted.each v known)

      pub put_within : at < length entries
      put_within = omega (arith, at_is, lies_within, are.long)

      pub put_bounded : get_or counts v 0 < 4294967296
      put_bounded = omega (arith, are.counted.each v known, lies_within, g.kept.steps.count, g.kept.steps.count_within_max)

      step_there : step_at steps at ≡ s
      step_there = ap (step_at steps) at_is ∙ lies

      pub put_more : (a : AdjacencyEntry) → a ≡ adjacency_entry (network_arcs g) flow s → ArePut g flow (done ++ s ∷ []) (set counts v (get_or counts v 0 + 1)) (set entries at a)
      put_more a is = record {
        counted = counted_more s starts known (get_or_default counts v 0 (get_or counts v 0) (omega (arith, are.counted.count))) are.counted;
        long = length-set entries at a ∙ are.long;
        put = λ k l c. elim (cases_eq k at) [
          | inl e ↦
              ap (entry_at (set entries at a)) e ∙ get_or-set_same entries at a (entry_at [] 0) put_within ∙ is
              ∙ ap (adjacency_entry (network_arcs g) flow) (sym step_there ∙ ap (step_at steps) (sym e))
          | inr ne ↦
              get_or-set_other entries at k a (entry_at [] 0) ne
              ∙ are.put k l (⊎_elim (λ old. old) (λ same. absurd (ne (g.kept.steps.once k at l (omega (arith, put_within, are.long)) (sym same ∙ sym step_there)))) (Contains-push_cases done s (step_at steps k) c))
        ];
      }

  pub all_put : (flow counts : List ℕ) (entries : List AdjacencyEntry) → ArePut g flow (residual_arcs_below (length (network_arcs g))) counts entries → AreEntries g flow entries
  all_put flow counts entries are =
      ext_get_or (entry_at [] 0) entries (map (adjacency_entry (network_arcs g) flow) steps) (are.long ∙ sym (length-map steps (adjacency_entry (network_arcs g) flow))) (λ k l.
      let inside : k < length steps = omega (arith, are.long) in
      are.put k inside (first_all (length (network_arcs g)) (step_at steps k) (g.kept.steps.arc_in_range k inside))
      ∙ sym (get_or-map (adjacency_entry (network_arcs g) flow) steps k (Forward 0) (entry_at [] 0) inside))

  -- the two steps of an arc
  module _ (flow counts : List ℕ) (entries : List AdjacencyEntry) (i : ℕ) (l : i < length (network_arcs g)) (are : ArePut g flow (residual_arcs_below i) counts entries) (arc : Arc) (is : arc ≡ arc_at (network_arcs g) i) (x : ℕ) (x_is : x ≡ amount_at flow i) where
    split : (rest : List ResidualArc) × (residual_arcs_below (length (network_arcs g)) ≡ residual_arcs_below i ++ Forward i ∷ Backward i ∷ rest)
    split = first_split i (length (network_arcs g)) l

    known_from : arc.from < g.node_count
    known_from = rw is ((g.kept.is_network.ends i l).0)

    known_to : arc.to < g.node_count
    known_to = rw is ((g.kept.is_network.ends i l).1)

    starts_along : start (network_arcs g) (Forward i) ≡ arc.from
    starts_along = ap (λ a. a.from) (sym is)

    starts_against : start (network_arcs g) (Backward i) ≡ arc.to
    starts_against = ap (λ a. a.to) (sym is)

    pub along_within : begin arc.from + get_or counts arc.from 0 < length entries
    along_within = put_within (residual_arcs_below i) (Backward i ∷ split.0) (Forward i) arc.from known_from starts_along split.1 flow counts entries are

    pub along_bounded : get_or counts arc.from 0 < 4294967296
    along_bounded = put_bounded (residual_arcs_below i) (Backward i ∷ split.0) (Forward i) arc.from known_from starts_along split.1 flow counts entries are

    module _ (counts_along : List ℕ) (entries_along : List AdjacencyEntry) (a : AdjacencyEntry) (a_is : a ≡ record { to = arc.to; has_residual = within 1 (left_of arc.capacity x); opposite_has_residual = within 1 (Some x) }) (c : counts_along ≡ set counts arc.from (get_or counts arc.from 0 + 1)) (e : entries_along ≡ set entries (begin arc.from + get_or counts arc.from 0) a) where
      after_along : ArePut g flow (residual_arcs_below i ++ Forward i ∷ []) counts_along entries_along
      after_along =
          subst (λ cs. ArePut g flow (residual_arcs_below i ++ Forward i ∷ []) cs entries_along) (sym c)
          (subst (ArePut g flow (residual_arcs_below i ++ Forward i ∷ []) (set counts arc.from (get_or counts arc.from 0 + 1))) (sym e)
          (put_more (residual_arcs_below i) (Backward i ∷ split.0) (Forward i) arc.from known_from starts_along split.1 flow counts entries are a (a_is ∙ along_is (network_arcs g) flow i x arc is x_is)))

      later : residual_arcs_below (length (network_arcs g)) ≡ (residual_arcs_below i ++ Forward i ∷ []) ++ Backward i ∷ split.0
      later = split.1 ∙ sym (append_assoc (residual_arcs_below i) (Forward i ∷ []) (Backward i ∷ split.0))

      pub against_within : begin arc.to + get_or counts_along arc.to 0 < length entries_along
      against_within = put_within (residual_arcs_below i ++ Forward i ∷ []) split.0 (Backward i) arc.to known_to starts_against later flow counts_along entries_along after_along

      pub against_bounded : get_or counts_along arc.to 0 < 4294967296
      against_bounded = put_bounded (residual_arcs_below i ++ Forward i ∷ []) split.0 (Backward i) arc.to known_to starts_against later flow counts_along entries_along after_along

      pub put_both : (counts_now : List ℕ) (entries_now : List AdjacencyEntry) (b : AdjacencyEntry) → b ≡ record { to = arc.from; has_residual = within 1 (Some x); opposite_has_residual = within 1 (left_of arc.capacity x) } → counts_now ≡ set counts_along arc.to (get_or counts_along arc.to 0 + 1) → entries_now ≡ set entries_along (begin arc.to + get_or counts_along arc.to 0) b → ArePut g flow (residual_arcs_below (i + 1)) counts_now entries_now
      put_both counts_now entries_now b b_is d f =
          subst (λ done. ArePut g flow done counts_now entries_now) (first_next i)
          (subst (λ cs. ArePut g flow ((residual_arcs_below i ++ Forward i ∷ []) ++ Backward i ∷ []) cs entries_now) (sym d)
          (subst (ArePut g flow ((residual_arcs_below i ++ Forward i ∷ []) ++ Backward i ∷ []) (set counts_along arc.to (get_or counts_along arc.to 0 + 1))) (sym f)
          (put_more (residual_arcs_below i ++ Forward i ∷ []) split.0 (Backward i) arc.to known_to starts_against later flow counts_along entries_along after_along b (b_is ∙ against_is (network_arcs g) flow i x arc is x_is))))
