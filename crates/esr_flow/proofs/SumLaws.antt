-- The inflow and the outflow of a node, summed arc by arc.
use Rattle.std.proofs.Common.{◌≡◌, ℕ, ◌+◌, ◌<◌, Bool, true, false, cond, eqb, List, [], ◌∷◌, ◌++◌, length, get_or, set, take, refl, sym, ap, ◌∙◌, inl, inr, arith, get_or-set_other, get_or-set_same, eq-eqb, ne_eqb, Some}
use Rattle.std.proofs.lemmas.Bool.{cases_eq}
use Rattle.std.proofs.lemmas.List.{take_more, length-take-le}
use Rattle.esr_flow.specs.Types.{Arc}
use Rattle.esr_cert.specs.Network.{arc_at}
use Rattle.esr_cert.specs.Flow.{amount_at, carried}
use Rattle.esr_cert.proofs.Flows.{carried_append}

module _ (arcs : List Arc) (flow : List ℕ) (same : length flow ≡ length arcs) (i : ℕ) (arc_in_range : i < length arcs) where
  carried_more : (q : Arc → Bool) → carried q (take (i + 1) arcs) (take (i + 1) flow) ≡ carried q (take i arcs) (take i flow) + cond {A = ℕ} (q (arc_at arcs i)) (amount_at flow i) 0
  carried_more q =
      let more_arcs = take_more arcs i (record { from = 0; to = 0; capacity = Some 0 }) arc_in_range in
      let more_flow = take_more flow i 0 (omega arith) in
      let both = carried_append q (take i arcs) (arc_at arcs i ∷ []) (take i flow) (amount_at flow i ∷ []) (omega (arith, length-take-le i arcs (omega arith), length-take-le i flow (omega arith))) in
      omega (
        arith,
        ap (λ xs. carried q xs (take (i + 1) flow)) more_arcs,
        ap (carried q (take i arcs ++ arc_at arcs i ∷ [])) more_flow,
        both,
      )

  -- the sums by one end of the arcs, with one arc more
  pub sums_more : (end : Arc → ℕ) (sums after : List ℕ) (node_count : ℕ) → length sums ≡ node_count → end (arc_at arcs i) < node_count → after ≡ set sums (end (arc_at arcs i)) (get_or sums (end (arc_at arcs i)) 0 + amount_at flow i)
      → ((v : ℕ) → v < node_count → get_or sums v 0 ≡ carried (λ a. eqb (end a) v) (take i arcs) (take i flow)) → (v : ℕ) → v < node_count → get_or after v 0 ≡ carried (λ a. eqb (end a) v) (take (i + 1) arcs) (take (i + 1) flow)
  sums_more end sums after node_count long inside is so_far v l =
      let node = end (arc_at arcs i) in
      let more = carried_more (λ a. eqb (end a) v) in
      elim (cases_eq v node) [
        | inl e ↦
            let here = get_or-set_same sums node (get_or sums node 0 + amount_at flow i) 0 (omega arith) in
            let one : cond {A = ℕ} (eqb node v) (amount_at flow i) 0 ≡ amount_at flow i = ap (λ b. cond {A = ℕ} b (amount_at flow i) 0) (eq-eqb node v (sym e)) in
            omega (arith, ap (λ l. get_or l v 0) is, ap (λ n. get_or (set sums node (get_or sums node 0 + amount_at flow i)) n 0) e, here, ap (λ n. get_or sums n 0) e, so_far v l, more, one)
        | inr ne ↦
            let other = get_or-set_other sums node v (get_or sums node 0 + amount_at flow i) 0 ne in
            let none : cond {A = ℕ} (eqb node v) (amount_at flow i) 0 ≡ 0 = ap (λ b. cond {A = ℕ} b (amount_at flow i) 0) (ne_eqb node v (λ q. ne (sym q))) in
            omega (arith, ap (λ l. get_or l v 0) is, other, so_far v l, more, none)
      ]

  nothing : (b : Bool) → cond {A = ℕ} b 0 0 ≡ 0
  nothing true = refl
  nothing false = refl

  -- with an arc more that carries nothing
  pub sums_same : (end : Arc → ℕ) (sums : List ℕ) (node_count : ℕ) → amount_at flow i ≡ 0 → ((v : ℕ) → v < node_count → get_or sums v 0 ≡ carried (λ a. eqb (end a) v) (take i arcs) (take i flow))
      → (v : ℕ) → v < node_count → get_or sums v 0 ≡ carried (λ a. eqb (end a) v) (take (i + 1) arcs) (take (i + 1) flow)
  sums_same end sums node_count none so_far v l =
      let more = carried_more (λ a. eqb (end a) v) in
      let here = eqb (end (arc_at arcs i)) v in
      let zero : cond {A = ℕ} here (amount_at flow i) 0 ≡ 0 = ap (λ n. cond {A = ℕ} here n 0) none ∙ nothing here in
      omega (arith, so_far v l, more, zero)
