-- Steps of updates in a serial order: writers of an item in a row are pairs.
use Rattle.std.proofs.Common.{◌≡◌, ℕ, zero, suc, ◌+◌, ◌<◌, ◌≤◌, ℤ, Bool, true, false, List, [], ◌∷◌, length, get_or, refl, sym, ◌∙◌, ap, subst, arith, inl, inr, ⊎_elim, filter, eqb, cond, map, Some, ◌&&◌, ◌==◌, AllPairs, Contains, is_some}
use Rattle.std.specs.List.{last_or}
use Rattle.std.proofs.lemmas.Bool.{true≢false, cases_order, cases_eq, eqb-true, eq-eqb}
use Rattle.esr_history.proofs.Membership.{In, In-Contains, In-filter, Pairs, each_at, filter-some}
use Rattle.esr_order.specs.UpdateOperations.{UpdateOperation}
use Rattle.esr_order.specs.Conflicts.{AreNextPaired}
use Rattle.esr_order.specs.Chains.{last_of, last_in}
use Rattle.esr_order.proofs.Kept.{on, writes_in}

pub writes_on : (x : ℕ) (ss : List UpdateOperation) → writes_in (on x ss) ≡ filter (λ s. s.writes && (s.item == x)) ss
writes_on x [] = refl
writes_on x (s ∷ ss) = at (eqb s.item x) s.writes (writes_on x ss)
  where
    at : (b w : Bool) → writes_in (on x ss) ≡ filter (λ s. s.writes && (s.item == x)) ss
        → filter (λ (s : UpdateOperation). s.writes) (cond b (s ∷ on x ss) (on x ss)) ≡ cond (s.writes && b) (s ∷ filter (λ s. s.writes && (s.item == x)) ss) (filter (λ s. s.writes && (s.item == x)) ss)
    at true w rest = ap (λ l. cond s.writes (s ∷ l) l) rest ∙ both s.writes
      where
        both : (w : Bool) → cond w (s ∷ filter (λ s. s.writes && (s.item == x)) ss) (filter (λ s. s.writes && (s.item == x)) ss) ≡ cond (w && true) (s ∷ filter (λ s. s.writes && (s.item == x)) ss) (filter (λ s. s.writes && (s.item == x)) ss)
        both true = refl
        both false = refl
    at false w rest = rest ∙ none s.writes
      where
        none : (w : Bool) → filter (λ s. s.writes && (s.item == x)) ss ≡ cond (w && false) (s ∷ filter (λ s. s.writes && (s.item == x)) ss) (filter (λ s. s.writes && (s.item == x)) ss)
        none true = refl
        none false = refl

-- of two positions that wrote with none between, the pair is there
pub between : (ws : List UpdateOperation) (ps : List (ℕ × ℕ)) → AreNextPaired ps ws → Pairs (λ a b. a.update_index ≤ b.update_index) ws → (v w : ℕ) → v < w → (a : UpdateOperation) → In a ws → a.update_index ≡ v → (b : UpdateOperation) → In b ws → b.update_index ≡ w
    → ((s : UpdateOperation) → In s ws → v < s.update_index → w ≤ s.update_index) → Contains ps (v, w)
between [] ps n r v w lt a ia av b ib bw none = absurd ia
between (c ∷ []) ps n r v w lt a ia av b ib bw none =
    ⊎_elim (λ ea. ⊎_elim (λ eb. let same : v ≡ w = sym av ∙ (ap (λ s. s.update_index) (sym ea) ∙ (ap (λ s. s.update_index) eb ∙ bw)) in absurd (omega arith)) (λ z. absurd z) ib) (λ z. absurd z) ia
between (c ∷ d ∷ ws) ps n r v w lt a ia av b ib bw none =
    let more : (a : UpdateOperation) → In a (d ∷ ws) → a.update_index ≡ v → In b (d ∷ ws) → Contains ps (v, w) =
    λ a ja av jb. between (d ∷ ws) ps n.1 r.1 v w lt a ja av b jb bw (λ s i. none s (inr i)) in
    ⊎_elim
    (λ ea.
    let cv : c.update_index ≡ v = ap (λ s. s.update_index) ea ∙ av in
    ⊎_elim
    (λ eb. let same : v ≡ w = sym cv ∙ (ap (λ s. s.update_index) eb ∙ bw) in absurd (omega arith))
    (λ jb. ⊎_elim
    (λ dv. more d (inl refl) dv jb)
    (λ dne.
    let low : c.update_index ≤ d.update_index = r.0.0 in
    let up : w ≤ d.update_index = none d (inr (inl refl)) (above v d.update_index (subst (λ z. z ≤ d.update_index) cv low) dne) in
    let down : d.update_index ≤ w = ⊎_elim (λ e. let same : d.update_index ≡ w = ap (λ s. s.update_index) e ∙ bw in omega (arith, same)) (λ k. subst (λ z. d.update_index ≤ z) bw (each_at (λ (t : UpdateOperation). d.update_index ≤ t.update_index) ws b r.1.0 k)) jb in
    let dw : d.update_index ≡ w = omega (arith, up, down) in
    subst (λ z. Contains ps (z, w)) cv (subst (λ z. Contains ps (c.update_index, z)) dw (n.0 (λ e. dne (sym e ∙ cv)))))
    (cases_eq d.update_index v))
    ib)
    (λ ja. ⊎_elim
    (λ eb. let l : c.update_index ≤ a.update_index = each_at (λ (t : UpdateOperation). c.update_index ≤ t.update_index) (d ∷ ws) a r.0 ja in let cw : c.update_index ≡ w = ap (λ s. s.update_index) eb ∙ bw in absurd (omega (arith, l, av, cw, lt)))
    (λ jb. more a ja av jb)
    ib)
    ia
  where
    above : (m k : ℕ) → m ≤ k → (k ≡ m → ⊥) → m < k
    above m k l ne = ⊎_elim (λ e. absurd (ne e)) (λ o. ⊎_elim (λ x. absurd (omega (arith, x, l))) (λ x. x) o) (cases_order k m)

-- an update has a last value if and only if it wrote
last_or_some : (x : ℤ) (xs : List ℤ) → is_some (last_or (Some x) xs) ≡ true
last_or_some x [] = refl
last_or_some x (y ∷ xs) = last_or_some y xs

some_last : (xs : List ℤ) → (xs ≡ [] → ⊥) → is_some (last_of xs) ≡ true
some_last [] ne = absurd (ne refl)
some_last (x ∷ xs) ne = last_or_some x xs

pub wrote_last : (ws : List UpdateOperation) (s : UpdateOperation) → In s ws → is_some (last_in ws s.update_index) ≡ true
wrote_last ws s i = some_last (map (λ (s : UpdateOperation). s.value) (filter (λ (t : UpdateOperation). t.update_index == s.update_index) ws)) (there (filter (λ (t : UpdateOperation). t.update_index == s.update_index) ws) (In-filter (λ (t : UpdateOperation). t.update_index == s.update_index) ws s i (eq-eqb s.update_index s.update_index refl)))
  where
    there : (l : List UpdateOperation) → In s l → map (λ (s : UpdateOperation). s.value) l ≡ [] → ⊥
    there [] i e = i
    there (t ∷ l) i e = cc

pub last_wrote : (ws : List UpdateOperation) (i : ℕ) → is_some (last_in ws i) ≡ true → (s : UpdateOperation) × In s ws × (s.update_index ≡ i)
last_wrote ws i some =
    let r = filter-some (λ (s : UpdateOperation). s.update_index == i) ws (λ e. true≢false (sym some ∙ ap (λ l. is_some (last_of (map (λ (s : UpdateOperation). s.value) l))) e)) in
    (r.0, r.1, eqb-true r.0.update_index i r.2)

-- the element after one in a rising list is at most each that is above that one
pub next_in : (xs : List ℕ) → AllPairs (λ i j. i < j) xs → (k : ℕ) → k + 1 < length xs → (y : ℕ) → In y xs → get_or xs k 0 < y → get_or xs (k + 1) 0 ≤ y
next_in xs rising k l y i above =
    let c = In-Contains xs y i in
    let at : get_or xs c.0 0 ≡ y = same xs c.0 0 y c.1 ∙ c.2 in
    ⊎_elim (λ e. let z : get_or xs (k + 1) 0 ≡ y = ap (λ m. get_or xs m 0) (sym e) ∙ at in omega (arith, z))
    (λ ne. ⊎_elim
    (λ lt. absurd (⊎_elim
    (λ e. let z : get_or xs k 0 ≡ y = ap (λ m. get_or xs m 0) (sym e) ∙ at in omega (arith, z, above))
    (λ o. ⊎_elim (λ b. let z : get_or xs c.0 0 < get_or xs k 0 = rising c.0 k 0 b (omega arith) in omega (arith, z, at, above)) (λ b. omega (arith, b, lt)) o)
    (cases_order c.0 k)))
    (λ gt. let z : get_or xs (k + 1) 0 < get_or xs c.0 0 = rising (k + 1) c.0 0 gt c.1 in omega (arith, z, at))
    ne)
    (cases_order c.0 (k + 1))
  where
    same : (xs : List ℕ) (k d e : ℕ) → k < length xs → get_or xs k d ≡ get_or xs k e
    same [] k d e h = absurd (omega arith)
    same (x ∷ xs) zero d e h = refl
    same (x ∷ xs) (suc k) d e h = same xs k d e (omega arith)
