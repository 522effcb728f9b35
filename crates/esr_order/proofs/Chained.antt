-- A chain in reverse order, reversed, is the chain of the operations.
use Rattle.std.proofs.Common.{◌≡◌, ℕ, zero, suc, ◌+◌, ◌<◌, ◌≤◌, ℤ, Bool, true, false, List, [], ◌∷◌, ◌++◌, refl, sym, ◌∙◌, ap, arith, inl, inr, ⊎_elim, filter, eqb, cond, map, ◌&&◌, Option, Some, None, ◌==◌, is_some}
use Rattle.std.specs.List.{filter_map, cons_option, range_with_len}
use Rattle.std.proofs.lemmas.Bool.{eq-eqb, ne_eqb, eqb-true, eqb-false, cases_order}
use Rattle.std.proofs.lemmas.List.{reverse-append}
use Rattle.esr_history.proofs.Membership.{In, In-of_filter, Pairs, Pairs-filter, each_at, filter_none_in}
use Rattle.esr_order.specs.UpdateOperations.{UpdateOperation}
use Rattle.esr_order.specs.Chains.{Chain, chain_from, last_in, last_of, last_by_update, latest_writer, is_latest, with_write, reversed_chain}
use Rattle.esr_order.specs.Later.{no_one, chain_back}
use Rattle.esr_order.proofs.Kept.{last_put}
use Rattle.esr_order.proofs.Placing.{chain_agree}

-- the chain with one position more, before all others
module _ (f g : ℕ → Option ℤ) (a : ℕ) (v : ℤ) (here : g a ≡ Some v) (before : (i : ℕ) → i ≤ a → f i ≡ None) (same : (i : ℕ) → (a ≡ i → ⊥) → g i ≡ f i) where
  writers : (b m : ℕ) → b ≤ a → a < b + m → filter (λ i. is_some (g i)) (range_with_len b m) ≡ a ∷ filter (λ i. is_some (f i)) (range_with_len b m)
  writers b zero low high = absurd (omega (arith, low, high))
  writers b (suc m) low high = ⊎_elim
      (λ e.
      ap (λ o. cond (is_some o) (b ∷ filter (λ i. is_some (g i)) (range_with_len (b + 1) m)) (filter (λ i. is_some (g i)) (range_with_len (b + 1) m))) (ap g (sym e) ∙ here)
      ∙ (ap (λ l. b ∷ l) (rest (b + 1) m (omega (arith, e)))
      ∙ (ap (λ i. i ∷ filter (λ i. is_some (f i)) (range_with_len (b + 1) m)) (sym e)
      ∙ ap (λ o. a ∷ cond (is_some o) (b ∷ filter (λ i. is_some (f i)) (range_with_len (b + 1) m)) (filter (λ i. is_some (f i)) (range_with_len (b + 1) m))) (sym (before b low)))))
      (λ ne. ⊎_elim
      (λ lt. absurd (omega (arith, lt, low)))
      (λ gt.
      ap (λ o. cond (is_some o) (b ∷ filter (λ i. is_some (g i)) (range_with_len (b + 1) m)) (filter (λ i. is_some (g i)) (range_with_len (b + 1) m))) (same b (λ e. absurd (omega (arith, e, gt))) ∙ before b low)
      ∙ (writers (b + 1) m (omega (arith, gt)) (omega (arith, high))
      ∙ ap (λ o. a ∷ cond (is_some o) (b ∷ filter (λ i. is_some (f i)) (range_with_len (b + 1) m)) (filter (λ i. is_some (f i)) (range_with_len (b + 1) m))) (sym (before b low))))
      ne)
      (cases_order a b)
    where
      rest : (b m : ℕ) → a < b → filter (λ i. is_some (g i)) (range_with_len b m) ≡ filter (λ i. is_some (f i)) (range_with_len b m)
      rest b zero lt = refl
      rest b (suc m) lt =
          ap (λ o. cond (is_some o) (b ∷ filter (λ i. is_some (g i)) (range_with_len (b + 1) m)) (filter (λ i. is_some (g i)) (range_with_len (b + 1) m))) (same b (λ e. absurd (omega (arith, e, lt))))
          ∙ ap (λ l. cond (is_some (f b)) (b ∷ l) l) (rest (b + 1) m (omega (arith, lt)))

  values : (b m : ℕ) → b ≤ a → a < b + m → filter_map g (range_with_len b m) ≡ v ∷ filter_map f (range_with_len b m)
  values b zero low high = absurd (omega (arith, low, high))
  values b (suc m) low high = ⊎_elim
      (λ e.
      ap (λ o. cons_option o (filter_map g (range_with_len (b + 1) m))) (ap g (sym e) ∙ here)
      ∙ (ap (λ l. v ∷ l) (rest (b + 1) m (omega (arith, e)))
      ∙ ap (λ o. v ∷ cons_option o (filter_map f (range_with_len (b + 1) m))) (sym (before b low))))
      (λ ne. ⊎_elim
      (λ lt. absurd (omega (arith, lt, low)))
      (λ gt.
      ap (λ o. cons_option o (filter_map g (range_with_len (b + 1) m))) (same b (λ e. absurd (omega (arith, e, gt))) ∙ before b low)
      ∙ (values (b + 1) m (omega (arith, gt)) (omega (arith, high))
      ∙ ap (λ o. v ∷ cons_option o (filter_map f (range_with_len (b + 1) m))) (sym (before b low))))
      ne)
      (cases_order a b)
    where
      rest : (b m : ℕ) → a < b → filter_map g (range_with_len b m) ≡ filter_map f (range_with_len b m)
      rest b zero lt = refl
      rest b (suc m) lt =
          ap (λ o. cons_option o (filter_map g (range_with_len (b + 1) m))) (same b (λ e. absurd (omega (arith, e, lt)))) ∙ ap (cons_option (f b)) (rest (b + 1) m (omega (arith, lt)))

  pub chain_first : (n : ℕ) → a < n → record { writers = a ∷ (chain_from f n).writers; values = v ∷ (chain_from f n).values } ≡ chain_from g n
  chain_first n below = λ k. record { writers = sym (writers 0 n (omega arith) (omega (arith, below))) k; values = sym (values 0 n (omega arith) (omega (arith, below))) k }

none_from : (n : ℕ) → no_one ≡ chain_from (λ i. None) n
none_from n = λ k. record { writers = sym (ws 0 n) k; values = sym (vs 0 n) k }
  where
    none : ℕ → Option ℤ
    none i = None

    ws : (b m : ℕ) → filter (λ i. is_some (none i)) (range_with_len b m) ≡ []
    ws b zero = refl
    ws b (suc m) = ws (b + 1) m

    vs : (b m : ℕ) → filter_map none (range_with_len b m) ≡ []
    vs b zero = refl
    vs b (suc m) = vs (b + 1) m

-- the chain of some writes of one item, back from the last
abbrev back : List UpdateOperation → Chain
back [] = no_one
back (w ∷ ws) = with_write (back ws) w.update_index w.value

abbrev writes_of : ℕ → List UpdateOperation → List UpdateOperation
writes_of x ss = filter (λ (s : UpdateOperation). s.writes && (s.item == x)) ss

chain_of_writes : (x : ℕ) (ss : List UpdateOperation) → chain_back x ss ≡ back (writes_of x ss)
chain_of_writes x [] = refl
chain_of_writes x (s ∷ ss) = at (eqb s.item x) s.writes (chain_of_writes x ss)
  where
    at : (here writes : Bool) → chain_back x ss ≡ back (writes_of x ss)
        → cond here (cond writes (with_write (chain_back x ss) s.update_index s.value) (chain_back x ss)) (chain_back x ss) ≡ back (cond (writes && here) (s ∷ writes_of x ss) (writes_of x ss))
    at true true rest = ap (λ c. with_write c s.update_index s.value) rest
    at true false rest = rest
    at false true rest = rest
    at false false rest = rest

-- the last write of the update at a position, with a write before it
last_more : (w : UpdateOperation) (ws : List UpdateOperation) (i : ℕ) → (w.update_index ≡ i → ⊥) → last_in (w ∷ ws) i ≡ last_in ws i
last_more w ws i ne = ap (λ b. last_of (map (λ (s : UpdateOperation). s.value) (cond b (w ∷ filter (λ (s : UpdateOperation). s.update_index == i) ws) (filter (λ (s : UpdateOperation). s.update_index == i) ws)))) (ne_eqb w.update_index i ne)

last_covered : (w v : UpdateOperation) (ws : List UpdateOperation) → v.update_index ≡ w.update_index → (i : ℕ) → last_in (w ∷ v ∷ ws) i ≡ last_in (v ∷ ws) i
last_covered w v ws e i = at (eqb w.update_index i) (eqb v.update_index i) (ap (λ p. eqb p i) e)
  where
    own : List UpdateOperation
    own = filter (λ (s : UpdateOperation). s.update_index == i) ws

    at : (a b : Bool) → b ≡ a → last_of (map (λ (s : UpdateOperation). s.value) (cond a (w ∷ cond b (v ∷ own) own) (cond b (v ∷ own) own))) ≡ last_of (map (λ (s : UpdateOperation). s.value) (cond b (v ∷ own) own))
    at true true same = refl
    at true false same = absurd (cc)
    at false b same = refl

first_of : (w : UpdateOperation) (ws : List UpdateOperation) → ((s : UpdateOperation) → In s ws → w.update_index < s.update_index) → last_in (w ∷ ws) w.update_index ≡ Some w.value
first_of w ws above =
    ap (λ b. last_of (map (λ (s : UpdateOperation). s.value) (cond b (w ∷ filter (λ (s : UpdateOperation). s.update_index == w.update_index) ws) (filter (λ (s : UpdateOperation). s.update_index == w.update_index) ws)))) (eq-eqb w.update_index w.update_index refl)
    ∙ ap (λ l. last_of (w.value ∷ map (λ (s : UpdateOperation). s.value) l)) (filter_none_in (λ (s : UpdateOperation). s.update_index == w.update_index) ws (λ s i. ne_eqb s.update_index w.update_index (λ e. let l : w.update_index < s.update_index = above s i in absurd (omega (arith, e, l)))))

none_before : (w : UpdateOperation) (ws : List UpdateOperation) → ((s : UpdateOperation) → In s ws → w.update_index < s.update_index) → (i : ℕ) → i ≤ w.update_index → last_in ws i ≡ None
none_before w ws above i l =
    ap (λ l. last_of (map (λ (s : UpdateOperation). s.value) l)) (filter_none_in (λ (s : UpdateOperation). s.update_index == i) ws (λ s j. ne_eqb s.update_index i (λ e. let m : w.update_index < s.update_index = above s j in absurd (omega (arith, e, l, m)))))

reversed_more : (c : Chain) (i : ℕ) (v : ℤ) → reversed_chain (record { writers = c.writers ++ i ∷ []; values = c.values ++ v ∷ [] }) ≡ record { writers = i ∷ (reversed_chain c).writers; values = v ∷ (reversed_chain c).values }
reversed_more c i v = λ k. record { writers = reverse-append c.writers (i ∷ []) k; values = reverse-append c.values (v ∷ []) k }

module _ (n : ℕ) where
  reversed_first : (w : UpdateOperation) (ws : List UpdateOperation) → w.update_index < n → is_latest (latest_writer (back ws)) w.update_index ≡ false → ((s : UpdateOperation) → In s ws → w.update_index < s.update_index) → reversed_chain (back ws) ≡ chain_from (last_in ws) n
      → reversed_chain (back (w ∷ ws)) ≡ chain_from (last_in (w ∷ ws)) n
  reversed_first w ws below other above so_far =
      ap (λ b. reversed_chain (cond b (back ws) (record { writers = (back ws).writers ++ w.update_index ∷ []; values = (back ws).values ++ w.value ∷ [] }))) other
      ∙ (reversed_more (back ws) w.update_index w.value
      ∙ (ap (λ (c : Chain). record { writers = w.update_index ∷ c.writers; values = w.value ∷ c.values }) so_far
      ∙ chain_first (last_in ws) (last_in (w ∷ ws)) w.update_index w.value (first_of w ws above) (none_before w ws above) (last_more w ws) n below))

  reversed_back : (ws : List UpdateOperation) → Pairs (λ a b. a.update_index ≤ b.update_index) ws → ((s : UpdateOperation) → In s ws → s.update_index < n) → reversed_chain (back ws) ≡ chain_from (last_in ws) n
  reversed_back [] rise below = none_from n
  reversed_back (w ∷ []) rise below = reversed_first w [] (below w (inl refl)) refl (λ s i. absurd i) (reversed_back [] tt (λ s i. absurd i))
  reversed_back (w ∷ v ∷ ws) rise below = at (eqb v.update_index w.update_index) refl (reversed_back (v ∷ ws) rise.1 (λ s i. below s (inr i)))
    where
      known : is_latest (latest_writer (back (v ∷ ws))) w.update_index ≡ eqb v.update_index w.update_index
      known = ap (λ o. is_latest o w.update_index) (last_put (back ws) v.update_index v.value)

      at : (b : Bool) → eqb v.update_index w.update_index ≡ b → reversed_chain (back (v ∷ ws)) ≡ chain_from (last_in (v ∷ ws)) n → reversed_chain (back (w ∷ v ∷ ws)) ≡ chain_from (last_in (w ∷ v ∷ ws)) n
      at true is rest =
          ap (λ b. reversed_chain (cond b (back (v ∷ ws)) (record { writers = (back (v ∷ ws)).writers ++ w.update_index ∷ []; values = (back (v ∷ ws)).values ++ w.value ∷ [] }))) (known ∙ is)
          ∙ (rest ∙ chain_agree (last_in (v ∷ ws)) (last_in (w ∷ v ∷ ws)) n (λ i l. sym (last_covered w v ws (eqb-true v.update_index w.update_index is) i)))
      at false is rest =
          let low : w.update_index ≤ v.update_index = rise.0.0 in
          let lt : w.update_index < v.update_index = ⊎_elim (λ e. absurd (eqb-false v.update_index w.update_index is (sym e))) (λ o. ⊎_elim (λ l. l) (λ g. absurd (omega (arith, g, low))) o) (cases_order w.update_index v.update_index) in
          reversed_first w (v ∷ ws) (below w (inl refl)) (known ∙ is)
          (λ s i. ⊎_elim (λ e. let z : v.update_index ≡ s.update_index = ap (λ (s : UpdateOperation). s.update_index) e in omega (arith, z, lt)) (λ j. let m : v.update_index ≤ s.update_index = each_at (λ (t : UpdateOperation). v.update_index ≤ t.update_index) ws s rise.1.0 j in omega (arith, m, lt)) i)
          rest

pub chain_reversed : (x n : ℕ) (ss : List UpdateOperation) → Pairs (λ a b. a.update_index ≤ b.update_index) ss → ((s : UpdateOperation) → In s ss → s.update_index < n) → reversed_chain (chain_back x ss) ≡ chain_from (last_by_update ss x) n
chain_reversed x n ss rise below =
    ap reversed_chain (chain_of_writes x ss)
    ∙ reversed_back n (writes_of x ss) (Pairs-filter (λ (a b : UpdateOperation). a.update_index ≤ b.update_index) (λ (s : UpdateOperation). s.writes && (s.item == x)) ss rise) (λ s i. below s (In-of_filter (λ (s : UpdateOperation). s.writes && (s.item == x)) ss s i).0)
