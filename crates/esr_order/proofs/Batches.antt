-- The operations of updates, one update after another, agree with the operations of the history.
use Rattle.std.proofs.Common.{◌≡◌, ◌≢◌, ℕ, zero, suc, ◌+◌, ◌<◌, ◌≤◌, Bool, true, false, not, ◌&&◌, ◌||◌, List, [], ◌∷◌, ◌++◌, length, map, filter, refl, sym, ◌∙◌, ap, subst, arith, ⊎_elim, All, AllPairs, eqb, cond, append-nil, length-append}
use Rattle.std.specs.Prelude.{⊤}
use Rattle.std.proofs.lemmas.Bool.{true≢false, cases_order, and_parts, and_from, eqb-true, eq-eqb, ne_eqb, eqb-false, not-true}
use Rattle.std.proofs.lemmas.List.Elements.{All-contains, All-from_recursion, filter-append}
use Rattle.esr_history.specs.Machine.{Schedule}
use Rattle.esr_history.specs.Operations.{Operation, operations}
use Rattle.esr_history.specs.Serial.{any_ordered_pair, conflict, is_before}
use Rattle.esr_history.proofs.Membership.{In, In-Contains, In-append_cases, In-append_left, In-append_right, In-filter, In-of_filter, In-from_any, Pairs, Pairs-append, each_in, each_at, filter_none_in}
use Rattle.esr_history.proofs.Versions.{wrote_by, conflict_of}
use Rattle.esr_order.specs.UpdateOperations.{UpdateOperation}
use Rattle.esr_order.specs.Placements.{is_among}
use Rattle.esr_order.specs.ConflictPairs.{operations_conflict, is_conflict_pair}
use Rattle.esr_order.specs.Batches.{placed_operation, batch, batches}
use Rattle.esr_order.specs.Chains.{last_of, last_by_update, nth}
use Rattle.esr_order.proofs.Writers.{pair_total}
use Rattle.esr_order.proofs.Kept.{clash_parts, clash_from}
use Rattle.esr_order.proofs.Lists.{in_map, of_map, filter_all_in, same_truth, pair_parts, any_two}

abbrev by : ℕ → Operation → Bool
by t o = eqb o.txn t

abbrev in_place : ℕ → UpdateOperation → Bool
in_place i s = eqb s.update_index i

-- no update is before itself
pub not_before_itself : (ops : List Operation) (u : ℕ) → any_ordered_pair (λ a b. eqb a.txn u && (eqb b.txn u && conflict a b)) ops ≡ true → ⊥
not_before_itself ops u h =
    let w = pair_parts (λ a b. ⊤) (λ (a b : Operation). eqb a.txn u && (eqb b.txn u && conflict a b)) ops (any_two ops) h in
    let p = and_parts (eqb w.0.txn u) (eqb w.1.txn u && conflict w.0 w.1) w.4 in
    let r = and_parts (eqb w.1.txn u) (conflict w.0 w.1) p.1 in
    let c = and_parts (not (eqb w.0.txn w.1.txn)) (eqb w.0.item w.1.item && (w.0.writes || w.1.writes)) r.1 in
    eqb-false w.0.txn w.1.txn (not-true (eqb w.0.txn w.1.txn) c.0) (eqb-true w.0.txn u p.0 ∙ sym (eqb-true w.1.txn u r.0))

module _ (os : List Operation) where
  -- ---- the source of the operations

  pub in_batches : (n : ℕ) (us : List ℕ) (s : UpdateOperation) → In s (batches os n us) → (k : ℕ) × (o : Operation) × (k < length us) × In o os × (o.txn ≡ nth us k) × (placed_operation (n + k) o ≡ s)
  in_batches n [] s i = absurd i
  in_batches n (u ∷ us) s i = ⊎_elim
      (λ here.
      let m = of_map (placed_operation n) (filter (by u) os) s here in
      let p = In-of_filter (by u) os m.0 m.1 in
      let z : n + 0 ≡ n = omega arith in
      (0, m.0, omega arith, p.0, eqb-true m.0.txn u p.1, ap (λ k. placed_operation k m.0) z ∙ m.2))
      (λ later.
      let r = in_batches (n + 1) us s later in
      let l : r.0 < length us = r.2 in
      let e : n + suc r.0 ≡ n + 1 + r.0 = omega arith in
      (suc r.0, r.1, omega arith, r.3, r.4, ap (λ k. placed_operation k r.1) e ∙ r.5))
      (In-append_cases (batch os n u) (batches os (n + 1) us) s i)

  pub to_batches : (n : ℕ) (us : List ℕ) (k : ℕ) (o : Operation) → k < length us → In o os → o.txn ≡ nth us k → In (placed_operation (n + k) o) (batches os n us)
  to_batches n [] k o l i is = absurd (omega arith)
  to_batches n (u ∷ us) zero o l i is =
      let z : n ≡ n + 0 = omega arith in
      In-append_left (batch os n u) (batches os (n + 1) us) (placed_operation (n + 0) o)
      (subst (λ k. In (placed_operation k o) (batch os n u)) z (in_map (placed_operation n) (filter (by u) os) o (In-filter (by u) os o i (eq-eqb o.txn u is))))
  to_batches n (u ∷ us) (suc k) o l i is =
      let e : n + 1 + k ≡ n + suc k = omega arith in
      In-append_right (batch os n u) (batches os (n + 1) us) (placed_operation (n + suc k) o) (subst (λ m. In (placed_operation m o) (batches os (n + 1) us)) e (to_batches (n + 1) us k o (omega arith) i is))

  in_batch : (n u : ℕ) (s : UpdateOperation) → In s (batch os n u) → s.update_index ≡ n
  in_batch n u s i = sym (ap (λ (s : UpdateOperation). s.update_index) (of_map (placed_operation n) (filter (by u) os) s i).2)

  from_batches : (n : ℕ) (us : List ℕ) (s : UpdateOperation) → In s (batches os n us) → n ≤ s.update_index
  from_batches n us s i = let r = in_batches n us s i in let e : n + r.0 ≡ s.update_index = ap (λ (s : UpdateOperation). s.update_index) r.5 in omega arith

  -- they are in the order of the positions
  pub rises : (n : ℕ) (us : List ℕ) → Pairs (λ a b. a.update_index ≤ b.update_index) (batches os n us)
  rises n [] = tt
  rises n (u ∷ us) = Pairs-append (λ (a b : UpdateOperation). a.update_index ≤ b.update_index) (batch os n u) (batches os (n + 1) us) (level (filter (by u) os)) (rises (n + 1) us)
      (λ a b i j. let low : a.update_index ≡ n = in_batch n u a i in let high : n + 1 ≤ b.update_index = from_batches (n + 1) us b j in omega arith)
    where
      level : (ps : List Operation) → Pairs (λ (a b : UpdateOperation). a.update_index ≤ b.update_index) (map (placed_operation n) ps)
      level [] = tt
      level (p ∷ ps) = (each_in (λ (b : UpdateOperation). n ≤ b.update_index) (map (placed_operation n) ps) (λ b i. let e : n ≡ b.update_index = ap (λ (s : UpdateOperation). s.update_index) (of_map (placed_operation n) ps b i).2 in omega arith), level ps)

  pub placed : (us : List ℕ) → All (λ s. s.update_index < length us) (batches os 0 us)
  placed us = All-from_recursion (λ (s : UpdateOperation). s.update_index < length us) (batches os 0 us) (each_in (λ (s : UpdateOperation). s.update_index < length us) (batches os 0 us) (λ s i.
      let r = in_batches 0 us s i in
      let l : r.0 < length us = r.2 in
      let e : 0 + r.0 ≡ s.update_index = ap (λ (s : UpdateOperation). s.update_index) r.5 in
      omega arith))

  -- ---- the operations of the update at a position

  here : (p : UpdateOperation → Bool) (n u : ℕ) (s : UpdateOperation) → In s (filter p (batch os n u)) → s.update_index ≡ n
  here p n u s j = in_batch n u s (In-of_filter p (batch os n u) s j).0

  later : (p : UpdateOperation → Bool) (n : ℕ) (us : List ℕ) (s : UpdateOperation) → In s (filter p (batches os (n + 1) us)) → n + 1 ≤ s.update_index
  later p n us s j = from_batches (n + 1) us s (In-of_filter p (batches os (n + 1) us) s j).0

  own : (p : UpdateOperation → Bool) (n : ℕ) (us : List ℕ) (i : ℕ) → i < length us → filter (in_place (n + i)) (filter p (batches os n us)) ≡ filter p (batch os (n + i) (nth us i))
  own p n [] i l = absurd (omega arith)
  own p n (u ∷ us) zero l =
      let z : n + 0 ≡ n = omega arith in
      ap (filter (in_place (n + 0))) (filter-append p (batch os n u) (batches os (n + 1) us))
      ∙ (filter-append (in_place (n + 0)) (filter p (batch os n u)) (filter p (batches os (n + 1) us))
      ∙ (ap (λ ss. filter (in_place (n + 0)) (filter p (batch os n u)) ++ ss) (filter_none_in (in_place (n + 0)) (filter p (batches os (n + 1) us)) (λ s j. ne_eqb s.update_index (n + 0) (λ e. let m : n + 1 ≤ s.update_index = later p n us s j in absurd (omega (arith, e, m)))))
      ∙ (append-nil (filter (in_place (n + 0)) (filter p (batch os n u)))
      ∙ (filter_all_in (in_place (n + 0)) (filter p (batch os n u)) (λ s j. eq-eqb s.update_index (n + 0) (here p n u s j ∙ sym z))
      ∙ ap (λ k. filter p (batch os k u)) (sym z)))))
  own p n (u ∷ us) (suc i) l =
      let e : n + suc i ≡ n + 1 + i = omega arith in
      ap (filter (in_place (n + suc i))) (filter-append p (batch os n u) (batches os (n + 1) us))
      ∙ (filter-append (in_place (n + suc i)) (filter p (batch os n u)) (filter p (batches os (n + 1) us))
      ∙ (ap (λ ss. ss ++ filter (in_place (n + suc i)) (filter p (batches os (n + 1) us))) (filter_none_in (in_place (n + suc i)) (filter p (batch os n u)) (λ s j. ne_eqb s.update_index (n + suc i) (λ f. let m : s.update_index ≡ n = here p n u s j in absurd (omega (arith, f, m)))))
      ∙ (ap (λ k. filter (in_place k) (filter p (batches os (n + 1) us))) e
      ∙ (own p (n + 1) us i (omega arith)
      ∙ ap (λ k. filter p (batch os k (nth us i))) (sym e)))))

  batch_writes : (i u x : ℕ) (ps : List Operation) → map (λ (s : UpdateOperation). s.value) (filter (λ (s : UpdateOperation). s.writes && eqb s.item x) (map (placed_operation i) (filter (by u) ps))) ≡ map (λ (o : Operation). o.value) (filter (wrote_by x u) ps)
  batch_writes i u x [] = refl
  batch_writes i u x (o ∷ ps) = at (by u o) (o.writes && eqb o.item x) (batch_writes i u x ps)
    where
      at : (b w : Bool) → map (λ (s : UpdateOperation). s.value) (filter (λ (s : UpdateOperation). s.writes && eqb s.item x) (map (placed_operation i) (filter (by u) ps))) ≡ map (λ (o : Operation). o.value) (filter (wrote_by x u) ps)
          → map (λ (s : UpdateOperation). s.value) (filter (λ (s : UpdateOperation). s.writes && eqb s.item x) (map (placed_operation i) (cond b (o ∷ filter (by u) ps) (filter (by u) ps))))
          ≡ map (λ (o : Operation). o.value) (cond ((o.writes && eqb o.item x) && b) (o ∷ filter (wrote_by x u) ps) (filter (wrote_by x u) ps))
      at true w rest = both (o.writes && eqb o.item x)
        where
          both : (w : Bool) → map (λ (s : UpdateOperation). s.value) (cond w (placed_operation i o ∷ filter (λ (s : UpdateOperation). s.writes && eqb s.item x) (map (placed_operation i) (filter (by u) ps))) (filter (λ (s : UpdateOperation). s.writes && eqb s.item x) (map (placed_operation i) (filter (by u) ps))))
              ≡ map (λ (o : Operation). o.value) (cond (w && true) (o ∷ filter (wrote_by x u) ps) (filter (wrote_by x u) ps))
          both true = ap (λ l. o.value ∷ l) rest
          both false = rest
      at false w rest = rest ∙ none (o.writes && eqb o.item x)
        where
          none : (w : Bool) → map (λ (o : Operation). o.value) (filter (wrote_by x u) ps) ≡ map (λ (o : Operation). o.value) (cond (w && false) (o ∷ filter (wrote_by x u) ps) (filter (wrote_by x u) ps))
          none true = refl
          none false = refl

  pub last_written_by : (us : List ℕ) (x i : ℕ) → i < length us → last_by_update (batches os 0 us) x i ≡ last_of (map (λ o. o.value) (filter (wrote_by x (nth us i)) os))
  last_written_by us x i l =
      let z : i ≡ 0 + i = omega arith in
      ap (λ k. last_of (map (λ (s : UpdateOperation). s.value) (filter (in_place k) (filter (λ (s : UpdateOperation). s.writes && eqb s.item x) (batches os 0 us))))) z
      ∙ (ap (λ ss. last_of (map (λ (s : UpdateOperation). s.value) ss)) (own (λ (s : UpdateOperation). s.writes && eqb s.item x) 0 us i l)
      ∙ ap last_of (batch_writes (0 + i) (nth us i) x os))

  -- ---- how many there are

  pub counted : (n : ℕ) (us : List ℕ) → Pairs (λ u v. u ≢ v) us → length (batches os n us) ≡ length (filter (λ o. is_among us o.txn) os)
  counted n [] once = sym (ap length (filter_none_in (λ (o : Operation). false) os (λ o i. refl)))
  counted n (u ∷ us) once =
      length-append (batch os n u) (batches os (n + 1) us)
      ∙ (ap (λ k. k + length (batches os (n + 1) us)) (Rattle.std.proofs.lemmas.List.length-map (filter (by u) os) (placed_operation n))
      ∙ (ap (λ k. length (filter (by u) os) + k) (counted (n + 1) us once.1) ∙ apart os))
    where
      apart : (ps : List Operation) → length (filter (by u) ps) + length (filter (λ (o : Operation). is_among us o.txn) ps) ≡ length (filter (λ (o : Operation). is_among (u ∷ us) o.txn) ps)
      apart [] = refl
      apart (o ∷ ps) = at (by u o) refl (is_among us o.txn) refl (apart ps)
        where
          at : (b : Bool) → by u o ≡ b → (c : Bool) → is_among us o.txn ≡ c → length (filter (by u) ps) + length (filter (λ (o : Operation). is_among us o.txn) ps) ≡ length (filter (λ (o : Operation). is_among (u ∷ us) o.txn) ps)
              → length (cond b (o ∷ filter (by u) ps) (filter (by u) ps)) + length (cond c (o ∷ filter (λ (o : Operation). is_among us o.txn) ps) (filter (λ (o : Operation). is_among us o.txn) ps))
              ≡ length (cond (is_among (u ∷ us) o.txn) (o ∷ filter (λ (o : Operation). is_among (u ∷ us) o.txn) ps) (filter (λ (o : Operation). is_among (u ∷ us) o.txn) ps))
          at true is true its rest = absurd (each_at (λ v. u ≢ v) us o.txn once.0 (In-from_any us o.txn its) (sym (eqb-true o.txn u is)))
          at true is false its rest = omega (arith, rest) ∙ ap (λ c. length (cond c (o ∷ filter (λ (o : Operation). is_among (u ∷ us) o.txn) ps) (filter (λ (o : Operation). is_among (u ∷ us) o.txn) ps))) (sym (ap (λ c. c || is_among us o.txn) (eq-eqb u o.txn (sym (eqb-true o.txn u is)))))
          at false is c its rest =
              let none : eqb u o.txn ≡ false = ne_eqb u o.txn (λ e. true≢false (sym (eq-eqb o.txn u (sym e)) ∙ is)) in
              step c its rest ∙ ap (λ c. length (cond (c || is_among us o.txn) (o ∷ filter (λ (o : Operation). is_among (u ∷ us) o.txn) ps) (filter (λ (o : Operation). is_among (u ∷ us) o.txn) ps))) (sym none)
            where
              step : (c : Bool) → is_among us o.txn ≡ c → length (filter (by u) ps) + length (filter (λ (o : Operation). is_among us o.txn) ps) ≡ length (filter (λ (o : Operation). is_among (u ∷ us) o.txn) ps)
                  → length (filter (by u) ps) + length (cond c (o ∷ filter (λ (o : Operation). is_among us o.txn) ps) (filter (λ (o : Operation). is_among us o.txn) ps))
                  ≡ length (cond (is_among us o.txn) (o ∷ filter (λ (o : Operation). is_among (u ∷ us) o.txn) ps) (filter (λ (o : Operation). is_among (u ∷ us) o.txn) ps))
              step true its rest = omega (arith, rest) ∙ ap (λ c. length (cond c (o ∷ filter (λ (o : Operation). is_among (u ∷ us) o.txn) ps) (filter (λ (o : Operation). is_among (u ∷ us) o.txn) ps))) (sym its)
              step false its rest = rest ∙ ap (λ c. length (cond c (o ∷ filter (λ (o : Operation). is_among (u ∷ us) o.txn) ps) (filter (λ (o : Operation). is_among (u ∷ us) o.txn) ps))) (sym its)

-- ---- pairs of positions, and the conflict order

abbrev befores : ℕ → ℕ → Operation → Operation → Bool
befores u v a b = eqb a.txn u && (eqb b.txn v && conflict a b)

or_swap : (a b : Bool) → (a || b) ≡ true → (b || a) ≡ true
or_swap true true h = refl
or_swap true false h = refl
or_swap false true h = refl
or_swap false false h = absurd (true≢false (sym h))

-- of two operations of different updates that conflict one is ahead
pub ahead : (h : Schedule) (a b : Operation) → In a (operations h) → In b (operations h) → (a.txn ≡ b.txn → ⊥) → a.item ≡ b.item → (a.writes || b.writes) ≡ true → (u v : ℕ) → a.txn ≡ u → b.txn ≡ v → is_before h v u ≡ false → is_before h u v ≡ true
ahead h a b ia ib ne item w u v au bv not_back =
    ⊎_elim (λ t. t) (λ t. absurd (true≢false (sym t ∙ not_back)))
    (pair_total (befores u v) (befores v u) (operations h) a b ia ib (λ e. ne (ap (λ o. o.txn) e))
    (and_from (eqb a.txn u) (eqb b.txn v && conflict a b) (eq-eqb a.txn u au) (and_from (eqb b.txn v) (conflict a b) (eq-eqb b.txn v bv) (conflict_of a b ne item w)))
    (and_from (eqb b.txn v) (eqb a.txn u && conflict b a) (eq-eqb b.txn v bv) (and_from (eqb a.txn u) (conflict b a) (eq-eqb a.txn u au) (conflict_of b a (λ e. ne (sym e)) (sym item) (or_swap a.writes b.writes w)))))

-- the operations by which one is before another
pub conflict_parts : (h : Schedule) (u v : ℕ) → is_before h u v ≡ true → (a b : Operation) × In a (operations h) × In b (operations h) × (a.txn ≡ u) × (b.txn ≡ v) × (a.item ≡ b.item) × ((a.writes || b.writes) ≡ true)
conflict_parts h u v is =
    let w = pair_parts (λ a b. ⊤) (befores u v) (operations h) (any_two (operations h)) is in
    let p = and_parts (eqb w.0.txn u) (eqb w.1.txn v && conflict w.0 w.1) w.4 in
    let r = and_parts (eqb w.1.txn v) (conflict w.0 w.1) p.1 in
    let same = and_parts (eqb w.0.item w.1.item) (w.0.writes || w.1.writes) (and_parts (not (eqb w.0.txn w.1.txn)) (eqb w.0.item w.1.item && (w.0.writes || w.1.writes)) r.1).1 in
    (w.0, w.1, w.2, w.3, eqb-true w.0.txn u p.0, eqb-true w.1.txn v r.0, eqb-true w.0.item w.1.item same.0, same.1)

module _ (h : Schedule) (us : List ℕ) (once : AllPairs (λ u v. u ≢ v) us) (keeps : AllPairs (λ u v. is_before h v u ≡ false) us) where
  abbrev tests : ℕ → ℕ → UpdateOperation → UpdateOperation → Bool
  tests i j a b = eqb a.update_index i && (eqb b.update_index j && operations_conflict a b)

  pub up : (i j : ℕ) → i < length us → j < length us → is_before h (nth us i) (nth us j) ≡ true → i < j
  up i j li lj b =
      ⊎_elim
      (λ e. absurd (not_before_itself (operations h) (nth us j) (subst (λ k. is_before h (nth us k) (nth us j) ≡ true) e b)))
      (λ o. ⊎_elim (λ lt. lt) (λ gt. absurd (true≢false (sym b ∙ keeps j i 0 gt li))) o)
      (cases_order i j)

  pub pair_inside : (i j : ℕ) → is_conflict_pair (batches (operations h) 0 us) i j ≡ true → (i < length us) × (j < length us)
  pair_inside i j is =
      let w = pair_parts (λ a b. ⊤) (tests i j) (batches (operations h) 0 us) (any_two (batches (operations h) 0 us)) is in
      let p = and_parts (eqb w.0.update_index i) (eqb w.1.update_index j && operations_conflict w.0 w.1) w.4 in
      (below w.0 w.2 i (eqb-true w.0.update_index i p.0), below w.1 w.3 j (eqb-true w.1.update_index j (and_parts (eqb w.1.update_index j) (operations_conflict w.0 w.1) p.1).0))
    where
      below : (s : UpdateOperation) → In s (batches (operations h) 0 us) → (k : ℕ) → s.update_index ≡ k → k < length us
      below s i k is = subst (λ m. m < length us) is (All-contains (λ (s : UpdateOperation). s.update_index < length us) (batches (operations h) 0 us) s (placed (operations h) us) (In-Contains (batches (operations h) 0 us) s i))

  pair_to : (i j : ℕ) → i < length us → j < length us → is_conflict_pair (batches (operations h) 0 us) i j ≡ true → is_before h (nth us i) (nth us j) ≡ true
  pair_to i j li lj is =
      let w = pair_parts (λ (a b : UpdateOperation). a.update_index ≤ b.update_index) (tests i j) (batches (operations h) 0 us) (rises (operations h) 0 us) is in
      let p = and_parts (eqb w.0.update_index i) (eqb w.1.update_index j && operations_conflict w.0 w.1) w.4 in
      let r = and_parts (eqb w.1.update_index j) (operations_conflict w.0 w.1) p.1 in
      let c = clash_parts w.0 w.1 r.1 in
      let same = and_parts (eqb w.0.item w.1.item) (w.0.writes || w.1.writes) (and_parts (not (eqb w.0.update_index w.1.update_index)) (eqb w.0.item w.1.item && (w.0.writes || w.1.writes)) r.1).1 in
      let a = in_batches (operations h) 0 us w.0 w.2 in
      let b = in_batches (operations h) 0 us w.1 w.3 in
      let pi : w.0.update_index ≡ i = eqb-true w.0.update_index i p.0 in
      let pj : w.1.update_index ≡ j = eqb-true w.1.update_index j r.0 in
      let ai : 0 + a.0 ≡ w.0.update_index = ap (λ (s : UpdateOperation). s.update_index) a.5 in
      let bj : 0 + b.0 ≡ w.1.update_index = ap (λ (s : UpdateOperation). s.update_index) b.5 in
      let ei : a.0 ≡ i = omega arith in
      let ej : b.0 ≡ j = omega arith in
      let le : w.0.update_index ≤ w.1.update_index = w.5 in
      let lt : i < j = ⊎_elim (λ e. absurd (c.0 e)) (λ o. ⊎_elim (λ lt. omega (arith, lt)) (λ gt. absurd (omega (arith, gt, le))) o) (cases_order w.0.update_index w.1.update_index) in
      let au : a.1.txn ≡ nth us i = a.4 ∙ ap (nth us) ei in
      let bv : b.1.txn ≡ nth us j = b.4 ∙ ap (nth us) ej in
      ahead h a.1 b.1 a.3 b.3 (λ e. once i j 0 lt lj (sym au ∙ (e ∙ bv)))
      (ap (λ (s : UpdateOperation). s.item) a.5 ∙ (eqb-true w.0.item w.1.item same.0 ∙ sym (ap (λ (s : UpdateOperation). s.item) b.5)))
      (ap (λ x. x || b.1.writes) (ap (λ (s : UpdateOperation). s.writes) a.5) ∙ (ap (λ x. w.0.writes || x) (ap (λ (s : UpdateOperation). s.writes) b.5) ∙ same.1))
      (nth us i) (nth us j) au bv (keeps i j 0 lt lj)

  pair_from : (i j : ℕ) → i < length us → j < length us → is_before h (nth us i) (nth us j) ≡ true → is_conflict_pair (batches (operations h) 0 us) i j ≡ true
  pair_from i j li lj is =
      let lt : i < j = up i j li lj is in
      let w = conflict_parts h (nth us i) (nth us j) is in
      let a : UpdateOperation = placed_operation (0 + i) w.0 in
      let b : UpdateOperation = placed_operation (0 + j) w.1 in
      let ne : a.update_index ≡ b.update_index → ⊥ = λ e. absurd (omega (arith, e, lt)) in
      ⊎_elim (λ t. t)
      (λ t. let back = pair_parts (λ (a b : UpdateOperation). a.update_index ≤ b.update_index) (tests j i) (batches (operations h) 0 us) (rises (operations h) 0 us) t in
      let q = and_parts (eqb back.0.update_index j) (eqb back.1.update_index i && operations_conflict back.0 back.1) back.4 in
      let pj : back.0.update_index ≡ j = eqb-true back.0.update_index j q.0 in
      let pi : back.1.update_index ≡ i = eqb-true back.1.update_index i (and_parts (eqb back.1.update_index i) (operations_conflict back.0 back.1) q.1).0 in
      let le : back.0.update_index ≤ back.1.update_index = back.5 in
      absurd (omega arith))
      (pair_total (tests i j) (tests j i) (batches (operations h) 0 us) a b
      (to_batches (operations h) 0 us i w.0 li w.2 w.4) (to_batches (operations h) 0 us j w.1 lj w.3 w.5)
      (λ e. ne (ap (λ (s : UpdateOperation). s.update_index) e))
      (and_from (eqb a.update_index i) (eqb b.update_index j && operations_conflict a b) (eq-eqb a.update_index i (omega arith)) (and_from (eqb b.update_index j) (operations_conflict a b) (eq-eqb b.update_index j (omega arith)) (clash_from a b ne w.6 w.7)))
      (and_from (eqb b.update_index j) (eqb a.update_index i && operations_conflict b a) (eq-eqb b.update_index j (omega arith)) (and_from (eqb a.update_index i) (operations_conflict b a) (eq-eqb a.update_index i (omega arith)) (clash_from b a (λ e. ne (sym e)) (sym w.6) (or_swap w.0.writes w.1.writes w.7)))))

  pub pair_before : (i j : ℕ) → i < length us → j < length us → is_conflict_pair (batches (operations h) 0 us) i j ≡ is_before h (nth us i) (nth us j)
  pair_before i j li lj = same_truth (is_conflict_pair (batches (operations h) 0 us) i j) (is_before h (nth us i) (nth us j)) (pair_to i j li lj) (pair_from i j li lj)
