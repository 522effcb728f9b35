-- One backward scan of updates: the state for those from a position on.
use Rattle.std.proofs.Common.{◌≡◌, ℕ, suc, ◌+◌, ◌*◌, ◌<◌, ◌≤◌, List, [], ◌∷◌, ◌++◌, length, drop, get_or, reverse, refl, sym, ◌∙◌, ap, subst, inl, inr, ⊎_elim, arith, map, filter, eqb, cond, pos, Bool, true, false, slice_set, append_assoc, AllPairs, Contains}
use Rattle.std.specs.List.{range_with_len}
use Rattle.std.proofs.lemmas.Bool.{cases_eq, eq-eqb, ne_eqb}
use Rattle.std.proofs.lemmas.List.Elements.{All-contains}
use Rattle.std.proofs.lemmas.List.{drop_more, length-map, length-append, length-set, length-reverse, map-set, reverse-append, get_or-set_same, get_or-set_other, get_or-map}
use Rattle.esr_base.specs.declared.numbers.TxnId.{TxnId}
use Rattle.esr_history.specs.Machine.{Schedule}
use Rattle.esr_history.specs.Operations.{Operation, operations}
use Rattle.esr_history.proofs.Membership.{In, In-Contains, Contains-In, In-append_cases, In-append_left, In-append_right, Pairs, Pairs-append, Pairs-from_all, All-from_pairs, each_at}
use Rattle.esr_order.specs.UpdateOperations.{UpdateOperation}
use Rattle.esr_order.specs.Scans.{access_of, accesses_in, Access}
use Rattle.esr_order.specs.ConflictPairs.{IsLexLess}
use Rattle.esr_order.specs.Batches.{placed_operation, operation_at, batch, batches}
use Rattle.esr_order.specs.Conflicts.{pair_of, pairs_from, AreConflicts, AreNextPaired, on_item}
use Rattle.esr_order.specs.Chains.{Chain, chain_from, last_by_update, reversed_chain}
use Rattle.esr_order.specs.Later.{no_one, chain_back, readers_of, with_operation, readers_with, conflicts_of, batch_conflicts, SummarizeLater}
use Rattle.esr_order.proofs.Kept.{Pair, Kept, kept_same, kept_batch, open_reads, batch_count, pairs_bounded, in_pairs_from, of_pairs_from, next_paired, writes_in, on, conflicting_all}
use Rattle.esr_order.proofs.Chained.{chain_reversed}
use Rattle.esr_order.proofs.Batches as batches_of

-- the rest of a list from a position on, with the position's successor
pub drop_next : {X : Type 0} (xs : List X) (i : ℕ) (d : X) → i < length xs → drop i xs ≡ get_or xs i d ∷ drop (suc i) xs
drop_next xs i d l = let on : i + 1 ≡ suc i = omega arith in drop_more xs i d l ∙ ap (λ n. get_or xs i d ∷ drop n xs) on

-- ---- reversed lists

reverse_cons : {X : Type 0} (x : X) (xs : List X) → reverse (x ∷ xs) ≡ reverse xs ++ x ∷ []
reverse_cons x xs = reverse-append (x ∷ []) xs

pub In-reverse : {X : Type 0} (xs : List X) (x : X) → In x xs → In x (reverse xs)
In-reverse [] x i = absurd i
In-reverse (y ∷ xs) x i = subst (In x) (sym (reverse_cons y xs)) (⊎_elim (λ e. In-append_right (reverse xs) (y ∷ []) x (inl e)) (λ j. In-append_left (reverse xs) (y ∷ []) x (In-reverse xs x j)) i)

pub In-of_reverse : {X : Type 0} (xs : List X) (x : X) → In x (reverse xs) → In x xs
In-of_reverse [] x i = absurd i
In-of_reverse (y ∷ xs) x i = ⊎_elim (λ j. inr (In-of_reverse xs x j)) (λ j. ⊎_elim (λ e. inl e) (λ b. absurd b) j) (In-append_cases (reverse xs) (y ∷ []) x (subst (In x) (reverse_cons y xs) i))

pub Pairs-reverse : {X : Type 0} (R : X → X → Type 0) (xs : List X) → Pairs R xs → Pairs (λ a b. R b a) (reverse xs)
Pairs-reverse R [] p = tt
Pairs-reverse R (x ∷ xs) p =
    subst (Pairs (λ a b. R b a)) (sym (reverse_cons x xs))
    (Pairs-append (λ a b. R b a) (reverse xs) (x ∷ []) (Pairs-reverse R xs p.1) (tt, tt) (λ a b i j. ⊎_elim (λ e. subst (λ z. R z a) e (each_at (R x) xs a p.0 (In-of_reverse xs a i))) (λ z. absurd z) j))

-- ---- one more step of an item

abbrev pub no_access : Access
no_access = record { item = record { 0 = 0 }; writes = false; value = pos 0 }

abbrev pub no_txn : TxnId
no_txn = record { 0 = 0 }

pub later_operation : (links : List Chain) (rows : List (List ℕ)) (steps : List UpdateOperation) (s : UpdateOperation) → SummarizeLater links rows steps → s.item < length links → s.item < length rows
    → (link : Chain) → link ≡ with_operation (get_or links s.item no_one) s → (row : List ℕ) → row ≡ readers_with (get_or rows s.item []) s
    → SummarizeLater (slice_set links s.item link) (slice_set rows s.item row) (s ∷ steps)
later_operation links rows steps s are linked read link put row added = record {
  chains = λ x l. ⊎_elim
      (λ e.
      ap (λ y. get_or (slice_set links s.item link) y no_one) (sym e)
      ∙ (get_or-set_same links s.item link no_one linked
      ∙ (put
      ∙ (ap (λ c. with_operation c s) (are.chains s.item linked ∙ ap (λ y. chain_back y steps) e)
      ∙ ap (λ b. cond b (with_operation (chain_back x steps) s) (chain_back x steps)) (sym (eq-eqb s.item x e))))))
      (λ ne.
      get_or-set_other links s.item x link no_one (λ e. ne (sym e))
      ∙ (are.chains x (omega (arith, l, length-set links s.item link))
      ∙ ap (λ b. cond b (with_operation (chain_back x steps) s) (chain_back x steps)) (sym (ne_eqb s.item x ne))))
      (cases_eq s.item x);
  readers = λ x l. ⊎_elim
      (λ e.
      ap (λ y. get_or (slice_set rows s.item row) y []) (sym e)
      ∙ (get_or-set_same rows s.item row [] read
      ∙ (added
      ∙ (ap (λ r. readers_with r s) (are.readers s.item read ∙ ap (λ y. readers_of y steps) e)
      ∙ ap (λ b. cond b (readers_with (readers_of x steps) s) (readers_of x steps)) (sym (eq-eqb s.item x e))))))
      (λ ne.
      get_or-set_other rows s.item x row [] (λ e. ne (sym e))
      ∙ (are.readers x (omega (arith, l, length-set rows s.item row))
      ∙ ap (λ b. cond b (readers_with (readers_of x steps) s) (readers_of x steps)) (sym (ne_eqb s.item x ne))))
      (cases_eq s.item x);
}

-- one more access of a turn, before those from the next on
module _ {V W : Type 0} (see : V → Chain) (read : W → List ℕ) (chains : List V) (readers : List W) (position i next : ℕ) (is : next ≡ suc i) (accesses : List Access) (inside : i < length accesses) where
  abbrev access : Access
  access = get_or accesses i no_access

  abbrev done : List UpdateOperation
  done = map (operation_at position) (drop next accesses)

  taken : operation_at position access ∷ done ≡ map (operation_at position) (drop i accesses)
  taken = sym (ap (map (operation_at position)) (drop_next accesses i no_access inside) ∙ ap (λ n. operation_at position access ∷ map (operation_at position) (drop n accesses)) (sym is))

  module _ (linked : access.item.0 < length chains) (in_rows : access.item.0 < length readers) (steps : List UpdateOperation) (are : SummarizeLater (map see chains) (map read readers) (done ++ steps)) (d : V) (e : W) where
    abbrev link : Chain
    link = see (get_or chains access.item.0 d)

    abbrev row : List ℕ
    row = read (get_or readers access.item.0 e)

    link_is : get_or (map see chains) access.item.0 no_one ≡ link
    link_is = get_or-map see chains access.item.0 d no_one linked

    row_is : get_or (map read readers) access.item.0 [] ≡ row
    row_is = get_or-map read readers access.item.0 e [] in_rows

    there : access.item.0 < length (map see chains)
    there = omega (arith, linked, length-map chains see)

    present : access.item.0 < length (map read readers)
    present = omega (arith, in_rows, length-map readers read)

    pub batch_later : (v : V) → see v ≡ with_operation link (operation_at position access) → (w : W) → read w ≡ readers_with row (operation_at position access)
        → SummarizeLater (map see (slice_set chains access.item.0 v)) (map read (slice_set readers access.item.0 w)) (map (operation_at position) (drop i accesses) ++ steps)
    batch_later v put w added =
        subst (λ l. SummarizeLater (map see (slice_set chains access.item.0 v)) (map read (slice_set readers access.item.0 w)) (l ++ steps)) taken
        (subst (λ cs. SummarizeLater cs (map read (slice_set readers access.item.0 w)) (operation_at position access ∷ (done ++ steps))) (sym (map-set see chains access.item.0 v))
        (subst (λ rs. SummarizeLater (slice_set (map see chains) access.item.0 (see v)) rs (operation_at position access ∷ (done ++ steps))) (sym (map-set read readers access.item.0 w))
        (later_operation (map see chains) (map read readers) (done ++ steps) (operation_at position access) are there present
        (see v) (put ∙ ap (λ c. with_operation c (operation_at position access)) (sym link_is)) (read w) (added ∙ ap (λ r. readers_with r (operation_at position access)) (sym row_is)))))

    pub batch_conflicting : (first conflicts : List ℕ) → conflicts ≡ first ++ batch_conflicts done steps → (more : List ℕ) → more ≡ conflicts ++ conflicts_of link row (operation_at position access) → more ≡ first ++ batch_conflicts (map (operation_at position) (drop i accesses)) steps
    batch_conflicting first conflicts so_far more added =
        added
        ∙ (ap (λ l. l ++ conflicts_of link row (operation_at position access)) so_far
        ∙ (append_assoc first (batch_conflicts done steps) (conflicts_of link row (operation_at position access))
        ∙ (ap (λ c. first ++ (batch_conflicts done steps ++ conflicts_of c row (operation_at position access))) (sym link_is ∙ are.chains access.item.0 there)
        ∙ (ap (λ r. first ++ (batch_conflicts done steps ++ conflicts_of (chain_back access.item.0 (done ++ steps)) r (operation_at position access))) (sym row_is ∙ are.readers access.item.0 present)
        ∙ ap (λ l. first ++ batch_conflicts l steps) taken))))

-- ---- update by update

pub batch_is : (h : Schedule) (i t : ℕ) → map (operation_at i) (accesses_in h.entries t) ≡ batch (operations h) i t
batch_is h i t = twice (filter (λ (o : Operation). eqb o.txn t) (operations h))
  where
    twice : (os : List Operation) → map (operation_at i) (map access_of os) ≡ map (placed_operation i) os
    twice [] = refl
    twice (o ∷ os) = ap (λ l. placed_operation i o ∷ l) (twice os)

placed_at : (i : ℕ) (accesses : List Access) (s : UpdateOperation) → In s (map (operation_at i) accesses) → s.update_index ≡ i
placed_at i [] s j = absurd j
placed_at i (a ∷ accesses) s j = ⊎_elim (λ e. sym (ap (λ (s : UpdateOperation). s.update_index) e)) (λ k. placed_at i accesses s k) j

-- the steps of the updates from a position on
abbrev pub rest : Schedule → List TxnId → ℕ → List UpdateOperation
rest h updates i = batches (operations h) i (map (λ t. t.0) (drop i updates))

pub rest_more : (h : Schedule) (updates : List TxnId) (i : ℕ) → i < length updates → (d : TxnId) → rest h updates i ≡ map (operation_at i) (accesses_in h.entries (get_or updates i d).0) ++ rest h updates (suc i)
rest_more h updates i inside d =
    let e : i + 1 ≡ suc i = omega arith in
    ap (λ l. batches (operations h) i (map (λ (t : TxnId). t.0) l)) (drop_next updates i d inside)
    ∙ (ap (λ n. batch (operations h) i (get_or updates i d).0 ++ batches (operations h) n (map (λ (t : TxnId). t.0) (drop (suc i) updates))) e
    ∙ ap (λ l. l ++ rest h updates (suc i)) (sym (batch_is h i (get_or updates i d).0)))

pub record IsGathered (h : Schedule) (updates : List TxnId) (i : ℕ) (links : List Chain) (rows : List (List ℕ)) (pairs : List Pair) : Type 0 where
  pub later : SummarizeLater links rows (rest h updates i)
  pub kept : Kept (rest h updates i) pairs
  pub count_within_max : length pairs + length (open_reads (rest h updates i)) ≤ 2 * length (rest h updates i)
  pub falling : Pairs (λ p r. IsLexLess r p) pairs
  pub above : (p : Pair) → In p pairs → i ≤ p.0

below_from : (i : ℕ) (js : List ℕ) → Pairs (λ j k. j < k) js → Pairs IsLexLess (pairs_from i js)
below_from i [] p = tt
below_from i (j ∷ js) p = Pairs-append IsLexLess (pair_of i j) (pairs_from i js) one (below_from i js p.1)
    (λ a b k l.
    let x = of_pairs_from (j ∷ []) i a (In-append_left (pair_of i j) [] a k) in
    let y = of_pairs_from js i b l in
    let aj : j ≡ a.1 = ⊎_elim (λ e. e) (λ z. absurd z) x.1 in
    let lt : j < b.1 = each_at (λ k. j < k) js b.1 p.0 y.1 in
    inr (x.0 ∙ sym y.0, omega (arith, aj, lt)))
  where
    both : (b : Bool) → Pairs IsLexLess (cond b [] ((i, j) ∷ []))
    both true = tt
    both false = (tt, tt)

    one : Pairs IsLexLess (pair_of i j)
    one = both (eqb i j)

-- with one update more
pub gathered_more : (h : Schedule) (updates : List TxnId) (i next : ℕ) → next ≡ suc i → i < length updates → (d : TxnId) (links : List Chain) (rows : List (List ℕ)) (pairs : List Pair) → IsGathered h updates next links rows pairs
    → (accesses : List Access) → accesses ≡ accesses_in h.entries (get_or updates i d).0
    → (more_links : List Chain) (more_rows : List (List ℕ)) → SummarizeLater more_links more_rows (map (operation_at i) accesses ++ rest h updates next)
    → (conflicts others : List ℕ) → conflicts ≡ batch_conflicts (map (operation_at i) accesses) (rest h updates next)
    → AllPairs (λ j k. j < k) others → ((j : ℕ) → Contains conflicts j → Contains others j) → ((j : ℕ) → Contains others j → Contains conflicts j) → length others ≤ length conflicts
    → (more : List Pair) → more ≡ pairs ++ reverse (pairs_from i others) → IsGathered h updates i more_links more_rows more
gathered_more h updates i next is inside d links rows pairs g accesses made more_links more_rows are conflicts others conflicting ascends keeps adds count_within_max more grown =
    subst (IsGathered h updates i more_links more_rows) (sym grown) (record {
      later = subst (SummarizeLater more_links more_rows) whole are;
      kept = subst (λ ss. Kept ss (pairs ++ reverse own)) whole
          (kept_same (own_operations ++ later) (pairs_from i (batch_conflicts own_operations later) ++ pairs) (pairs ++ reverse own)
          (λ p j. ⊎_elim (λ a. In-append_right pairs (reverse own) p (In-reverse own p (from_conflicts p a))) (λ a. In-append_left pairs (reverse own) p a) (In-append_cases (pairs_from i (batch_conflicts own_operations later)) pairs p j))
          (λ p j. ⊎_elim (λ a. In-append_right (pairs_from i (batch_conflicts own_operations later)) pairs p a) (λ a. In-append_left (pairs_from i (batch_conflicts own_operations later)) pairs p (to_conflicts p (In-of_reverse own p a))) (In-append_cases pairs (reverse own) p j))
          (kept_batch i own_operations later pairs (placed_at i accesses) g.kept));
      count_within_max = subst (λ ss. length (pairs ++ reverse own) + length (open_reads ss) ≤ 2 * length ss) whole
          (omega (arith, g.count_within_max, count_within_max, ap length conflicting, batch_count own_operations later, length-append pairs (reverse own), length-reverse own, pairs_bounded others i, length-append own_operations later));
      falling = Pairs-append (λ p r. IsLexLess r p) pairs (reverse own) g.falling (Pairs-reverse IsLexLess own (below_from i others (Pairs-from_all (λ j k. j < k) others ascends)))
          (λ p r j k.
          let high : next ≤ p.0 = g.above p j in
          let low : r.0 ≡ i = (of_pairs_from others i r (In-of_reverse own r k)).0 in
          inl (omega (arith, high, low, is)));
      above = λ p j. ⊎_elim (λ a. let high : next ≤ p.0 = g.above p a in omega (arith, high, is)) (λ a. let low : p.0 ≡ i = (of_pairs_from others i p (In-of_reverse own p a)).0 in omega (arith, low)) (In-append_cases pairs (reverse own) p j);
    })
  where
    own_operations : List UpdateOperation
    own_operations = map (operation_at i) accesses

    later : List UpdateOperation
    later = rest h updates next

    own : List Pair
    own = pairs_from i others

    whole : own_operations ++ later ≡ rest h updates i
    whole = ap (λ l. map (operation_at i) l ++ rest h updates next) made ∙ (ap (λ n. map (operation_at i) (accesses_in h.entries (get_or updates i d).0) ++ rest h updates n) is ∙ sym (rest_more h updates i inside d))

    move : (js ks : List ℕ) → ((j : ℕ) → In j js → In j ks) → (p : Pair) → In p (pairs_from i js) → In p (pairs_from i ks)
    move js ks f p a = let q = of_pairs_from js i p a in subst (λ n. In (n, p.1) (pairs_from i ks)) (sym q.0) (in_pairs_from ks i p.1 (f p.1 q.1) q.2)

    from_conflicts : (p : Pair) → In p (pairs_from i (batch_conflicts own_operations later)) → In p own
    from_conflicts p a = move (batch_conflicts own_operations later) others (λ j k. Contains-In others j (keeps j (In-Contains conflicts j (subst (In j) (sym conflicting) k)))) p a

    to_conflicts : (p : Pair) → In p own → In p (pairs_from i (batch_conflicts own_operations later))
    to_conflicts p a = move others (batch_conflicts own_operations later) (λ j k. subst (In j) conflicting (Contains-In conflicts j (adds j (In-Contains others j k)))) p a

-- ---- all updates

module _ (h : Schedule) (updates : List TxnId) (i : ℕ) (is : i ≡ 0) (links : List Chain) (rows : List (List ℕ)) (pairs : List Pair) (g : IsGathered h updates i links rows pairs) where
  abbrev steps : List UpdateOperation
  steps = batches (operations h) 0 (map (λ (t : TxnId). t.0) updates)

  all : rest h updates i ≡ steps
  all = ap (rest h updates) is

  kept : Kept steps (reverse pairs)
  kept = subst (λ ss. Kept ss (reverse pairs)) all (kept_same (rest h updates i) pairs (reverse pairs) (λ p j. In-reverse pairs p j) (λ p j. In-of_reverse pairs p j) g.kept)

  pub gathered_ascending : AllPairs IsLexLess (reverse pairs)
  gathered_ascending = All-from_pairs IsLexLess (reverse pairs) (Pairs-reverse (λ p r. IsLexLess r p) pairs g.falling)

  pub gathered_conflicting : AreConflicts steps (reverse pairs)
  gathered_conflicting = conflicting_all steps (reverse pairs) kept (let count_within_max = g.count_within_max in omega (arith, count_within_max, ap length all, length-reverse pairs))

  pub gathered_next : (x : ℕ) → AreNextPaired (reverse pairs) (filter (λ s. s.writes) (on_item x steps))
  gathered_next x = next_paired (writes_in (on x steps)) (reverse pairs) (kept.next x)

  pub gathered_chains : map reversed_chain links ≡ map (λ x. chain_from (last_by_update steps x) (length updates)) (range_with_len 0 (length links))
  gathered_chains = each links 0 (λ x l. let z : x ≡ 0 + x = omega arith in g.later.chains x l ∙ ap (λ y. chain_back y (rest h updates i)) z)
    where
      below : (s : UpdateOperation) → In s steps → s.update_index < length updates
      below s j = let l : s.update_index < length (map (λ (t : TxnId). t.0) updates) = All-contains (λ (s : UpdateOperation). s.update_index < length (map (λ (t : TxnId). t.0) updates)) steps s (batches_of.placed (operations h) (map (λ (t : TxnId). t.0) updates)) (In-Contains steps s j) in omega (arith, l, length-map updates (λ (t : TxnId). t.0))

      reversed_is : (x : ℕ) → reversed_chain (chain_back x (rest h updates i)) ≡ chain_from (last_by_update steps x) (length updates)
      reversed_is x = ap (λ ss. reversed_chain (chain_back x ss)) all ∙ chain_reversed x (length updates) steps (batches_of.rises (operations h) 0 (map (λ (t : TxnId). t.0) updates)) below

      each : (cs : List Chain) (a : ℕ) → ((x : ℕ) → x < length cs → get_or cs x no_one ≡ chain_back (a + x) (rest h updates i)) → map reversed_chain cs ≡ map (λ x. chain_from (last_by_update steps x) (length updates)) (range_with_len a (length cs))
      each [] a are = refl
      each (c ∷ cs) a are =
          let z : a + 0 ≡ a = omega arith in
          ap (λ c. reversed_chain c ∷ map reversed_chain cs) (are 0 (omega arith))
          ∙ (ap (λ y. reversed_chain (chain_back y (rest h updates i)) ∷ map reversed_chain cs) z
          ∙ (ap (λ c. c ∷ map reversed_chain cs) (reversed_is a)
          ∙ ap (λ l. chain_from (last_by_update steps a) (length updates) ∷ l) (each cs (a + 1) (λ x l. let e : a + suc x ≡ a + 1 + x = omega arith in are (suc x) (omega (arith, l)) ∙ ap (λ y. chain_back y (rest h updates i)) e))))
