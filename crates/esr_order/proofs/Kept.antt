-- Operations scanned from the last to the first: the pairs of each operation with the next write of its item, and of a
-- write with the reads before that, have the same closed sets as all conflicting pairs.
use Rattle.std.proofs.Common.{◌≡◌, ℕ, suc, ◌+◌, ◌*◌, ◌≤◌, Bool, true, false, cond, not, ◌&&◌, ◌||◌, ◌⊎◌, List, [], ◌∷◌, ◌++◌, length, refl, sym, ◌∙◌, ap, subst, inl, inr, ⊎_elim, arith, filter, eqb, Option, Some, None, map, ℤ, ◌-◌, append_assoc, append-nil}
use Rattle.std.specs.Prelude.{slice_get, ⊤}
use Rattle.std.specs.List.{list_any}
use Rattle.std.proofs.lemmas.Bool.{true≢false, cond_both, cases_eq, and_parts, and_from, or_cases, or_left, or_right, eqb-true, eq-eqb, ne_eqb, not_from_false, cond-false, eqb-false}
use Rattle.std.proofs.lemmas.List.{length-append, length-map, map-append}
use Rattle.std.proofs.lemmas.List.Elements.{All-contains, All-from_recursion, filter-append}
use Rattle.esr_history.specs.Serial.{any_ordered_pair}
use Rattle.esr_history.proofs.Membership.{In, In-Contains, In-append_cases, In-append_left, In-append_right, any-from_In, In-any, each_in}
use Rattle.esr_order.specs.UpdateOperations.{UpdateOperation}
use Rattle.esr_order.specs.ConflictPairs.{operations_conflict, is_conflict_pair}
use Rattle.esr_order.specs.Conflicts.{pair_of, pairs_from, AreConflicts, AreNextPaired}
use Rattle.esr_order.specs.Chains.{Chain, latest_writer, is_latest, with_write}
use Rattle.esr_order.specs.Later.{chain_back, readers_of, writer_in, later_conflicts, batch_conflicts}

abbrev pub Pair : Type 0
Pair = ℕ × ℕ

-- with the later of a pair, S has the earlier one
abbrev pub Holds : (ℕ → Bool) → List Pair → Type 0
Holds S pairs = (p : Pair) → In p pairs → S p.1 ≡ true → S p.0 ≡ true

abbrev test : ℕ → ℕ → UpdateOperation → UpdateOperation → Bool
test i j a b = eqb a.update_index i && (eqb b.update_index j && operations_conflict a b)

-- the parts of a conflict
pub clash_parts : (a b : UpdateOperation) → operations_conflict a b ≡ true → (a.update_index ≡ b.update_index → ⊥) × ((a.writes || b.writes) ≡ true)
clash_parts a b h =
    let p = and_parts (not (eqb a.update_index b.update_index)) (eqb a.item b.item && (a.writes || b.writes)) h in
    let q = and_parts (eqb a.item b.item) (a.writes || b.writes) p.1 in
    ((λ e. eqb-false a.update_index b.update_index (Rattle.std.proofs.lemmas.Bool.not-true (eqb a.update_index b.update_index) p.0) e), q.1)

clash_item : (a b : UpdateOperation) → operations_conflict a b ≡ true → a.item ≡ b.item
clash_item a b h = eqb-true a.item b.item (and_parts (eqb a.item b.item) (a.writes || b.writes) (and_parts (not (eqb a.update_index b.update_index)) (eqb a.item b.item && (a.writes || b.writes)) h).1).0

pub clash_from : (a b : UpdateOperation) → (a.update_index ≡ b.update_index → ⊥) → a.item ≡ b.item → (a.writes || b.writes) ≡ true → operations_conflict a b ≡ true
clash_from a b ne same w =
    and_from (not (eqb a.update_index b.update_index)) (eqb a.item b.item && (a.writes || b.writes)) (not_from_false (eqb a.update_index b.update_index) (ne_eqb a.update_index b.update_index ne))
    (and_from (eqb a.item b.item) (a.writes || b.writes) (eq-eqb a.item b.item same) w)

-- in and of the pairs that a step adds
in_pair_of : (i j : ℕ) (p : Pair) → In p (pair_of i j) → (p.0 ≡ i) × (p.1 ≡ j) × (i ≡ j → ⊥)
in_pair_of i j p =
    cond_both (eqb i j) [] ((i, j) ∷ []) (λ l. In p l → (p.0 ≡ i) × (p.1 ≡ j) × (i ≡ j → ⊥))
    (λ _ h. absurd h)
    (λ no h. ⊎_elim (λ e. (ap (λ q. q.0) (sym e), ap (λ q. q.1) (sym e), eqb-false i j no)) (λ b. absurd b) h)

pair_there : (i j : ℕ) → (i ≡ j → ⊥) → In (i, j) (pair_of i j)
pair_there i j ne = subst (λ l. In (i, j) l) (sym (cond-false (eqb i j) [] ((i, j) ∷ []) (ne_eqb i j ne))) (inl refl)

pub in_pairs_from : (js : List ℕ) (i j : ℕ) → In j js → (i ≡ j → ⊥) → In (i, j) (pairs_from i js)
in_pairs_from [] i j h ne = absurd h
in_pairs_from (z ∷ zs) i j h ne =
    ⊎_elim (λ e. In-append_left (pair_of i z) (pairs_from i zs) (i, j) (subst (λ w. In (i, j) (pair_of i w)) (sym e) (pair_there i j ne)))
    (λ m. In-append_right (pair_of i z) (pairs_from i zs) (i, j) (in_pairs_from zs i j m ne)) h

pub of_pairs_from : (js : List ℕ) (i : ℕ) (p : Pair) → In p (pairs_from i js) → (p.0 ≡ i) × In p.1 js × (i ≡ p.1 → ⊥)
of_pairs_from [] i p h = absurd h
of_pairs_from (z ∷ zs) i p h =
    ⊎_elim
    (λ a. let q = in_pair_of i z p a in (q.0, inl (sym q.1), λ e. q.2 (e ∙ q.1)))
    (λ b. let f = of_pairs_from zs i p b in (f.0, inr f.1, f.2))
    (In-append_cases (pair_of i z) (pairs_from i zs) p h)

pair_bounded : (i j : ℕ) → length (pair_of i j) ≤ 1
pair_bounded i j = cond_both (eqb i j) [] ((i, j) ∷ []) (λ l. length l ≤ 1) (λ _. omega arith) (λ _. omega arith)

pub pairs_bounded : (js : List ℕ) (i : ℕ) → length (pairs_from i js) ≤ length js
pairs_bounded [] i = omega arith
pairs_bounded (j ∷ js) i = omega (arith, length-append (pair_of i j) (pairs_from i js), pair_bounded i j, pairs_bounded js i)

-- two writes in a row, of two updates, are a pair
abbrev pub Next : List UpdateOperation → List Pair → Type 0
Next [] ps = ⊤
Next (a ∷ []) ps = ⊤
Next (a ∷ b ∷ ss) ps = ((a.update_index ≡ b.update_index → ⊥) → In (a.update_index, b.update_index) ps) × Next (b ∷ ss) ps

pub next_more : (ss : List UpdateOperation) (ps qs : List Pair) → ((p : Pair) → In p ps → In p qs) → Next ss ps → Next ss qs
next_more [] ps qs f n = tt
next_more (a ∷ []) ps qs f n = tt
next_more (a ∷ b ∷ ss) ps qs f n = ((λ ne. f (a.update_index, b.update_index) (n.0 ne)), next_more (b ∷ ss) ps qs f n.1)

pub next_paired : (ss : List UpdateOperation) (ps : List Pair) → Next ss ps → AreNextPaired ps ss
next_paired [] ps n = tt
next_paired (a ∷ []) ps n = tt
next_paired (a ∷ b ∷ ss) ps n = ((λ ne. In-Contains ps (a.update_index, b.update_index) (n.0 ne)), next_paired (b ∷ ss) ps n.1)

abbrev pub writes_in : List UpdateOperation → List UpdateOperation
writes_in ss = filter (λ (s : UpdateOperation). s.writes) ss

abbrev pub on : ℕ → List UpdateOperation → List UpdateOperation
on x ss = filter (λ (s : UpdateOperation). eqb s.item x) ss

-- ---- the next writer of an item, and the readers until then

get_pushed : (xs : List ℕ) (x : ℕ) → slice_get (xs ++ x ∷ []) (length xs) ≡ Some x
get_pushed [] x = refl
get_pushed (y ∷ xs) x = get_pushed xs x

pub last_pushed : (xs : List ℕ) (x : ℕ) → slice_get (xs ++ x ∷ []) (length (xs ++ x ∷ []) - 1) ≡ Some x
last_pushed xs x = let e : length (xs ++ x ∷ []) - 1 ≡ length xs = omega (arith, length-append xs (x ∷ [])) in ap (slice_get (xs ++ x ∷ [])) e ∙ get_pushed xs x

pub last_put : (c : Chain) (i : ℕ) (v : ℤ) → latest_writer (with_write c i v) ≡ Some i
last_put c i v = at (latest_writer c) refl
  where
    at : (o : Option ℕ) → latest_writer c ≡ o → latest_writer (cond (is_latest o i) c (record { writers = c.writers ++ i ∷ []; values = c.values ++ v ∷ [] })) ≡ Some i
    at None is = last_pushed c.writers i
    at (Some w) is = both (eqb w i) refl
      where
        both : (b : Bool) → eqb w i ≡ b → latest_writer (cond b c (record { writers = c.writers ++ i ∷ []; values = c.values ++ v ∷ [] })) ≡ Some i
        both true same = is ∙ ap Some (eqb-true w i same)
        both false other = last_pushed c.writers i

-- the next writer wrote the item
writer_from : (x : ℕ) (ss : List UpdateOperation) (w : ℕ) → latest_writer (chain_back x ss) ≡ Some w → (b : UpdateOperation) × In b ss × (b.item ≡ x) × (b.writes ≡ true) × (b.update_index ≡ w)
writer_from x [] w is = absurd (cc)
writer_from x (z ∷ zs) w is = at (eqb z.item x) refl z.writes refl (writer_from x zs w) is
  where
    Found : List UpdateOperation → Type 0
    Found ss = (b : UpdateOperation) × In b ss × (b.item ≡ x) × (b.writes ≡ true) × (b.update_index ≡ w)

    later : Found zs → Found (z ∷ zs)
    later f = (f.0, inr f.1, f.2, f.3, f.4)

    at : (here : Bool) → eqb z.item x ≡ here → (writes : Bool) → z.writes ≡ writes → (latest_writer (chain_back x zs) ≡ Some w → Found zs) → latest_writer (cond here (cond writes (with_write (chain_back x zs) z.update_index z.value) (chain_back x zs)) (chain_back x zs)) ≡ Some w → Found (z ∷ zs)
    at true e true wr rest h = let same : Some z.update_index ≡ Some w = sym (last_put (chain_back x zs) z.update_index z.value) ∙ h in (z, inl refl, eqb-true z.item x e, wr, some_same same)
      where
        some_same : {a b : ℕ} → Some a ≡ Some b → a ≡ b
        some_same e = cc
    at true e false wr rest h = later (rest h)
    at false e writes wr rest h = later (rest h)

readers_from : (x : ℕ) (ss : List UpdateOperation) (r : ℕ) → In r (readers_of x ss) → (b : UpdateOperation) × In b ss × (b.item ≡ x) × (b.update_index ≡ r)
readers_from x [] r i = absurd i
readers_from x (z ∷ zs) r i = at (eqb z.item x) refl z.writes (readers_from x zs r) i
  where
    Found : List UpdateOperation → Type 0
    Found ss = (b : UpdateOperation) × In b ss × (b.item ≡ x) × (b.update_index ≡ r)

    later : Found zs → Found (z ∷ zs)
    later f = (f.0, inr f.1, f.2, f.3)

    at : (here : Bool) → eqb z.item x ≡ here → (writes : Bool) → (In r (readers_of x zs) → Found zs) → In r (cond here (cond writes [] (readers_of x zs ++ z.update_index ∷ [])) (readers_of x zs)) → Found (z ∷ zs)
    at true e true rest h = absurd h
    at true e false rest h = ⊎_elim (λ j. later (rest j)) (λ j. ⊎_elim (λ p. (z, inl refl, eqb-true z.item x e, p)) (λ b. absurd b) j) (In-append_cases (readers_of x zs) (z.update_index ∷ []) r h)
    at false e writes rest h = later (rest h)

pair_front : (s : UpdateOperation) (ss : List UpdateOperation) (b : UpdateOperation) → In b ss → operations_conflict s b ≡ true → is_conflict_pair (s ∷ ss) s.update_index b.update_index ≡ true
pair_front s ss b i c =
    or_left (list_any (test s.update_index b.update_index s) ss) (any_ordered_pair (test s.update_index b.update_index) ss)
    (any-from_In (test s.update_index b.update_index s) ss b i
    (and_from (eqb s.update_index s.update_index) (eqb b.update_index b.update_index && operations_conflict s b) (eq-eqb s.update_index s.update_index refl) (and_from (eqb b.update_index b.update_index) (operations_conflict s b) (eq-eqb b.update_index b.update_index refl) c)))

pair_later : (s : UpdateOperation) (ss : List UpdateOperation) (i j : ℕ) → is_conflict_pair ss i j ≡ true → is_conflict_pair (s ∷ ss) i j ≡ true
pair_later s ss i j h = or_right (list_any (test i j s) ss) (any_ordered_pair (test i j) ss) h

-- the next writer is the step's, or before it
abbrev Reached : List UpdateOperation → ℕ → Option ℕ → Type 0
Reached ss position o = (w : ℕ) × (o ≡ Some w) × ((w ≡ position) ⊎ (is_conflict_pair ss w position ≡ true))

-- a step is a read until the next write, or that write is before it
reach : (x : ℕ) (ss : List UpdateOperation) (b : UpdateOperation) → In b ss → b.item ≡ x → (In b.update_index (readers_of x ss) × (b.writes ≡ false)) ⊎ Reached ss b.update_index (latest_writer (chain_back x ss))
reach x [] b i own = absurd i
reach x (z ∷ zs) b i own = at (eqb z.item x) refl z.writes refl (λ k. reach x zs b k own) i
  where
    Chained : Bool → Bool → Chain
    Chained here writes = cond here (cond writes (with_write (chain_back x zs) z.update_index z.value) (chain_back x zs)) (chain_back x zs)

    Outcome : List UpdateOperation → List ℕ → Chain → Type 0
    Outcome ss readers c = (In b.update_index readers × (b.writes ≡ false)) ⊎ Reached ss b.update_index (latest_writer c)

    Readers : Bool → Bool → List ℕ
    Readers here writes = cond here (cond writes [] (readers_of x zs ++ z.update_index ∷ [])) (readers_of x zs)

    further : (o : Option ℕ) → Reached zs b.update_index o → Reached (z ∷ zs) b.update_index o
    further o r = (r.0, r.1, ⊎_elim (λ e. inl e) (λ h. inr (pair_later z zs r.0 b.update_index h)) r.2)

    at : (here : Bool) → eqb z.item x ≡ here → (writes : Bool) → z.writes ≡ writes → (In b zs → Outcome zs (readers_of x zs) (chain_back x zs)) → In b (z ∷ zs) → Outcome (z ∷ zs) (Readers here writes) (Chained here writes)
    at true e true wr rest j =
        inr (
          z.update_index,
          last_put (chain_back x zs) z.update_index z.value,
          ⊎_elim (λ same. inl (ap (λ s. s.update_index) same))
              (λ k. ⊎_elim (λ p. inl p) (λ ne. inr (pair_front z zs b k (clash_from z b ne (eqb-true z.item x e ∙ sym own) (or_left z.writes b.writes wr)))) (cases_eq z.update_index b.update_index)) j,
        )
    at true e false wr rest j =
        ⊎_elim (λ same. inl (In-append_right (readers_of x zs) (z.update_index ∷ []) b.update_index (inl (ap (λ s. s.update_index) same)), sym (ap (λ s. s.writes) same) ∙ wr))
        (λ k. ⊎_elim (λ r. inl (In-append_left (readers_of x zs) (z.update_index ∷ []) b.update_index r.0, r.1)) (λ r. inr (further (latest_writer (chain_back x zs)) r)) (rest k)) j
    at false e writes wr rest j =
        ⊎_elim (λ same. absurd (eqb-false z.item x e (ap (λ s. s.item) same ∙ own)))
        (λ k. ⊎_elim (λ r. inl r) (λ r. inr (further (latest_writer (chain_back x zs)) r)) (rest k)) j

abbrev first_place : List UpdateOperation → Option ℕ
first_place [] = None
first_place (s ∷ ss) = Some s.update_index

-- the next writer is that of the first write
first_write : (x : ℕ) (ss : List UpdateOperation) → latest_writer (chain_back x ss) ≡ first_place (writes_in (on x ss))
first_write x [] = refl
first_write x (z ∷ zs) = at (eqb z.item x) z.writes (first_write x zs)
  where
    at : (here writes : Bool) → latest_writer (chain_back x zs) ≡ first_place (writes_in (on x zs))
        → latest_writer (cond here (cond z.writes (with_write (chain_back x zs) z.update_index z.value) (chain_back x zs)) (chain_back x zs)) ≡ first_place (writes_in (cond here (z ∷ on x zs) (on x zs)))
    at true writes rest = both z.writes
      where
        both : (w : Bool) → latest_writer (cond w (with_write (chain_back x zs) z.update_index z.value) (chain_back x zs)) ≡ first_place (cond w (z ∷ writes_in (on x zs)) (writes_in (on x zs)))
        both true = last_put (chain_back x zs) z.update_index z.value
        both false = rest
    at false writes rest = rest

-- ---- the pairs of some steps

pub record Kept (ss : List UpdateOperation) (pairs : List Pair) : Type 0 where
  pub sound : (p : Pair) → In p pairs → is_conflict_pair ss p.0 p.1 ≡ true
  pub covers : (S : ℕ → Bool) → Holds S pairs → (i j : ℕ) → is_conflict_pair ss i j ≡ true → S j ≡ true → S i ≡ true
  pub next : (x : ℕ) → Next (writes_in (on x ss)) pairs

-- the pairs in another order
pub kept_same : (ss : List UpdateOperation) (ps qs : List Pair) → ((p : Pair) → In p ps → In p qs) → ((p : Pair) → In p qs → In p ps) → Kept ss ps → Kept ss qs
kept_same ss ps qs to from k = record {
  sound = λ p i. k.sound p (from p i);
  covers = λ S h. k.covers S (λ p i. h p (to p i));
  next = λ x. next_more (writes_in (on x ss)) ps qs to (k.next x);
}

-- with one more step before
module _ (s : UpdateOperation) (ss : List UpdateOperation) (pairs : List Pair) (k : Kept ss pairs) where
  abbrev conflicts : List ℕ
  conflicts = later_conflicts s ss

  abbrev own : List Pair
  own = pairs_from s.update_index (later_conflicts s ss)

  abbrev writer : Option ℕ
  writer = latest_writer (chain_back s.item ss)

  to_writer : (w : ℕ) → writer ≡ Some w → In w conflicts
  to_writer w is = In-append_left (writer_in writer) (cond s.writes (readers_of s.item ss) []) w (subst (λ o. In w (writer_in o)) (sym is) (inl refl))

  to_reader : (r : ℕ) → s.writes ≡ true → In r (readers_of s.item ss) → In r conflicts
  to_reader r wr i = In-append_right (writer_in writer) (cond s.writes (readers_of s.item ss) []) r (subst (λ b. In r (cond b (readers_of s.item ss) [])) (sym wr) i)

  of_writer : (o : Option ℕ) (w : ℕ) → In w (writer_in o) → o ≡ Some w
  of_writer None w i = absurd i
  of_writer (Some v) w i = ⊎_elim (λ e. ap Some e) (λ b. absurd b) i

  -- if S contains an operation that conflicts with this one, it contains this one
  holds : (S : ℕ → Bool) → Holds S (own ++ pairs) → (j : ℕ) → In j conflicts → S j ≡ true → S s.update_index ≡ true
  holds S h j i sj = ⊎_elim (λ e. ap S e ∙ sj) (λ ne. h (s.update_index, j) (In-append_left own pairs (s.update_index, j) (in_pairs_from conflicts s.update_index j i ne)) sj) (cases_eq s.update_index j)

  later_holds : (S : ℕ → Bool) → Holds S (own ++ pairs) → Holds S pairs
  later_holds S h p i = h p (In-append_right own pairs p i)

  sound_conflict : (j : ℕ) → (s.update_index ≡ j → ⊥) → In j conflicts → is_conflict_pair (s ∷ ss) s.update_index j ≡ true
  sound_conflict j ne i =
      ⊎_elim
      (λ a. let b = writer_from s.item ss j (of_writer writer j a) in
      subst (λ z. is_conflict_pair (s ∷ ss) s.update_index z ≡ true) b.4 (pair_front s ss b.0 b.1 (clash_from s b.0 (λ e. ne (e ∙ b.4)) (sym b.2) (or_right s.writes b.0.writes b.3))))
      (λ a. read s.writes refl a)
      (In-append_cases (writer_in writer) (cond s.writes (readers_of s.item ss) []) j i)
    where
      read : (w : Bool) → s.writes ≡ w → In j (cond w (readers_of s.item ss) []) → is_conflict_pair (s ∷ ss) s.update_index j ≡ true
      read true wr a =
          let b = readers_from s.item ss j a in
          subst (λ z. is_conflict_pair (s ∷ ss) s.update_index z ≡ true) b.3 (pair_front s ss b.0 b.1 (clash_from s b.0 (λ e. ne (e ∙ b.3)) (sym b.2) (or_left s.writes b.0.writes wr)))
      read false wr a = absurd a

  front : (S : ℕ → Bool) → Holds S (own ++ pairs) → (b : UpdateOperation) → In b ss → operations_conflict s b ≡ true → S b.update_index ≡ true → S s.update_index ≡ true
  front S h b i c sb =
      ⊎_elim
      (λ r. holds S h b.update_index (to_reader b.update_index (⊎_elim (λ w. w) (λ w. absurd (true≢false (sym w ∙ r.1))) (or_cases s.writes b.writes (clash_parts s b c).1)) r.0) sb)
      (λ r. holds S h r.0 (to_writer r.0 r.1) (⊎_elim (λ e. ap S e ∙ sb) (λ before. k.covers S (later_holds S h) r.0 b.update_index before sb) r.2))
      (reach s.item ss b i (sym (clash_item s b c)))

  pub kept_operation : Kept (s ∷ ss) (own ++ pairs)
  kept_operation = record {
    sound = λ p i. ⊎_elim
        (λ a. let q = of_pairs_from conflicts s.update_index p a in subst (λ z. is_conflict_pair (s ∷ ss) z p.1 ≡ true) (sym q.0) (sound_conflict p.1 q.2 q.1))
        (λ b. pair_later s ss p.0 p.1 (k.sound p b))
        (In-append_cases own pairs p i);
    covers = λ S h i j c sj. ⊎_elim
        (λ e.
        let b = In-any (test i j s) ss e in
        let p = and_parts (eqb s.update_index i) (eqb b.0.update_index j && operations_conflict s b.0) b.2 in
        let q = and_parts (eqb b.0.update_index j) (operations_conflict s b.0) p.1 in
        subst (λ z. S z ≡ true) (eqb-true s.update_index i p.0) (front S h b.0 b.1 q.1 (ap S (eqb-true b.0.update_index j q.0) ∙ sj)))
        (λ e. k.covers S (later_holds S h) i j e sj)
        (or_cases (list_any (test i j s) ss) (any_ordered_pair (test i j) ss) c);
    next = λ x. follows x (eqb s.item x) refl s.writes refl;
  }
    where
      kept_next : (x : ℕ) → Next (writes_in (on x ss)) (own ++ pairs)
      kept_next x = next_more (writes_in (on x ss)) pairs (own ++ pairs) (λ p i. In-append_right own pairs p i) (k.next x)

      first : (ws : List UpdateOperation) → writer ≡ first_place ws → Next ws (own ++ pairs) → Next (s ∷ ws) (own ++ pairs)
      first [] is n = tt
      first (b ∷ ws) is n = ((λ ne. In-append_left own pairs (s.update_index, b.update_index) (in_pairs_from conflicts s.update_index b.update_index (to_writer b.update_index is) ne)), n)

      follows : (x : ℕ) (here : Bool) → eqb s.item x ≡ here → (writes : Bool) → s.writes ≡ writes → Next (writes_in (cond here (s ∷ on x ss) (on x ss))) (own ++ pairs)
      follows x true e writes wr = subst (λ b. Next (cond b (s ∷ writes_in (on x ss)) (writes_in (on x ss))) (own ++ pairs)) (sym wr) (both writes)
        where
          both : (w : Bool) → Next (cond w (s ∷ writes_in (on x ss)) (writes_in (on x ss))) (own ++ pairs)
          both true = first (writes_in (on x ss)) (ap (λ y. latest_writer (chain_back y ss)) (eqb-true s.item x e) ∙ first_write x ss) (kept_next x)
          both false = kept_next x
      follows x false e writes wr = kept_next x

pairs_append : (i : ℕ) (js ks : List ℕ) → pairs_from i (js ++ ks) ≡ pairs_from i js ++ pairs_from i ks
pairs_append i [] ks = refl
pairs_append i (j ∷ js) ks = ap (λ l. pair_of i j ++ l) (pairs_append i js ks) ∙ sym (append_assoc (pair_of i j) (pairs_from i js) (pairs_from i ks))

-- with the steps of one update before
pub kept_batch : (i : ℕ) (batch ss : List UpdateOperation) (pairs : List Pair) → ((s : UpdateOperation) → In s batch → s.update_index ≡ i) → Kept ss pairs → Kept (batch ++ ss) (pairs_from i (batch_conflicts batch ss) ++ pairs)
kept_batch i [] ss pairs places k = k
kept_batch i (s ∷ batch) ss pairs places k =
    subst (λ l. Kept (s ∷ batch ++ ss) (l ++ pairs)) (sym (pairs_append i before own))
    (kept_same (s ∷ batch ++ ss) (pairs_from i own ++ (pairs_from i before ++ pairs)) ((pairs_from i before ++ pairs_from i own) ++ pairs)
    (λ p j. ⊎_elim (λ a. left p (In-append_right (pairs_from i before) (pairs_from i own) p a)) (λ a. ⊎_elim (λ b. left p (In-append_left (pairs_from i before) (pairs_from i own) p b)) (λ b. In-append_right (pairs_from i before ++ pairs_from i own) pairs p b) (In-append_cases (pairs_from i before) pairs p a)) (In-append_cases (pairs_from i own) (pairs_from i before ++ pairs) p j))
    (λ p j. ⊎_elim (λ a. ⊎_elim (λ b. In-append_right (pairs_from i own) (pairs_from i before ++ pairs) p (In-append_left (pairs_from i before) pairs p b)) (λ b. In-append_left (pairs_from i own) (pairs_from i before ++ pairs) p b) (In-append_cases (pairs_from i before) (pairs_from i own) p a)) (λ a. In-append_right (pairs_from i own) (pairs_from i before ++ pairs) p (In-append_right (pairs_from i before) pairs p a)) (In-append_cases (pairs_from i before ++ pairs_from i own) pairs p j))
    (subst (λ n. Kept (s ∷ batch ++ ss) (pairs_from n own ++ (pairs_from i before ++ pairs))) (places s (inl refl))
    (kept_operation s (batch ++ ss) (pairs_from i before ++ pairs) (kept_batch i batch ss pairs (λ z j. places z (inr j)) k))))
  where
    before : List ℕ
    before = batch_conflicts batch ss

    own : List ℕ
    own = later_conflicts s (batch ++ ss)

    left : (p : Pair) → In p (pairs_from i before ++ pairs_from i own) → In p ((pairs_from i before ++ pairs_from i own) ++ pairs)
    left p j = In-append_left (pairs_from i before ++ pairs_from i own) pairs p j

-- ---- how many there are

-- the reads that no write of their item precedes
abbrev pub open_reads : List UpdateOperation → List UpdateOperation
open_reads [] = []
open_reads (s ∷ ss) = cond s.writes (filter (λ (r : UpdateOperation). not (eqb r.item s.item)) (open_reads ss)) (open_reads ss ++ s ∷ [])

on_left : (x y : ℕ) (ss : List UpdateOperation) → on x (filter (λ (r : UpdateOperation). not (eqb r.item y)) ss) ≡ cond (eqb y x) [] (on x ss)
on_left x y [] = cond_both (eqb y x) [] [] (λ (l : List UpdateOperation). [] ≡ l) (λ _. refl) (λ _. refl)
on_left x y (s ∷ ss) = ⊎_elim
    (λ e. ap (λ b. on x (cond (not b) (s ∷ kept) kept)) (eq-eqb s.item y e) ∙ (on_left x y ss ∙ same e (eqb y x) refl))
    (λ ne. ap (λ b. on x (cond (not b) (s ∷ kept) kept)) (ne_eqb s.item y ne) ∙ (ap (λ l. cond (eqb s.item x) (s ∷ l) l) (on_left x y ss) ∙ other ne (eqb y x) refl))
    (cases_eq s.item y)
  where
    kept : List UpdateOperation
    kept = filter (λ (r : UpdateOperation). not (eqb r.item y)) ss

    same : s.item ≡ y → (b : Bool) → eqb y x ≡ b → cond b [] (on x ss) ≡ cond b [] (cond (eqb s.item x) (s ∷ on x ss) (on x ss))
    same e true is = refl
    same e false is = ap (λ b. cond b (s ∷ on x ss) (on x ss)) (sym (ap (λ z. eqb z x) e ∙ is))

    other : (s.item ≡ y → ⊥) → (b : Bool) → eqb y x ≡ b → cond (eqb s.item x) (s ∷ cond b [] (on x ss)) (cond b [] (on x ss)) ≡ cond b [] (cond (eqb s.item x) (s ∷ on x ss) (on x ss))
    other ne true is = ap (λ b. cond b (s ∷ []) []) (ne_eqb s.item x (λ e. ne (e ∙ sym (eqb-true y x is))))
    other ne false is = refl

readers_open : (x : ℕ) (ss : List UpdateOperation) → readers_of x ss ≡ map (λ (s : UpdateOperation). s.update_index) (on x (open_reads ss))
readers_open x [] = refl
readers_open x (s ∷ ss) = at s.writes (readers_open x ss)
  where
    places : List UpdateOperation → List ℕ
    places ss = map (λ (s : UpdateOperation). s.update_index) ss

    at : (w : Bool) → readers_of x ss ≡ places (on x (open_reads ss))
        → cond (eqb s.item x) (cond w [] (readers_of x ss ++ s.update_index ∷ [])) (readers_of x ss) ≡ places (on x (cond w (filter (λ (r : UpdateOperation). not (eqb r.item s.item)) (open_reads ss)) (open_reads ss ++ s ∷ [])))
    at true rest = here (eqb s.item x) ∙ ap places (sym (on_left x s.item (open_reads ss)))
      where
        here : (b : Bool) → cond b [] (readers_of x ss) ≡ places (cond b [] (on x (open_reads ss)))
        here true = refl
        here false = rest
    at false rest = here (eqb s.item x) ∙ ap places (sym (filter-append (λ (s : UpdateOperation). eqb s.item x) (open_reads ss) (s ∷ [])))
      where
        here : (b : Bool) → cond b (readers_of x ss ++ s.update_index ∷ []) (readers_of x ss) ≡ places (on x (open_reads ss) ++ cond b (s ∷ []) [])
        here true = ap (λ l. l ++ s.update_index ∷ []) rest ∙ sym (map-append (λ (s : UpdateOperation). s.update_index) (on x (open_reads ss)) (s ∷ []))
        here false = rest ∙ ap places (sym (append-nil (on x (open_reads ss))))

split_count : (y : ℕ) (ss : List UpdateOperation) → length (on y ss) + length (filter (λ (r : UpdateOperation). not (eqb r.item y)) ss) ≡ length ss
split_count y [] = refl
split_count y (s ∷ ss) = at (eqb s.item y) (split_count y ss)
  where
    at : (b : Bool) → length (on y ss) + length (filter (λ (r : UpdateOperation). not (eqb r.item y)) ss) ≡ length ss
        → length (cond b (s ∷ on y ss) (on y ss)) + length (cond (not b) (s ∷ filter (λ (r : UpdateOperation). not (eqb r.item y)) ss) (filter (λ (r : UpdateOperation). not (eqb r.item y)) ss)) ≡ suc (length ss)
    at true rest = omega (arith, rest)
    at false rest = omega (arith, rest)

one_writer : (o : Option ℕ) → length (writer_in o) ≤ 1
one_writer None = omega arith
one_writer (Some w) = omega arith

operation_count : (s : UpdateOperation) (ss : List UpdateOperation) → length (later_conflicts s ss) + length (open_reads (s ∷ ss)) ≤ 2 + length (open_reads ss)
operation_count s ss = at s.writes
  where
    writer : Option ℕ
    writer = latest_writer (chain_back s.item ss)

    at : (w : Bool) → length (writer_in writer ++ cond w (readers_of s.item ss) []) + length (cond w (filter (λ (r : UpdateOperation). not (eqb r.item s.item)) (open_reads ss)) (open_reads ss ++ s ∷ [])) ≤ 2 + length (open_reads ss)
    at true = omega (arith, one_writer writer, length-append (writer_in writer) (readers_of s.item ss), ap length (readers_open s.item ss), length-map (on s.item (open_reads ss)) (λ (s : UpdateOperation). s.update_index), split_count s.item (open_reads ss))
    at false = omega (arith, one_writer writer, ap length (append-nil (writer_in writer)), length-append (open_reads ss) (s ∷ []))

pub batch_count : (batch ss : List UpdateOperation) → length (batch_conflicts batch ss) + length (open_reads (batch ++ ss)) ≤ 2 * length batch + length (open_reads ss)
batch_count [] ss = omega arith
batch_count (s ∷ batch) ss = omega (arith, batch_count batch ss, operation_count s (batch ++ ss), length-append (batch_conflicts batch ss) (later_conflicts s (batch ++ ss)))

-- ---- all of them

pub conflicting_all : (ss : List UpdateOperation) (pairs : List Pair) → Kept ss pairs → length pairs ≤ 2 * length ss → AreConflicts ss pairs
conflicting_all ss pairs k count_within_max = record {
  sound = All-from_recursion (λ (p : Pair). is_conflict_pair ss p.0 p.1 ≡ true) pairs (each_in (λ (p : Pair). is_conflict_pair ss p.0 p.1 ≡ true) pairs (λ p i. k.sound p i));
  closed = λ S d. k.covers S (λ p i. All-contains (λ (p : Pair). S p.1 ≡ true → S p.0 ≡ true) pairs p d (In-Contains pairs p i));
  count_within_max = count_within_max;
}
