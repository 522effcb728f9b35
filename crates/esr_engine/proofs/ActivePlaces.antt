-- The indices of the accepted entries of active transactions: the walk along the links that finds them, how a transaction
-- began, and the operations at the sorted indices.
use Rattle.std.proofs.Common.{◌≡◌, ℕ, ◌+◌, ◌<◌, Bool, true, false, cond, List, [], ◌∷◌, ◌++◌, length, reverse, filter, IsPermutation, IsSorted, Contains, eqb, refl, sym, ◌∙◌, ap, subst, ⊎_elim, arith, Option, None, Some, append-nil, append_assoc, slice_get, option_map, if◌then◌else◌}
use Rattle.std.specs.Prelude.{unwrap_or}
use Rattle.std.specs.List.{filter_map, cons_option, dedup}
use Rattle.std.specs.List.Sorted.{IsStrictlyIncreasing}
use Rattle.std.specs.Ordering.{nat_cmp}
use Rattle.std.proofs.lemmas.Bool.{true≢false, cases_eq, eq-eqb}
use Rattle.std.proofs.lemmas.List.{reverse-reverse}
use Rattle.std.proofs.lemmas.List.Kept.{Contains-dedup_nat, Contains-from_dedup}
use Rattle.std.proofs.lemmas.List.Sorted.{Contains-permutation, IsPermutation-sym}
use Rattle.std.proofs.lemmas.Map.Keys.{IsStrictlyIncreasing-dedup}
use Rattle.esr_history.specs.declared.event.Event.{Event}
use Rattle.esr_history.specs.declared.event.Event.TheVariants.{BeginUpdate, BeginQuery, Read, Write, Commit, Abort}
use Rattle.esr_history.specs.declared.event.Entry.{Entry}
use Rattle.esr_history.specs.declared.back_links.Facts.{Facts}
use Rattle.esr_history.specs.BackLinks.{accepted_txn, coded, earlier, facts_of, is_some_eq, last_place, places_from, txn_in, txn_of}
use Rattle.esr_history.specs.Events.{BeginRecord, begin_records, is_active, is_refusal}
use Rattle.esr_history.specs.Machine.{Schedule, accepted_in}
use Rattle.esr_history.proofs.LegalWellFormed.{begun_in_range}
use Rattle.esr_history.proofs.Membership.{In, In-Contains, Contains-In, In-append_cases, In-append_left, In-append_right}
use Rattle.esr_history.proofs.WellFormed.{active_parts}
use Rattle.esr_order.proofs.Commits.{facts_some}
use Rattle.esr_order.proofs.Gathering.{In-reverse, In-of_reverse}
use Rattle.esr_order.proofs.Linked.{IsWalk, accepted_owns, walk_done, walk_next, walk_none, walk_smaller}
use Rattle.esr_order.proofs.Sparse.{in_places, sparse_entries}
use Rattle.esr_engine.specs.declared.carrying.ActiveEntries.{ActiveEntries}
use Rattle.esr_engine.specs.declared.carrying.ActiveTxn.{ActiveTxn}
use Rattle.esr_engine.specs.Carrying.{active_as, active_operations, is_active_operation, is_of_active, AreActiveEntries}

-- ---- a walk

-- the indices so far are the first ones, and those that the walk has visited
pub record IsAppended (es : List Entry) (t : ℕ) (first places : List ℕ) (next : Option ℕ) : Type 0 where
  pub visited : List ℕ
  pub walk : IsWalk accepted_txn t es visited next
  pub is : places ≡ first ++ visited

pub appended_none : (es : List Entry) (t : ℕ) (first : List ℕ) (next : Option ℕ) → next ≡ last_place accepted_txn t es → IsAppended es t first first next
appended_none es t first next is = record { visited = []; walk = walk_none accepted_txn t es next is; is = sym (append-nil first) }

module _ (es : List Entry) (t : ℕ) (first places : List ℕ) (next : Option ℕ) (was : IsAppended es t first places next) where
  pub appended_next : (i : ℕ) → next ≡ Some i → (more : List ℕ) → more ≡ places ++ i ∷ [] → (after : Option ℕ) → after ≡ earlier accepted_txn txn_in es i → IsAppended es t first more after
  appended_next i some more grown after then_is = record {
    visited = was.visited ++ i ∷ [];
    walk = walk_next accepted_txn txn_in (accepted_owns txn_in) t es was.visited next was.walk i some (was.visited ++ i ∷ []) after refl then_is;
    is = grown ∙ (ap (λ l. l ++ i ∷ []) was.is ∙ append_assoc first was.visited (i ∷ []));
  }

  pub appended_smaller : (i : ℕ) → next ≡ Some i → (after : Option ℕ) → after ≡ earlier accepted_txn txn_in es i → coded after < coded next
  appended_smaller i some after then_is = walk_smaller accepted_txn txn_in (accepted_owns txn_in) t es was.visited next was.walk i some after then_is

  pub appended_done : next ≡ None → places ≡ first ++ reverse (places_from accepted_txn t 0 es)
  appended_done none = was.is ∙ ap (λ l. first ++ l) (sym (reverse-reverse was.visited) ∙ ap reverse (walk_done accepted_txn t es was.visited next none was.walk))

-- ---- begins

-- how a transaction began, by its facts
pub begun_so : (h : Schedule) (t : ℕ) (f : Facts) → Some f ≡ facts_of h.entries t → ◌≡◌ {A = ActiveTxn} record { txn = record { 0 = t }; query = f.query; limit = f.limit; strict = f.strict } (active_as h t)
begun_so h t f some =
    let s = facts_some h.entries t f some in
    ap (λ (g : Facts). let a : ActiveTxn = record { txn = record { 0 = t }; query = g.query; limit = g.limit; strict = g.strict } in a) s.2
    ∙ sym (ap (λ (o : Option BeginRecord). let a : ActiveTxn = record {
      txn = record { 0 = t };
      query = unwrap_or (option_map (λ b. b.query) o) false;
      limit = unwrap_or (option_map (λ b. b.limit) o) 0;
      strict = unwrap_or (option_map (λ b. b.strict) o) false;
    } in a) s.1)

-- ---- the indices of all active transactions

places_below : (key : Entry → Option ℕ) (k n : ℕ) (es : List Entry) (i : ℕ) → In i (places_from key k n es) → i < n + length es
places_below key k n [] i j = absurd j
places_below key k n (e ∷ es) i j = at (is_some_eq (key e) k) (λ l. let m : i < n + 1 + length es = places_below key k (n + 1) es i l in omega arith) j
  where
    at : (b : Bool) → (In i (places_from key k (n + 1) es) → i < n + length (e ∷ es)) → In i (if b then n ∷ places_from key k (n + 1) es else places_from key k (n + 1) es) → i < n + length (e ∷ es)
    at true rest l = ⊎_elim (λ f. omega arith) rest l
    at false rest l = rest l

-- the transaction of an operation of an active transaction
active_key : (h : Schedule) (e : Entry) → is_of_active h e ≡ true → (t : ℕ) × (is_active (accepted_in h) t ≡ true) × (is_some_eq (accepted_txn e) t ≡ true)
active_key h e is = at (is_refusal e.reply) e.event is
  where
    at : (b : Bool) (v : Event) → (if b then false else is_active_operation h v) ≡ true → (t : ℕ) × (is_active (accepted_in h) t ≡ true) × (is_some_eq (if b then None else txn_of v e.reply) t ≡ true)
    at true v is = absurd (true≢false (sym is))
    at false (Read t x) is = (t.0, is, eq-eqb t.0 t.0 refl)
    at false (Write t x v) is = (t.0, is, eq-eqb t.0 t.0 refl)
    at false (BeginUpdate l) is = absurd (true≢false (sym is))
    at false (BeginQuery l s) is = absurd (true≢false (sym is))
    at false (Commit t) is = absurd (true≢false (sym is))
    at false (Abort t) is = absurd (true≢false (sym is))

-- the indices are of entries, and those of the active transactions up to number k are among them
pub record CoverUpTo (h : Schedule) (k : ℕ) (places : List ℕ) : Type 0 where
  pub inside : (i : ℕ) → In i places → i < length h.entries
  pub all : (t : ℕ) → t < k + 1 → is_active (accepted_in h) t ≡ true → (i : ℕ) → In i (places_from accepted_txn t 0 h.entries) → In i places

pub cover_same : (h : Schedule) (k : ℕ) (places : List ℕ) → is_active (accepted_in h) (k + 1) ≡ false → CoverUpTo h k places → CoverUpTo h (k + 1) places
cover_same h k places ended was = record {
  inside = was.inside;
  all = λ t l act i j. ⊎_elim (λ e. absurd (true≢false (sym act ∙ (ap (is_active (accepted_in h)) e ∙ ended)))) (λ ne. was.all t (omega arith) act i j) (cases_eq t (k + 1));
}

pub cover_more : (h : Schedule) (k : ℕ) (places more : List ℕ) → more ≡ places ++ reverse (places_from accepted_txn (k + 1) 0 h.entries) → CoverUpTo h k places → CoverUpTo h (k + 1) more
cover_more h k places more grown was =
    let own : List ℕ = places_from accepted_txn (k + 1) 0 h.entries in
    subst (CoverUpTo h (k + 1)) (sym grown) (record {
      inside = λ i j. ⊎_elim (λ old. was.inside i old) (λ new. let l : i < 0 + length h.entries = places_below accepted_txn (k + 1) 0 h.entries i (In-of_reverse own i new) in omega arith) (In-append_cases places (reverse own) i j);
      all = λ t l act i j. ⊎_elim
          (λ e. In-append_right places (reverse own) i (In-reverse own i (subst (λ n. In i (places_from accepted_txn n 0 h.entries)) e j)))
          (λ ne. In-append_left places (reverse own) i (was.all t (omega arith) act i j))
          (cases_eq t (k + 1));
    })

pub cover_all : (h : Schedule) (n : ℕ) (places : List ℕ) → n ≡ length (begin_records (accepted_in h)) → CoverUpTo h n places
    → (i : ℕ) (e : Entry) → slice_get h.entries i ≡ Some e → is_of_active h e ≡ true → Contains places i
cover_all h n places is was i e at of_active =
    let a = active_key h e of_active in
    let range = begun_in_range (accepted_in h) a.0 (active_parts (accepted_in h) a.0 a.1).0 in
    let z : 0 + i ≡ i = omega arith in
    In-Contains places i (was.all a.0 (omega (arith, range.1, is)) a.1 i (subst (λ k. In k (places_from accepted_txn a.0 0 h.entries)) z (in_places accepted_txn a.0 0 h.entries i e at a.2)))

-- ---- the operations at the sorted indices

filter_as : {X : Type 0} (p : X → Bool) (xs : List X) → filter p xs ≡ filter_map (λ x. if p x then Some x else None) xs
filter_as p [] = refl
filter_as p (x ∷ xs) = at (p x) (filter_as p xs)
  where
    at : (b : Bool) → filter p xs ≡ filter_map (λ x. if p x then Some x else None) xs
        → cond b (x ∷ filter p xs) (filter p xs) ≡ cons_option (if b then Some x else None) (filter_map (λ x. if p x then Some x else None) xs)
    at true rest = ap (λ l. x ∷ l) rest
    at false rest = rest

pub operations_are : (h : Schedule) (active : ActiveEntries) → AreActiveEntries h active → (sorted once : List ℕ) → IsPermutation active.places.items sorted → IsSorted nat_cmp sorted → once ≡ dedup eqb sorted
    → filter (is_of_active h) (filter_map (slice_get h.entries) once) ≡ active_operations h
operations_are h active are sorted once permutation ascends is =
    filter_as (is_of_active h) (filter_map (slice_get h.entries) once)
    ∙ (sparse_entries (λ e. if is_of_active h e then Some e else None) h.entries once (subst IsStrictlyIncreasing (sym is) (IsStrictlyIncreasing-dedup sorted ascends)) inside none
    ∙ sym (filter_as (is_of_active h) h.entries))
  where
    inside : (i : ℕ) → In i once → i < 0 + length h.entries
    inside i j =
        let c : Contains active.places.items i = Contains-permutation sorted active.places.items i (IsPermutation-sym active.places.items sorted permutation) (Contains-from_dedup eqb sorted i (subst (λ l. Contains l i) is (In-Contains once i j))) in
        let l : i < length h.entries = are.inside i c in
        omega arith

    among : (i : ℕ) → Contains active.places.items i → In i once
    among i c = Contains-In once i (subst (λ l. Contains l i) (sym is) (Contains-dedup_nat sorted i (Contains-permutation active.places.items sorted i permutation c)))

    none : (i : ℕ) (e : Entry) → slice_get h.entries i ≡ Some e → (In i once → ⊥) → (if is_of_active h e then Some e else None) ≡ None
    none i e at out = with_test (is_of_active h e) refl
      where
        with_test : (b : Bool) → is_of_active h e ≡ b → (if b then Some e else None) ≡ None
        with_test true is = absurd (out (among i (are.operations i e at is)))
        with_test false is = refl
