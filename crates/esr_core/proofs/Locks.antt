-- The locks on items.
use Rattle.std.proofs.Common.{◌≡◌, ℕ, suc, ℤ, ◌+◌, ◌<◌, ◌≤◌, List, [], ◌∷◌, ◌++◌, length, Bool, true, false, not, ◌&&◌, ◌||◌, ◌==◌, refl, sym, ◌∙◌, ap, arith, inl, inr, Option, None, Some, if◌then◌else◌, map, set, append-nil, add-zero, length-append, find, filter, unwrap_or, option_map}
use Rattle.std.specs.List.{range_with_len, list_any, filter_map}
use Rattle.std.proofs.lemmas.Bool.{cases_Bool, cases_eq, false≢true, and_parts, and_from, and_left, and_right, or_right, eq-eqb, ne_eqb, eqb-true, false_from_ne_true}
use Rattle.std.proofs.lemmas.Option.{same_Some}
use Rattle.std.proofs.lemmas.List.FromFn.{length-map-range_with_len, get_or-map-range_with_len}
use Rattle.std.proofs.lemmas.List.Elements.{filter_agree, filter-append}
use Rattle.std.proofs.lemmas.List.Sums.{sum_by_push}
use mathlib.Core.List.{map-map}
use mathlib.Core.Bool.{and-true}
use Rattle.esr_core.specs.Types.{ItemId, TxnId, Event, Read, Write}
use Rattle.esr_history.specs.Events.{BeginRecord, begin_record_of, begin_records, begin_record, txn_numbers, commits, aborts, reads, writes, is_active, is_begun, is_query, is_update, holds_read, holds_write, read_count}
use Rattle.esr_history.specs.Machine.{writer}
use Rattle.esr_history.specs.ItemLocks.{ItemLocks, query_reads, item_locks, locks_of}
use Rattle.esr_history.specs.WellFormed.{IsWellFormed}
use Rattle.esr_history.specs.Ascending.{upserted, IsSmallest}
use Rattle.esr_history.proofs.Lists.{any_push, any_push_no, find_least, filter_map_push_none, found_satisfies, or_false}
use Rattle.esr_history.proofs.Charges.{range-push}
use Rattle.esr_history.proofs.WellFormed.{active_parts, update_begun}
use Rattle.esr_history.proofs.LegalWellFormed.{begun_in_range}
use Rattle.esr_history.proofs.Ranges.{map_same, set_range, filter_map_upserted, filter_map_dropped, filter-filter_map, kept_if, kept_if_own, find_same, any_in_filter, filter_in_any}
use Rattle.esr_history.proofs.TraceOfHistory.{count_none}
use Rattle.esr_history.proofs.TraceAgreement.{query_not_update}
use Rattle.esr_locks.specs.Tables.{locks_at, no_locks, is_writer, is_reader, with_reader, with_writer, with_query_read, released, blocks_read, blocks_write}
use Rattle.esr_locks.proofs.Least.{IsSmallest-extensional}
use Rattle.esr_core.proofs.Held.{is_active-unchanged, held-begin, IsBegin, txn_numbers-unchanged, is_query-unchanged, is_update-unchanged, begin_records-begin, begin_record-begin, next_number_is_unused, read_names_reader, write_names_writer, update_or_query}
use Rattle.std.proofs.lemmas.Grind.{common_steps}

-- whether update u is active and has written (read) item x, and so holds its lock
abbrev is_update_writer : List Event → ℕ → ℕ → Bool
is_update_writer events x u = is_update events u && holds_write events u x

abbrev update_holds_read : List Event → ℕ → ℕ → Bool
update_holds_read events x u = is_update events u && holds_read events u x

pub locks_len : (events : List Event) (n : ℕ) → length (locks_of events n) ≡ n
locks_len events n = length-map-range_with_len (item_locks events) 0 n

pub locks_at_item : (events : List Event) (n x : ℕ) → x < n → locks_at (locks_of events n) x ≡ item_locks events x
locks_at_item events n x l = get_or-map-range_with_len (item_locks events) 0 n x x no_locks l (omega arith)

-- the number of a lock holder is in 1..n if n transactions have begun
holder_in_range : (events : List Event) (u : ℕ) (p : Bool) → (is_active events u && p) ≡ true → (1 ≤ u) × (u < 1 + length (begin_records events))
holder_in_range events u p is = begun_in_range events u (active_parts events u (and_parts (is_active events u) p is).0).0

filter_map_agree : {X : Type 0} (f g : ℕ → Option X) → ((u : ℕ) → f u ≡ g u) → (us : List ℕ) → filter_map f us ≡ filter_map g us
filter_map_agree f g same [] = refl
filter_map_agree f g same (u ∷ us) = rw (same u, filter_map_agree f g same us) refl

module _ (events : List Event) (o : IsWellFormed events) where
  -- at most one update holds the write lock on an item
  pub one_writer : (x u v : ℕ) → is_update_writer events x u ≡ true → is_update_writer events x v ≡ true → u ≡ v
  one_writer x u v is_u is_v =
      same_Some u v (sym (o.exclusive u x (and_parts (is_update events u) (holds_write events u x) is_u).1) ∙ o.exclusive v x (and_parts (is_update events v) (holds_write events v x) is_v).1)

  writer_in_range : (x u : ℕ) → is_update_writer events x u ≡ true → (1 ≤ u) × (u < 1 + length (begin_records events))
  writer_in_range x u is = holder_in_range events u (list_any (writes u x) events) (and_parts (is_update events u) (holds_write events u x) is).1

  -- the holder of the write lock is found
  pub writer_found : (x u : ℕ) → is_update_writer events x u ≡ true → writer events x ≡ Some u
  writer_found x u is =
      find_least (is_update_writer events x) (length (begin_records events)) (Some u)
      (is, λ v l. false_from_ne_true (is_update_writer events x v) (λ is_v. let e : v ≡ u = one_writer x v u is_v is in omega arith))
      (writer_in_range x)

  -- the field `writer` of the locks of an item is the update that holds the write lock
  pub writer_is : (x u : ℕ) → is_writer (item_locks events x) u ≡ is_update_writer events x u
  writer_is x u =
      elim (cases_Bool (is_update_writer events x u)) [
        | inl is ↦ rw (writer_found x u is) (eq-eqb u u refl ∙ sym is)
        | inr isnt ↦ false_from_ne_true (is_writer (item_locks events x) u) (λ it. false≢true (sym isnt ∙ found (writer events x) refl it)) ∙ sym isnt
      ]
    where
      found : (w : Option ℕ) → writer events x ≡ w → unwrap_or (option_map (λ v. v == u) w) false ≡ true → is_update_writer events x u ≡ true
      found None is it = absurd (false≢true it)
      found (Some v) is it = ap (is_update_writer events x) (sym (eqb-true v u it)) ∙ found_satisfies (is_update_writer events x) (txn_numbers events) v is

  pub reader_is : (x u : ℕ) → is_reader (item_locks events x) u ≡ update_holds_read events x u
  reader_is x u =
      elim (cases_Bool (update_holds_read events x u)) [
        | inl is ↦
            let n : (1 ≤ u) × (u < 1 + length (begin_records events)) = holder_in_range events u (list_any (reads u x) events) (and_parts (is_update events u) (holds_read events u x) is).1 in
            filter_in_any (update_holds_read events x) u 1 (length (begin_records events)) is n.0 n.1 ∙ sym is
        | inr isnt ↦ false_from_ne_true (is_reader (item_locks events x) u) (λ it. false≢true (sym isnt ∙ any_in_filter (update_holds_read events x) u (txn_numbers events) it)) ∙ sym isnt
      ]

  -- the search over all transactions finds the update that blocks a read
  pub find_read_blocker : (t x : ℕ) (r : Option ℕ) → IsSmallest (blocks_read (item_locks events x) t) r → find (λ u. not (u == t) && is_update_writer events x u) (txn_numbers events) ≡ r
  find_read_blocker t x r least =
      find_least (λ u. not (u == t) && is_update_writer events x u) (length (begin_records events)) r
      (IsSmallest-extensional (blocks_read (item_locks events x) t) (λ u. not (u == t) && is_update_writer events x u) r (λ u. ap (λ b. not (u == t) && b) (writer_is x u)) least)
      (λ u is. writer_in_range x u (and_parts (not (u == t)) (is_update_writer events x u) is).1)

  holds_either_lock : (u x : ℕ) → (update_holds_read events x u || is_update_writer events x u) ≡ (is_update events u && (holds_read events u x || holds_write events u x))
  holds_either_lock u x = grind (arith, common_steps)

  pub find_write_blocker : (t x : ℕ) (r : Option ℕ) → IsSmallest (blocks_write (item_locks events x) t) r → find (λ u. not (u == t) && (is_update events u && (holds_read events u x || holds_write events u x))) (txn_numbers events) ≡ r
  find_write_blocker t x r least =
      find_least (λ u. not (u == t) && (is_update events u && (holds_read events u x || holds_write events u x))) (length (begin_records events)) r
      (IsSmallest-extensional (blocks_write (item_locks events x) t) (λ u. not (u == t) && (is_update events u && (holds_read events u x || holds_write events u x))) r
      (λ u. ap (λ b. not (u == t) && b) (ap (λ b. b || is_writer (item_locks events x) u) (reader_is x u) ∙ (ap (λ b. update_holds_read events x u || b) (writer_is x u) ∙ holds_either_lock u x))) least)
      number
    where
      number : (u : ℕ) → (not (u == t) && (is_update events u && (holds_read events u x || holds_write events u x))) ≡ true → (1 ≤ u) × (u < 1 + length (begin_records events))
      number u is = begun_in_range events u (update_begun events u (and_parts (is_update events u) (holds_read events u x || holds_write events u x) (and_parts (not (u == t)) (is_update events u && (holds_read events u x || holds_write events u x)) is).1).0)

locks_congruent : (w v : Option ℕ) (r s : List ℕ) (q p : List (ℕ × ℕ)) → w ≡ v → r ≡ s → q ≡ p → ◌≡◌ {A = ItemLocks} (record { writer = w; readers = r; queries = q }) (record { writer = v; readers = s; queries = p })
locks_congruent w v r s q p e f g = grind (arith, common_steps)

-- lists of events with the same transactions and the same lock holders have the same locks on an item
locks_extensional : (old new : List Event) (x : ℕ) → txn_numbers new ≡ txn_numbers old → ((u : ℕ) → is_update_writer new x u ≡ is_update_writer old x u) → ((u : ℕ) → update_holds_read new x u ≡ update_holds_read old x u) → ((u : ℕ) → query_reads new x u ≡ query_reads old x u)
    → item_locks new x ≡ item_locks old x
locks_extensional old new x n w r q =
    let writers : writer new x ≡ writer old x = ap (find (is_update_writer new x)) n ∙ find_same (is_update_writer new x) (is_update_writer old x) w (txn_numbers old) in
    let readers : filter (update_holds_read new x) (txn_numbers new) ≡ filter (update_holds_read old x) (txn_numbers old) = ap (filter (update_holds_read new x)) n ∙ filter_agree (update_holds_read new x) (update_holds_read old x) r (txn_numbers old) in
    let queries : filter_map (query_reads new x) (txn_numbers new) ≡ filter_map (query_reads old x) (txn_numbers old) = ap (filter_map (query_reads new x)) n ∙ filter_map_agree (query_reads new x) (query_reads old x) q (txn_numbers old) in
    locks_congruent (writer new x) (writer old x) (filter (update_holds_read new x) (txn_numbers new)) (filter (update_holds_read old x) (txn_numbers old)) (filter_map (query_reads new x) (txn_numbers new)) (filter_map (query_reads old x) (txn_numbers old)) writers readers queries

query_reads_keyed_by_query : (events : List Event) (x u : ℕ) (y : ℕ × ℕ) → query_reads events x u ≡ Some y → y.0 ≡ u
query_reads_keyed_by_query events x u y is = at (is_query events u && holds_read events u x) is
  where
    at : (b : Bool) → (if b then Some (u, read_count events u x) else None) ≡ Some y → y.0 ≡ u
    at true is' = ap (λ (z : ℕ × ℕ). z.0) (sym (same_Some (u, read_count events u x) y is'))
    at false is' = absurd (cc)

-- An event other than a begin, a commit or an abort.
module _ (events : List Event) (e : Event) (none : begin_record_of e ≡ None) (c : (t : ℕ) → commits t e ≡ false) (a : (t : ℕ) → aborts t e ≡ false) (x : ℕ) where
  is_update_writer-step : (u : ℕ) → is_update_writer (events ++ e ∷ []) x u ≡ (is_update events u && (is_active events u && (list_any (writes u x) events || writes u x e)))
  is_update_writer-step u = rw (is_update-unchanged events e none u, is_active-unchanged events e none c a u, any_push (writes u x) events e) refl

  update_holds_read-step : (u : ℕ) → update_holds_read (events ++ e ∷ []) x u ≡ (is_update events u && (is_active events u && (list_any (reads u x) events || reads u x e)))
  update_holds_read-step u = rw (is_update-unchanged events e none u, is_active-unchanged events e none c a u, any_push (reads u x) events e) refl

  read_count-extended : (u : ℕ) → read_count (events ++ e ∷ []) u x ≡ read_count events u x + (if reads u x e then 1 else 0)
  read_count-extended u = sum_by_push (λ f. if reads u x f then 1 else 0) events e

  query_reads-step : (u : ℕ) → query_reads (events ++ e ∷ []) x u ≡ (if is_query events u && (is_active events u && (list_any (reads u x) events || reads u x e)) then Some (u, read_count events u x + (if reads u x e then 1 else 0)) else None)
  query_reads-step u = rw (is_query-unchanged events e none u, is_active-unchanged events e none c a u, any_push (reads u x) events e, read_count-extended u) refl

  is_update_writer-unchanged : (u : ℕ) → writes u x e ≡ false → is_update_writer (events ++ e ∷ []) x u ≡ is_update_writer events x u
  is_update_writer-unchanged u fails = is_update_writer-step u ∙ ap (λ b. is_update events u && (is_active events u && b)) (ap (λ b. list_any (writes u x) events || b) fails ∙ or_false (list_any (writes u x) events))

  update_holds_read-unchanged : (u : ℕ) → reads u x e ≡ false → update_holds_read (events ++ e ∷ []) x u ≡ update_holds_read events x u
  update_holds_read-unchanged u fails = update_holds_read-step u ∙ ap (λ b. is_update events u && (is_active events u && b)) (ap (λ b. list_any (reads u x) events || b) fails ∙ or_false (list_any (reads u x) events))

  query_reads-unchanged : (u : ℕ) → reads u x e ≡ false → query_reads (events ++ e ∷ []) x u ≡ query_reads events x u
  query_reads-unchanged u fails = grind (arith, query_reads-step u, or_false (list_any (reads u x) events), add-zero (read_count events u x))

  -- an event that neither reads nor writes the item leaves its locks unchanged
  locks-unaffected : ((u : ℕ) → writes u x e ≡ false) → ((u : ℕ) → reads u x e ≡ false) → item_locks (events ++ e ∷ []) x ≡ item_locks events x
  locks-unaffected w r = locks_extensional events (events ++ e ∷ []) x (txn_numbers-unchanged events e none) (λ u. is_update_writer-unchanged u (w u)) (λ u. update_holds_read-unchanged u (r u)) (λ u. query_reads-unchanged u (r u))

-- a read by an update
module _ (events : List Event) (t : TxnId) (x : ItemId) where
  read_matches_itself : reads t.0 x.0 (Read t x) ≡ true
  read_matches_itself = and_from (t.0 == t.0) (x.0 == x.0) (eq-eqb t.0 t.0 refl) (eq-eqb x.0 x.0 refl)

  no_other_reads : (u : ℕ) → (u ≡ t.0 → ⊥) → reads u x.0 (Read t x) ≡ false
  no_other_reads u ne = and_left (t.0 == u) (x.0 == x.0) (ne_eqb t.0 u (λ (f : t.0 ≡ u). ne (sym f)))

  writer_unchanged_by_read : writer (events ++ Read t x ∷ []) x.0 ≡ writer events x.0
  writer_unchanged_by_read = ap (find (is_update_writer (events ++ Read t x ∷ []) x.0)) (txn_numbers-unchanged events (Read t x) refl) ∙ find_same (is_update_writer (events ++ Read t x ∷ []) x.0) (is_update_writer events x.0) (λ u. is_update_writer-unchanged events (Read t x) refl (λ v. refl) (λ v. refl) x.0 u refl) (txn_numbers events)

  locks-read : is_update events t.0 ≡ true → is_active events t.0 ≡ true → item_locks (events ++ Read t x ∷ []) x.0 ≡ with_reader t.0 (item_locks events x.0)
  locks-read update act =
      let r : filter (update_holds_read (events ++ Read t x ∷ []) x.0) (txn_numbers (events ++ Read t x ∷ [])) ≡ upserted (λ u. u) t.0 t.0 (λ u. u) (filter (update_holds_read events x.0) (txn_numbers events)) =
      ap (filter (update_holds_read (events ++ Read t x ∷ []) x.0)) (txn_numbers-unchanged events (Read t x) refl)
      ∙ (filter-filter_map (update_holds_read (events ++ Read t x ∷ []) x.0) (txn_numbers events)
      ∙ (filter_map_upserted (λ u. u) (kept_if (update_holds_read events x.0)) (kept_if_own (update_holds_read events x.0)) (kept_if (update_holds_read (events ++ Read t x ∷ []) x.0)) t.0 t.0 (λ u. u)
      (λ u ne. ap (λ b. if b then Some u else None) (update_holds_read-unchanged events (Read t x) refl (λ v. refl) (λ v. refl) x.0 u (no_other_reads u ne)))
      (ap (λ b. if b then Some t.0 else None) holds_read_after ∙ was (update_holds_read events x.0 t.0))
      1 (length (begin_records events)) number.0 number.1
      ∙ ap (upserted (λ u. u) t.0 t.0 (λ u. u)) (sym (filter-filter_map (update_holds_read events x.0) (txn_numbers events))))) in
      let q : filter_map (query_reads (events ++ Read t x ∷ []) x.0) (txn_numbers (events ++ Read t x ∷ [])) ≡ filter_map (query_reads events x.0) (txn_numbers events) =
      ap (filter_map (query_reads (events ++ Read t x ∷ []) x.0)) (txn_numbers-unchanged events (Read t x) refl) ∙ filter_map_agree (query_reads (events ++ Read t x ∷ []) x.0) (query_reads events x.0) queries (txn_numbers events) in
      locks_congruent (writer (events ++ Read t x ∷ []) x.0) (writer events x.0) (filter (update_holds_read (events ++ Read t x ∷ []) x.0) (txn_numbers (events ++ Read t x ∷ []))) (upserted (λ u. u) t.0 t.0 (λ u. u) (filter (update_holds_read events x.0) (txn_numbers events)))
      (filter_map (query_reads (events ++ Read t x ∷ []) x.0) (txn_numbers (events ++ Read t x ∷ []))) (filter_map (query_reads events x.0) (txn_numbers events)) writer_unchanged_by_read r q
    where
      number : (1 ≤ t.0) × (t.0 < 1 + length (begin_records events))
      number = begun_in_range events t.0 (update_begun events t.0 update)

      holds_read_after : update_holds_read (events ++ Read t x ∷ []) x.0 t.0 ≡ true
      holds_read_after =
          update_holds_read-step events (Read t x) refl (λ v. refl) (λ v. refl) x.0 t.0
          ∙ (ap (λ b. b && (is_active events t.0 && (list_any (reads t.0 x.0) events || reads t.0 x.0 (Read t x)))) update
          ∙ (ap (λ b. b && (list_any (reads t.0 x.0) events || reads t.0 x.0 (Read t x))) act
          ∙ or_right (list_any (reads t.0 x.0) events) (reads t.0 x.0 (Read t x)) read_matches_itself))

      was : (b : Bool) → ◌≡◌ {A = Option ℕ} (Some t.0) (Some (unwrap_or (option_map (λ u. u) (if b then Some t.0 else None)) t.0))
      was true = refl
      was false = refl

      queries : (u : ℕ) → query_reads (events ++ Read t x ∷ []) x.0 u ≡ query_reads events x.0 u
      queries u = grind (arith, cases_eq u t.0, query_reads-step events (Read t x) refl (λ v. refl) (λ v. refl) x.0 u, query_reads-unchanged events (Read t x) refl (λ v. refl) (λ v. refl) x.0 u, no_other_reads u, update_or_query events t.0 update)

  -- a read by a query
  locks-query_read : is_query events t.0 ≡ true → is_active events t.0 ≡ true → item_locks (events ++ Read t x ∷ []) x.0 ≡ with_query_read t.0 (item_locks events x.0)
  locks-query_read query act =
      let r : filter (update_holds_read (events ++ Read t x ∷ []) x.0) (txn_numbers (events ++ Read t x ∷ [])) ≡ filter (update_holds_read events x.0) (txn_numbers events) =
      ap (filter (update_holds_read (events ++ Read t x ∷ []) x.0)) (txn_numbers-unchanged events (Read t x) refl) ∙ filter_agree (update_holds_read (events ++ Read t x ∷ []) x.0) (update_holds_read events x.0) readers (txn_numbers events) in
      let q : filter_map (query_reads (events ++ Read t x ∷ []) x.0) (txn_numbers (events ++ Read t x ∷ [])) ≡ upserted (λ (p : ℕ × ℕ). p.0) t.0 (t.0, 1) (λ (p : ℕ × ℕ). (p.0, p.1 + 1)) (filter_map (query_reads events x.0) (txn_numbers events)) =
      ap (filter_map (query_reads (events ++ Read t x ∷ []) x.0)) (txn_numbers-unchanged events (Read t x) refl)
      ∙ filter_map_upserted (λ (p : ℕ × ℕ). p.0) (query_reads events x.0) (query_reads_keyed_by_query events x.0) (query_reads (events ++ Read t x ∷ []) x.0) t.0 (t.0, 1) (λ (p : ℕ × ℕ). (p.0, p.1 + 1))
      (λ u ne. query_reads-unchanged events (Read t x) refl (λ v. refl) (λ v. refl) x.0 u (no_other_reads u ne))
      (holds_read_after ∙ was (list_any (reads t.0 x.0) events) refl)
      1 (length (begin_records events)) number.0 number.1 in
      locks_congruent (writer (events ++ Read t x ∷ []) x.0) (writer events x.0) (filter (update_holds_read (events ++ Read t x ∷ []) x.0) (txn_numbers (events ++ Read t x ∷ []))) (filter (update_holds_read events x.0) (txn_numbers events))
      (filter_map (query_reads (events ++ Read t x ∷ []) x.0) (txn_numbers (events ++ Read t x ∷ []))) (upserted (λ (p : ℕ × ℕ). p.0) t.0 (t.0, 1) (λ (p : ℕ × ℕ). (p.0, p.1 + 1)) (filter_map (query_reads events x.0) (txn_numbers events))) writer_unchanged_by_read r q
    where
      number : (1 ≤ t.0) × (t.0 < 1 + length (begin_records events))
      number = begun_in_range events t.0 (active_parts events t.0 act).0

      readers : (u : ℕ) → update_holds_read (events ++ Read t x ∷ []) x.0 u ≡ update_holds_read events x.0 u
      readers u = grind (arith, cases_eq u t.0, update_holds_read-step events (Read t x) refl (λ v. refl) (λ v. refl) x.0 u, update_holds_read-unchanged events (Read t x) refl (λ v. refl) (λ v. refl) x.0 u, no_other_reads u, query_not_update events t.0 query)

      holds_read_after : query_reads (events ++ Read t x ∷ []) x.0 t.0 ≡ Some (t.0, read_count events t.0 x.0 + 1)
      holds_read_after =
          query_reads-step events (Read t x) refl (λ v. refl) (λ v. refl) x.0 t.0
          ∙ (ap (λ b. if b && (is_active events t.0 && (list_any (reads t.0 x.0) events || reads t.0 x.0 (Read t x))) then Some (t.0, read_count events t.0 x.0 + (if reads t.0 x.0 (Read t x) then 1 else 0)) else None) query
          ∙ (ap (λ b. if b && (list_any (reads t.0 x.0) events || reads t.0 x.0 (Read t x)) then Some (t.0, read_count events t.0 x.0 + (if reads t.0 x.0 (Read t x) then 1 else 0)) else None) act
          ∙ (ap (λ b. if list_any (reads t.0 x.0) events || b then Some (t.0, read_count events t.0 x.0 + (if b then 1 else 0)) else None) read_matches_itself
          ∙ ap (λ b. if b then Some (t.0, read_count events t.0 x.0 + 1) else None) (or_right (list_any (reads t.0 x.0) events) true refl))))

      was : (b : Bool) → list_any (reads t.0 x.0) events ≡ b → ◌≡◌ {A = Option (ℕ × ℕ)} (Some (t.0, read_count events t.0 x.0 + 1)) (Some (unwrap_or (option_map (λ (p : ℕ × ℕ). (p.0, p.1 + 1)) (query_reads events x.0 t.0)) (t.0, 1)))
      was true did = ap (λ b. Some (unwrap_or (option_map (λ (p : ℕ × ℕ). (p.0, p.1 + 1)) (if b then Some (t.0, read_count events t.0 x.0) else None)) (t.0, 1))) (sym (and_from (is_query events t.0) (holds_read events t.0 x.0) query (and_from (is_active events t.0) (list_any (reads t.0 x.0) events) act did)))
      was false did =
          grind (arith, count_none (reads t.0 x.0) events did, and_right, and_right (is_active events t.0) (list_any (reads t.0 x.0) events) did)

-- a write of an item on which no other update holds a lock
module _ (events : List Event) (t : TxnId) (x : ItemId) (v : ℤ) where
  pub locks-write : IsWellFormed (events ++ Write t x v ∷ []) → is_update events t.0 ≡ true → is_active events t.0 ≡ true → item_locks (events ++ Write t x v ∷ []) x.0 ≡ with_writer t.0 (item_locks events x.0)
  locks-write o update act =
      let w : writer (events ++ Write t x v ∷ []) x.0 ≡ Some t.0 = writer_found (events ++ Write t x v ∷ []) o x.0 t.0 writes_now in
      let r : filter (update_holds_read (events ++ Write t x v ∷ []) x.0) (txn_numbers (events ++ Write t x v ∷ [])) ≡ filter (update_holds_read events x.0) (txn_numbers events) =
      ap (filter (update_holds_read (events ++ Write t x v ∷ []) x.0)) (txn_numbers-unchanged events (Write t x v) refl) ∙ filter_agree (update_holds_read (events ++ Write t x v ∷ []) x.0) (update_holds_read events x.0) (λ u. update_holds_read-unchanged events (Write t x v) refl (λ w. refl) (λ w. refl) x.0 u refl) (txn_numbers events) in
      let q : filter_map (query_reads (events ++ Write t x v ∷ []) x.0) (txn_numbers (events ++ Write t x v ∷ [])) ≡ filter_map (query_reads events x.0) (txn_numbers events) =
      ap (filter_map (query_reads (events ++ Write t x v ∷ []) x.0)) (txn_numbers-unchanged events (Write t x v) refl) ∙ filter_map_agree (query_reads (events ++ Write t x v ∷ []) x.0) (query_reads events x.0) (λ u. query_reads-unchanged events (Write t x v) refl (λ w. refl) (λ w. refl) x.0 u refl) (txn_numbers events) in
      locks_congruent (writer (events ++ Write t x v ∷ []) x.0) (Some t.0) (filter (update_holds_read (events ++ Write t x v ∷ []) x.0) (txn_numbers (events ++ Write t x v ∷ []))) (filter (update_holds_read events x.0) (txn_numbers events))
      (filter_map (query_reads (events ++ Write t x v ∷ []) x.0) (txn_numbers (events ++ Write t x v ∷ []))) (filter_map (query_reads events x.0) (txn_numbers events)) w r q
    where
      writes_now : is_update_writer (events ++ Write t x v ∷ []) x.0 t.0 ≡ true
      writes_now =
          is_update_writer-step events (Write t x v) refl (λ w. refl) (λ w. refl) x.0 t.0
          ∙ (ap (λ b. b && (is_active events t.0 && (list_any (writes t.0 x.0) events || writes t.0 x.0 (Write t x v)))) update
          ∙ (ap (λ b. b && (list_any (writes t.0 x.0) events || writes t.0 x.0 (Write t x v))) act
          ∙ or_right (list_any (writes t.0 x.0) events) (writes t.0 x.0 (Write t x v)) (and_from (t.0 == t.0) (x.0 == x.0) (eq-eqb t.0 t.0 refl) (eq-eqb x.0 x.0 refl))))

-- the end of a transaction
module _ (events : List Event) (o : IsWellFormed events) (e : Event) (none : begin_record_of e ≡ None) (t : ℕ) (ends : (u : ℕ) → is_active (events ++ e ∷ []) u ≡ (is_active events u && not (t == u)))
    (no_reads : (u x : ℕ) → reads u x e ≡ false) (no_writes : (u x : ℕ) → writes u x e ≡ false) (x : ℕ) where
  and_not_swap : (a b e' c : Bool) → (a && ((b && not e') && c)) ≡ ((a && (b && c)) && not e')
  and_not_swap true true true c = sym (and_right c false refl)
  and_not_swap true true false true = refl
  and_not_swap true true false false = refl
  and_not_swap true false e' c = refl
  and_not_swap false b e' c = refl

  is_update_writer-end : (u : ℕ) → is_update_writer (events ++ e ∷ []) x u ≡ (is_update_writer events x u && not (t == u))
  is_update_writer-end u = rw (is_update-unchanged events e none u, ends u, any_push_no (writes u x) events e (no_writes u x)) (and_not_swap (is_update events u) (is_active events u) (t == u) (list_any (writes u x) events))

  update_holds_read-end : (u : ℕ) → update_holds_read (events ++ e ∷ []) x u ≡ (update_holds_read events x u && not (t == u))
  update_holds_read-end u = rw (is_update-unchanged events e none u, ends u, any_push_no (reads u x) events e (no_reads u x)) (and_not_swap (is_update events u) (is_active events u) (t == u) (list_any (reads u x) events))

  read_count-unchanged_by_end : (u : ℕ) → read_count (events ++ e ∷ []) u x ≡ read_count events u x
  read_count-unchanged_by_end u = sum_by_push (λ f. if reads u x f then 1 else 0) events e ∙ (ap (λ b. read_count events u x + (if b then 1 else 0)) (no_reads u x) ∙ add-zero (read_count events u x))

  query_reads-end : (u : ℕ) → query_reads (events ++ e ∷ []) x u ≡ (if (is_query events u && holds_read events u x) && not (t == u) then Some (u, read_count events u x) else None)
  query_reads-end u =
      ap (λ n. if is_query (events ++ e ∷ []) u && holds_read (events ++ e ∷ []) u x then Some (u, n) else None) (read_count-unchanged_by_end u)
      ∙ ap (λ b. if b then Some (u, read_count events u x) else None) (rw (is_query-unchanged events e none u, ends u, any_push_no (reads u x) events e (no_reads u x)) (and_not_swap (is_query events u) (is_active events u) (t == u) (list_any (reads u x) events)))

  and_not_other : (b : Bool) (u : ℕ) → (u ≡ t → ⊥) → (b && not (t == u)) ≡ b
  and_not_other b u ne = ap (λ c. b && not c) (ne_eqb t u (λ (f : t ≡ u). ne (sym f))) ∙ and-true b

  and_not_self : (b : Bool) → (b && not (t == t)) ≡ false
  and_not_self b = ap (λ c. b && not c) (eq-eqb t t refl) ∙ and_right b false refl

  pub locks-end : item_locks (events ++ e ∷ []) x ≡ released t (item_locks events x)
  locks-end =
      let r : filter (update_holds_read (events ++ e ∷ []) x) (txn_numbers (events ++ e ∷ [])) ≡ filter (λ u. not (u == t)) (filter (update_holds_read events x) (txn_numbers events)) =
      ap (filter (update_holds_read (events ++ e ∷ []) x)) (txn_numbers-unchanged events e none)
      ∙ (filter-filter_map (update_holds_read (events ++ e ∷ []) x) (txn_numbers events)
      ∙ (filter_map_dropped (λ u. u) (kept_if (update_holds_read events x)) (kept_if_own (update_holds_read events x)) (kept_if (update_holds_read (events ++ e ∷ []) x)) t
      (λ u ne. ap (λ b. if b then Some u else None) (update_holds_read-end u ∙ and_not_other (update_holds_read events x u) u ne))
      (ap (λ b. if b then Some t else None) (update_holds_read-end t ∙ and_not_self (update_holds_read events x t))) (txn_numbers events)
      ∙ ap (filter (λ u. not (u == t))) (sym (filter-filter_map (update_holds_read events x) (txn_numbers events))))) in
      let q : filter_map (query_reads (events ++ e ∷ []) x) (txn_numbers (events ++ e ∷ [])) ≡ filter (λ (p : ℕ × ℕ). not (p.0 == t)) (filter_map (query_reads events x) (txn_numbers events)) =
      ap (filter_map (query_reads (events ++ e ∷ []) x)) (txn_numbers-unchanged events e none)
      ∙ filter_map_dropped (λ (p : ℕ × ℕ). p.0) (query_reads events x) (query_reads_keyed_by_query events x) (query_reads (events ++ e ∷ []) x) t
      (λ u ne. query_reads-end u ∙ ap (λ b. if b then Some (u, read_count events u x) else None) (and_not_other (is_query events u && holds_read events u x) u ne))
      (query_reads-end t ∙ ap (λ b. if b then Some (t, read_count events t x) else None) (and_not_self (is_query events t && holds_read events t x))) (txn_numbers events) in
      locks_congruent (writer (events ++ e ∷ []) x) (if is_writer (item_locks events x) t then None else writer events x) (filter (update_holds_read (events ++ e ∷ []) x) (txn_numbers (events ++ e ∷ []))) (filter (λ u. not (u == t)) (filter (update_holds_read events x) (txn_numbers events)))
      (filter_map (query_reads (events ++ e ∷ []) x) (txn_numbers (events ++ e ∷ []))) (filter (λ (p : ℕ × ℕ). not (p.0 == t)) (filter_map (query_reads events x) (txn_numbers events)))
      (ap (find (is_update_writer (events ++ e ∷ []) x)) (txn_numbers-unchanged events e none) ∙ writers (is_update_writer events x t) refl) r q
    where
      writers : (b : Bool) → is_update_writer events x t ≡ b → find (is_update_writer (events ++ e ∷ []) x) (txn_numbers events) ≡ (if is_writer (item_locks events x) t then None else writer events x)
      writers true is =
          no_one (txn_numbers events) ∙ ap (λ b. if b then None else writer events x) (sym (writer_is events o x t ∙ is))
        where
          fails : (u : ℕ) → is_update_writer (events ++ e ∷ []) x u ≡ false
          fails u =
              elim (cases_eq u t) [
                | inl same ↦ ap (is_update_writer (events ++ e ∷ []) x) same ∙ (is_update_writer-end t ∙ and_not_self (is_update_writer events x t))
                | inr ne ↦ is_update_writer-end u ∙ (and_not_other (is_update_writer events x u) u ne ∙ false_from_ne_true (is_update_writer events x u) (λ it. ne (one_writer events o x u t it is)))
              ]

          no_one : (us : List ℕ) → find (is_update_writer (events ++ e ∷ []) x) us ≡ None
          no_one [] = refl
          no_one (u ∷ us) = rw (fails u) (no_one us)
      writers false isnt =
          find_same (is_update_writer (events ++ e ∷ []) x) (is_update_writer events x) same (txn_numbers events)
          ∙ ap (λ b. if b then None else writer events x) (sym (writer_is events o x t ∙ isnt))
        where
          same : (u : ℕ) → is_update_writer (events ++ e ∷ []) x u ≡ is_update_writer events x u
          same u =
              elim (cases_eq u t) [
                | inl is ↦ ap (is_update_writer (events ++ e ∷ []) x) is ∙ (is_update_writer-end t ∙ (and_not_self (is_update_writer events x t) ∙ (sym isnt ∙ ap (is_update_writer events x) (sym is))))
                | inr ne ↦ is_update_writer-end u ∙ and_not_other (is_update_writer events x u) u ne
              ]

-- a begin
find_range_push : (p : ℕ → Bool) (a n : ℕ) → p (a + n) ≡ false → find p (range_with_len a (n + 1)) ≡ find p (range_with_len a n)
find_range_push p a n fails = ap (find p) (range-push a n) ∙ at (range_with_len a n)
  where
    at : (us : List ℕ) → find p (us ++ (a + n) ∷ []) ≡ find p us
    at [] = rw fails refl
    at (u ∷ us) =
        elim (cases_Bool (p u)) [
          | inl found_satisfies ↦ rw found_satisfies refl
          | inr isnt ↦ rw isnt (at us)
        ]

module _ (events : List Event) (o : IsWellFormed events) (e : Event) (b : BeginRecord) (is : IsBegin e b) (x : ℕ) where
  longer : txn_numbers (events ++ e ∷ []) ≡ range_with_len 1 (length (begin_records events) + 1)
  longer = ap (λ (bs : List BeginRecord). range_with_len 1 (length bs)) (begin_records-begin events e b is) ∙ ap (range_with_len 1) (length-append (begin_records events) (b ∷ []))

  holds_read-begin : (u : ℕ) → holds_read (events ++ e ∷ []) u x ≡ holds_read events u x
  holds_read-begin u = held-begin events o e (reads u x) u is.commits_none is.aborts_none (is.reads_none u x) (read_names_reader u x)

  holds_write-begin : (u : ℕ) → holds_write (events ++ e ∷ []) u x ≡ holds_write events u x
  holds_write-begin u = held-begin events o e (writes u x) u is.commits_none is.aborts_none (is.writes_none u x) (write_names_writer u x)

  -- a lock holder has begun before, so the new begin does not change its kind
  kind-unchanged : (k : Option BeginRecord → Bool) (u : ℕ) (p : Bool) → (p ≡ true → is_begun events u ≡ true) → (k (begin_record (events ++ e ∷ []) u) && p) ≡ (k (begin_record events u) && p)
  kind-unchanged k u true begun = ap (λ w. k w && true) (begin_record-begin events e u (begun refl))
  kind-unchanged k u false begun = and_right (k (begin_record (events ++ e ∷ []) u)) false refl ∙ sym (and_right (k (begin_record events u)) false refl)

  begun_holder : (u : ℕ) (p : Bool) → (is_active events u && p) ≡ true → is_begun events u ≡ true
  begun_holder u p held = (active_parts events u (and_parts (is_active events u) p held).0).0

  is_update_writer-begin : (u : ℕ) → is_update_writer (events ++ e ∷ []) x u ≡ is_update_writer events x u
  is_update_writer-begin u = ap (λ p. is_update (events ++ e ∷ []) u && p) (holds_write-begin u) ∙ kind-unchanged (λ w. unwrap_or (option_map (λ c. not c.query) w) false) u (holds_write events u x) (begun_holder u (list_any (writes u x) events))

  update_holds_read-begin : (u : ℕ) → update_holds_read (events ++ e ∷ []) x u ≡ update_holds_read events x u
  update_holds_read-begin u = ap (λ p. is_update (events ++ e ∷ []) u && p) (holds_read-begin u) ∙ kind-unchanged (λ w. unwrap_or (option_map (λ c. not c.query) w) false) u (holds_read events u x) (begun_holder u (list_any (reads u x) events))

  query_reads-begin : (u : ℕ) → query_reads (events ++ e ∷ []) x u ≡ query_reads events x u
  query_reads-begin u =
      ap (λ n. if is_query (events ++ e ∷ []) u && holds_read (events ++ e ∷ []) u x then Some (u, n) else None) (sum_by_push (λ f. if reads u x f then 1 else 0) events e ∙ (ap (λ c. read_count events u x + (if c then 1 else 0)) (is.reads_none u x) ∙ add-zero (read_count events u x)))
      ∙ ap (λ p. if p then Some (u, read_count events u x) else None) (ap (λ p. is_query (events ++ e ∷ []) u && p) (holds_read-begin u) ∙ kind-unchanged (λ w. unwrap_or (option_map (λ c. c.query) w) false) u (holds_read events u x) (begun_holder u (list_any (reads u x) events)))

  pub locks-begin : item_locks (events ++ e ∷ []) x ≡ item_locks events x
  locks-begin =
      let n = length (begin_records events) in
      let number : 1 + n ≡ suc n = omega arith in
      let no_write : holds_write events (1 + n) x ≡ false = ap (λ k. holds_write events k x) number ∙ and_right (is_active events (suc n)) (list_any (writes (suc n) x) events) (next_number_is_unused events o (writes (suc n) x) (write_names_writer (suc n) x)) in
      let no_read : holds_read events (1 + n) x ≡ false = ap (λ k. holds_read events k x) number ∙ and_right (is_active events (suc n)) (list_any (reads (suc n) x) events) (next_number_is_unused events o (reads (suc n) x) (read_names_reader (suc n) x)) in
      let w : writer (events ++ e ∷ []) x ≡ writer events x =
      ap (find (is_update_writer (events ++ e ∷ []) x)) longer
      ∙ (find_same (is_update_writer (events ++ e ∷ []) x) (is_update_writer events x) is_update_writer-begin (range_with_len 1 (n + 1))
      ∙ find_range_push (is_update_writer events x) 1 n (and_right (is_update events (1 + n)) (holds_write events (1 + n) x) no_write)) in
      let r : filter (update_holds_read (events ++ e ∷ []) x) (txn_numbers (events ++ e ∷ [])) ≡ filter (update_holds_read events x) (txn_numbers events) =
      ap (filter (update_holds_read (events ++ e ∷ []) x)) longer
      ∙ (filter_agree (update_holds_read (events ++ e ∷ []) x) (update_holds_read events x) update_holds_read-begin (range_with_len 1 (n + 1))
      ∙ (ap (filter (update_holds_read events x)) (range-push 1 n)
      ∙ (filter-append (update_holds_read events x) (txn_numbers events) ((1 + n) ∷ [])
      ∙ (ap (λ c. filter (update_holds_read events x) (txn_numbers events) ++ (if c then (1 + n) ∷ [] else [])) (and_right (is_update events (1 + n)) (holds_read events (1 + n) x) no_read)
      ∙ append-nil (filter (update_holds_read events x) (txn_numbers events)))))) in
      let q : filter_map (query_reads (events ++ e ∷ []) x) (txn_numbers (events ++ e ∷ [])) ≡ filter_map (query_reads events x) (txn_numbers events) =
      ap (filter_map (query_reads (events ++ e ∷ []) x)) longer
      ∙ (filter_map_agree (query_reads (events ++ e ∷ []) x) (query_reads events x) query_reads-begin (range_with_len 1 (n + 1))
      ∙ (ap (filter_map (query_reads events x)) (range-push 1 n)
      ∙ filter_map_push_none (query_reads events x) (txn_numbers events) (1 + n) (ap (λ c. if c then Some (1 + n, read_count events (1 + n) x) else None) (and_right (is_query events (1 + n)) (holds_read events (1 + n) x) no_read)))) in
      locks_congruent (writer (events ++ e ∷ []) x) (writer events x) (filter (update_holds_read (events ++ e ∷ []) x) (txn_numbers (events ++ e ∷ []))) (filter (update_holds_read events x) (txn_numbers events)) (filter_map (query_reads (events ++ e ∷ []) x) (txn_numbers (events ++ e ∷ []))) (filter_map (query_reads events x) (txn_numbers events)) w r q

-- The locks on all items, after each event.

pub locks_of-begin : (events : List Event) → IsWellFormed events → (e : Event) (b : BeginRecord) → IsBegin e b → (n : ℕ) → locks_of (events ++ e ∷ []) n ≡ locks_of events n
locks_of-begin events o e b is n = map_same (item_locks (events ++ e ∷ [])) (item_locks events) 0 n (λ x low high. locks-begin events o e b is x)

item_locks_set : (events : List Event) (e : Event) (n x : ℕ) (f : ItemLocks → ItemLocks) → x < n → item_locks (events ++ e ∷ []) x ≡ f (item_locks events x) → ((y : ℕ) → (y ≡ x → ⊥) → item_locks (events ++ e ∷ []) y ≡ item_locks events y)
    → set (locks_of events n) x (f (locks_at (locks_of events n) x)) ≡ locks_of (events ++ e ∷ []) n
item_locks_set events e n x f l here other = grind (arith, set_range, locks_at_item)

pub locks_of-read : (events : List Event) (t : TxnId) (x : ItemId) (n : ℕ) → x.0 < n → is_update events t.0 ≡ true → is_active events t.0 ≡ true → set (locks_of events n) x.0 (with_reader t.0 (locks_at (locks_of events n) x.0)) ≡ locks_of (events ++ Read t x ∷ []) n
locks_of-read events t x n l update act =
    item_locks_set events (Read t x) n x.0 (with_reader t.0) l (locks-read events t x update act)
    (λ y ne. locks-unaffected events (Read t x) refl (λ w. refl) (λ w. refl) y (λ u. refl) (λ u. and_right (t.0 == u) (x.0 == y) (ne_eqb x.0 y (λ (f : x.0 ≡ y). ne (sym f)))))

pub locks_of-query_read : (events : List Event) (t : TxnId) (x : ItemId) (n : ℕ) → x.0 < n → is_query events t.0 ≡ true → is_active events t.0 ≡ true → set (locks_of events n) x.0 (with_query_read t.0 (locks_at (locks_of events n) x.0)) ≡ locks_of (events ++ Read t x ∷ []) n
locks_of-query_read events t x n l query act =
    item_locks_set events (Read t x) n x.0 (with_query_read t.0) l (locks-query_read events t x query act)
    (λ y ne. locks-unaffected events (Read t x) refl (λ w. refl) (λ w. refl) y (λ u. refl) (λ u. and_right (t.0 == u) (x.0 == y) (ne_eqb x.0 y (λ (f : x.0 ≡ y). ne (sym f)))))

pub locks_of-write : (events : List Event) (t : TxnId) (x : ItemId) (v : ℤ) (n : ℕ) → x.0 < n → IsWellFormed (events ++ Write t x v ∷ []) → is_update events t.0 ≡ true → is_active events t.0 ≡ true → set (locks_of events n) x.0 (with_writer t.0 (locks_at (locks_of events n) x.0)) ≡ locks_of (events ++ Write t x v ∷ []) n
locks_of-write events t x v n l o update act =
    item_locks_set events (Write t x v) n x.0 (with_writer t.0) l (locks-write events t x v o update act)
    (λ y ne. locks-unaffected events (Write t x v) refl (λ w. refl) (λ w. refl) y (λ u. and_right (t.0 == u) (x.0 == y) (ne_eqb x.0 y (λ (f : x.0 ≡ y). ne (sym f)))) (λ u. refl))

pub locks_of-end : (events : List Event) → IsWellFormed events → (e : Event) → begin_record_of e ≡ None → (t : ℕ) → ((u : ℕ) → is_active (events ++ e ∷ []) u ≡ (is_active events u && not (t == u)))
    → ((u x : ℕ) → reads u x e ≡ false) → ((u x : ℕ) → writes u x e ≡ false) → (n : ℕ) → map (released t) (locks_of events n) ≡ locks_of (events ++ e ∷ []) n
locks_of-end events o e none t ends r w n =
    map-map (released t) (item_locks events) (range_with_len 0 n) ∙ map_same (λ x. released t (item_locks events x)) (item_locks (events ++ e ∷ [])) 0 n (λ x low high. sym (locks-end events o e none t ends r w x))
