-- Tables of places, entry after entry.
use Rattle.std.proofs.Common.{◌≡◌, ℕ, zero, suc, ◌+◌, ◌-◌, ◌<◌, ◌≤◌, Bool, true, false, List, [], ◌∷◌, ◌++◌, length, take, get_or, refl, sym, ◌∙◌, ap, arith, ⊎_elim, filter, cond, map, Option, Some, None, slice_set, unwrap_or, add-one, append-nil, replicate, slice_index_or, if◌then◌else◌, option_map}
use Rattle.std.specs.List.{last_or, range_with_len, slice_get, cons_option}
use Rattle.std.proofs.Math.Seq.{take-append_seam}
use Rattle.std.proofs.lemmas.Bool.{cases_lt, eq-eqb, ne_eqb}
use Rattle.std.proofs.lemmas.List.{length-append, length-map, map-append, take-append-le}
use Rattle.std.proofs.lemmas.List.Elements.{filter-append, filter_map-append}
use Rattle.std.proofs.lemmas.Option.{slice_get_past}
use Rattle.esr_history.specs.declared.back_links.Begin.{Begin}
use Rattle.esr_history.specs.declared.back_links.BackLinks.{BackLinks}
use Rattle.esr_history.specs.Events.{BeginRecord, is_query_kind, is_refusal, accepted, begin_records, begin_record_of, Update, Query, Event, BeginUpdate, BeginQuery, Read, Write, Commit, Abort, Reply, Entry}
use Rattle.esr_history.specs.BackLinks.{item_of, txn_of, ender, item_in, txn_in, accepted_item, accepted_txn, beginner, begun_txn, ended_txn, facts_by, facts_of, begin_place, is_some_eq, places_from, last_place, last_of_key, earlier, earlier_at, coded, decoded, key_at, links_by, lasts_by, record_in, begun_count, AreLinks, IsFit, with_key, txns_after, ends_after, begins_after, IsNumbered, Facts}
use Rattle.esr_history.proofs.Charges.{range-push}
use Rattle.esr_history.proofs.Membership.{get_seam}
use Rattle.esr_history.proofs.Lists.{last_or_push, slice_get_push}

pub decoded_coded : (o : Option ℕ) → decoded (coded o) ≡ o
decoded_coded None = refl
decoded_coded (Some k) = ap decoded (add-one k)

pub places_push : (key : Entry → Option ℕ) (k n : ℕ) (es : List Entry) (e : Entry) → places_from key k n (es ++ e ∷ []) ≡ places_from key k n es ++ cond (is_some_eq (key e) k) ((n + length es) ∷ []) []
places_push key k n [] e = let z : n ≡ n + 0 = omega arith in ap (λ m. cond (is_some_eq (key e) k) (m ∷ []) []) z
places_push key k n (f ∷ es) e = at (is_some_eq (key f) k) (places_push key k (n + 1) es e)
  where
    shift : n + 1 + length es ≡ n + suc (length es)
    shift = omega arith

    at : (b : Bool) → places_from key k (n + 1) (es ++ e ∷ []) ≡ places_from key k (n + 1) es ++ cond (is_some_eq (key e) k) ((n + 1 + length es) ∷ []) []
        → cond b (n ∷ places_from key k (n + 1) (es ++ e ∷ [])) (places_from key k (n + 1) (es ++ e ∷ [])) ≡ cond b (n ∷ places_from key k (n + 1) es) (places_from key k (n + 1) es) ++ cond (is_some_eq (key e) k) ((n + suc (length es)) ∷ []) []
    at true rest = ap (λ l. n ∷ l) (rest ∙ ap (λ m. places_from key k (n + 1) es ++ cond (is_some_eq (key e) k) (m ∷ []) []) shift)
    at false rest = rest ∙ ap (λ m. places_from key k (n + 1) es ++ cond (is_some_eq (key e) k) (m ∷ []) []) shift

pub last_same : (key : Entry → Option ℕ) (k : ℕ) (es : List Entry) (e : Entry) → is_some_eq (key e) k ≡ false → last_place key k (es ++ e ∷ []) ≡ last_place key k es
last_same key k es e no_key = ap (last_or None) (places_push key k 0 es e ∙ (ap (λ b. places_from key k 0 es ++ cond b ((0 + length es) ∷ []) []) no_key ∙ append-nil (places_from key k 0 es)))

pub last_here : (key : Entry → Option ℕ) (k : ℕ) (es : List Entry) (e : Entry) → is_some_eq (key e) k ≡ true → last_place key k (es ++ e ∷ []) ≡ Some (length es)
last_here key k es e has_key =
    grind (arith, places_push key k 0 es e, cond, last_or_push None (places_from key k 0 es) (0 + length es))

-- ---- tables by key
pub mapped_get : (f : ℕ → ℕ) (a n k : ℕ) → k < n → slice_index_or (map f (range_with_len a n)) k 0 ≡ f (a + k)
mapped_get f a zero k l = absurd (omega arith)
mapped_get f a (suc n) zero l = let e : a ≡ a + 0 = omega arith in ap f e
mapped_get f a (suc n) (suc k) l = let e : a + 1 + k ≡ a + suc k = omega arith in mapped_get f (a + 1) n k (omega arith) ∙ ap f e

pub mapped_past : (f : ℕ → ℕ) (a n k : ℕ) → n ≤ k → slice_index_or (map f (range_with_len a n)) k 0 ≡ 0
mapped_past f a zero k l = refl
mapped_past f a (suc n) zero l = absurd (omega arith)
mapped_past f a (suc n) (suc k) l = mapped_past f (a + 1) n k (omega arith)

pub at_key_is : (key : Entry → Option ℕ) (es : List Entry) (n : ℕ) → ((k : ℕ) → n ≤ k → last_place key k es ≡ None) → (own : Option ℕ) → key_at (lasts_by key es n) own ≡ coded (last_of_key key own es)
at_key_is key es n past None = refl
at_key_is key es n past (Some k) = grind (arith, ⊎_elim, mapped_get, mapped_past, cases_lt)

mapped_agree : (f g : ℕ → ℕ) (a n : ℕ) → ((i : ℕ) → a ≤ i → i < a + n → f i ≡ g i) → map f (range_with_len a n) ≡ map g (range_with_len a n)
mapped_agree f g a zero same = refl
mapped_agree f g a (suc n) same = ap (λ v. v ∷ map f (range_with_len (a + 1) n)) (same a (omega arith) (omega arith)) ∙ ap (λ l. g a ∷ l) (mapped_agree f g (a + 1) n (λ i l m. same i (omega arith) (omega arith)))

mapped_set : (f g : ℕ → ℕ) (a n j : ℕ) → ((i : ℕ) → (i ≡ a + j → ⊥) → f i ≡ g i) → map f (range_with_len a n) ≡ slice_set (map g (range_with_len a n)) j (f (a + j))
mapped_set f g a zero j same = refl
mapped_set f g a (suc n) zero same = grind (arith, map f (range_with_len (a + 1) n), mapped_agree)
mapped_set f g a (suc n) (suc j) same =
    let e : a + 1 + j ≡ a + suc j = omega arith in
    ap (λ v. v ∷ map f (range_with_len (a + 1) n)) (same a (λ is. absurd (omega (arith, is))))
    ∙ ap (λ l. g a ∷ l) (mapped_set f g (a + 1) n j (λ i ne. same i (λ is. ne (is ∙ sym e))) ∙ ap (λ m. slice_set (map g (range_with_len (a + 1) n)) j (f m)) e)

-- a table after an entry with no key, and after one with a key
pub lasts_agree : (key : Entry → Option ℕ) (es : List Entry) (e : Entry) (n : ℕ) → ((k : ℕ) → k < n → is_some_eq (key e) k ≡ false) → lasts_by key (es ++ e ∷ []) n ≡ lasts_by key es n
lasts_agree key es e n none = mapped_agree (λ k. coded (last_place key k (es ++ e ∷ []))) (λ k. coded (last_place key k es)) 0 n (λ k l m. ap coded (last_same key k es e (none k (omega arith))))

pub lasts_none : (key : Entry → Option ℕ) (es : List Entry) (e : Entry) (n : ℕ) → key e ≡ None → lasts_by key (es ++ e ∷ []) n ≡ lasts_by key es n
lasts_none key es e n none = lasts_agree key es e n (λ k l. ap (λ o. is_some_eq o k) none)

pub lasts_some : (key : Entry → Option ℕ) (es : List Entry) (e : Entry) (n k : ℕ) → key e ≡ Some k → lasts_by key (es ++ e ∷ []) n ≡ slice_set (lasts_by key es n) k (length es + 1)
lasts_some key es e n k is =
    let z : 0 + k ≡ k = omega arith in
    mapped_set (λ k. coded (last_place key k (es ++ e ∷ []))) (λ k. coded (last_place key k es)) 0 n k
    (λ i ne. ap coded (last_same key i es e (ap (λ o. is_some_eq o i) is ∙ ne_eqb k i (λ f. ne (sym f ∙ sym z)))))
    ∙ ap (slice_set (lasts_by key es n) k) (ap (λ m. coded (last_place key m (es ++ e ∷ []))) z ∙ ap coded (last_here key k es e (ap (λ o. is_some_eq o k) is ∙ eq-eqb k k refl)))

pub lasts_grow : (key : Entry → Option ℕ) (es : List Entry) (n : ℕ) → lasts_by key es (n + 1) ≡ lasts_by key es n ++ coded (last_place key n es) ∷ []
lasts_grow key es n = grind (arith, map, range-push 0 n, map-append)

-- ---- links by place

pub links_push : (key own : Entry → Option ℕ) (es : List Entry) (e : Entry) → links_by key own (es ++ e ∷ []) ≡ links_by key own es ++ coded (last_of_key key (own e) es) ∷ []
links_push key own es e =
    let len : length (es ++ e ∷ []) ≡ length es + 1 = length-append es (e ∷ []) in
    let z : 0 + length es ≡ length es = omega arith in
    ap (λ n. map (λ i. coded (earlier key own (es ++ e ∷ []) i)) (range_with_len 0 n)) len
    ∙ (ap (map (λ i. coded (earlier key own (es ++ e ∷ []) i))) (range-push 0 (length es))
    ∙ (map-append (λ i. coded (earlier key own (es ++ e ∷ []) i)) (range_with_len 0 (length es)) ((0 + length es) ∷ [])
    ∙ (ap (λ l. l ++ coded (earlier key own (es ++ e ∷ []) (0 + length es)) ∷ [])
    (mapped_agree (λ i. coded (earlier key own (es ++ e ∷ []) i)) (λ i. coded (earlier key own es i)) 0 (length es) (λ i l m.
    let inside : i < length es = omega arith in
    ap (λ o. coded (earlier_at key (option_map own o) (take i (es ++ e ∷ [])))) (slice_get_push es e i inside)
    ∙ ap (λ t. coded (earlier_at key (option_map own (slice_get es i)) t)) (take-append-le i es (e ∷ []) (omega arith))))
    ∙ ap (λ c. links_by key own es ++ c ∷ [])
    (ap (λ m. coded (earlier key own (es ++ e ∷ []) m)) z
    ∙ (ap (λ o. coded (earlier_at key (option_map own o) (take (length es) (es ++ e ∷ [])))) (get_seam es e [])
    ∙ ap (λ t. coded (last_of_key key (own e) t)) (take-append_seam es (e ∷ [])))))))

pub link_at : (key own : Entry → Option ℕ) (es : List Entry) (i : ℕ) → decoded (slice_index_or (links_by key own es) i 0) ≡ earlier key own es i
link_at key own es i = grind (arith, ⊎_elim, mapped_get, decoded_coded, mapped_past, slice_get_past, cases_lt)

pub links_length : (key own : Entry → Option ℕ) (es : List Entry) → length (links_by key own es) ≡ length es
links_length key own es = at 0 (length es)
  where
    at : (a n : ℕ) → length (map (λ i. coded (earlier key own es i)) (range_with_len a n)) ≡ n
    at a zero = refl
    at a (suc n) = ap suc (at (a + 1) n)

-- ---- the changes by one more entry
pub accepted_push : (es : List Entry) (e : Entry) → is_refusal e.reply ≡ false → accepted (es ++ e ∷ []) ≡ accepted es ++ e.event ∷ []
accepted_push es e is = grind (arith, map, filter-append, filter, cond, map-append)

pub accepted_refused : (es : List Entry) (e : Entry) → is_refusal e.reply ≡ true → accepted (es ++ e ∷ []) ≡ accepted es
accepted_refused es e is = grind (arith, map, filter-append, filter, cond, append-nil)

begins_push : (es : List Entry) (e : Entry) → is_refusal e.reply ≡ false → begin_records (accepted (es ++ e ∷ [])) ≡ begin_records (accepted es) ++ cons_option (begin_record_of e.event) []
begins_push es e is = ap begin_records (accepted_push es e is) ∙ filter_map-append begin_record_of (accepted es) (e.event ∷ [])

pub count_refused : (es : List Entry) (e : Entry) → is_refusal e.reply ≡ true → begun_count (es ++ e ∷ []) ≡ begun_count es
count_refused es e is = ap (λ l. length (begin_records l)) (accepted_refused es e is)

pub count_same : (es : List Entry) (e : Entry) → is_refusal e.reply ≡ false → begin_record_of e.event ≡ None → begun_count (es ++ e ∷ []) ≡ begun_count es
count_same es e is none = ap length (begins_push es e is ∙ (ap (λ o. begin_records (accepted es) ++ cons_option o []) none ∙ append-nil (begin_records (accepted es))))

pub count_more : (es : List Entry) (e : Entry) (b : BeginRecord) → is_refusal e.reply ≡ false → begin_record_of e.event ≡ Some b → begun_count (es ++ e ∷ []) ≡ begun_count es + 1
count_more es e b is some = ap length (begins_push es e is ∙ ap (λ o. begin_records (accepted es) ++ cons_option o []) some) ∙ length-append (begin_records (accepted es)) (b ∷ [])

begins_same : (es : List Entry) (e : Entry) → is_refusal e.reply ≡ false → begin_record_of e.event ≡ None → begin_records (accepted (es ++ e ∷ [])) ≡ begin_records (accepted es)
begins_same es e is none = begins_push es e is ∙ (ap (λ o. begin_records (accepted es) ++ cons_option o []) none ∙ append-nil (begin_records (accepted es)))

begins_more : (es : List Entry) (e : Entry) (b : BeginRecord) → is_refusal e.reply ≡ false → begin_record_of e.event ≡ Some b → begin_records (accepted (es ++ e ∷ [])) ≡ begin_records (accepted es) ++ b ∷ []
begins_more es e b is some = begins_push es e is ∙ ap (λ o. begin_records (accepted es) ++ cons_option o []) some

-- the tables of keys after an accepted entry
items_after : (es : List Entry) (e : Entry) (n : ℕ) → is_refusal e.reply ≡ false → lasts_by accepted_item (es ++ e ∷ []) n ≡ with_key (lasts_by accepted_item es n) (item_of e.event) (length es + 1)
items_after es e n is = at (item_of e.event) (ap (λ b. if b then None else item_of e.event) is)
  where
    at : (o : Option ℕ) → accepted_item e ≡ o → lasts_by accepted_item (es ++ e ∷ []) n ≡ with_key (lasts_by accepted_item es n) o (length es + 1)
    at None key = lasts_none accepted_item es e n key
    at (Some k) key = lasts_some accepted_item es e n k key

-- the tables by transactions after one more entry of a transaction that has begun
module _ (es : List Entry) (e : Entry) (is : is_refusal e.reply ≡ false) (none : begin_record_of e.event ≡ None) where
  txns_known : (t : ℕ) → txn_of e.event e.reply ≡ Some t → lasts_by accepted_txn (es ++ e ∷ []) (begun_count (es ++ e ∷ []) + 1) ≡ slice_set (lasts_by accepted_txn es (begun_count es + 1)) t (length es + 1)
  txns_known t own = grind (arith, count_same es e is none, lasts_some)

  ends_known : (t : ℕ) → ender e.event ≡ Some t → lasts_by ended_txn (es ++ e ∷ []) (begun_count (es ++ e ∷ []) + 1) ≡ slice_set (lasts_by ended_txn es (begun_count es + 1)) t (length es + 1)
  ends_known t own = grind (arith, count_same es e is none, lasts_some)

  codes_same : beginner e.event e.reply ≡ None → lasts_by begun_txn (es ++ e ∷ []) (begun_count (es ++ e ∷ []) + 1) ≡ lasts_by begun_txn es (begun_count es + 1)
  codes_same own = grind (arith, count_same es e is none, lasts_none)

  ends_none : ender e.event ≡ None → lasts_by ended_txn (es ++ e ∷ []) (begun_count (es ++ e ∷ []) + 1) ≡ lasts_by ended_txn es (begun_count es + 1)
  ends_none own = grind (arith, count_same es e is none, lasts_none)

-- and after a begin
module _ (es : List Entry) (e : Entry) (is : is_refusal e.reply ≡ false) (b : BeginRecord) (some : begin_record_of e.event ≡ Some b) where
  count : begun_count (es ++ e ∷ []) ≡ begun_count es + 1
  count = count_more es e b is some

  -- a table of keys of which the new one is the begin's
  lasts_begun : (at : Entry → Option ℕ) → at e ≡ Some (begun_count es + 1) → lasts_by at (es ++ e ∷ []) (begun_count (es ++ e ∷ []) + 1) ≡ lasts_by at es (begun_count es + 1) ++ (length es + 1) ∷ []
  lasts_begun at key =
      ap (λ n. lasts_by at (es ++ e ∷ []) (n + 1)) count
      ∙ (lasts_grow at (es ++ e ∷ []) (begun_count es + 1)
      ∙ (ap (λ l. l ++ coded (last_place at (begun_count es + 1) (es ++ e ∷ [])) ∷ [])
      (lasts_agree at es e (begun_count es + 1) (λ k l. ap (λ o. is_some_eq o k) key ∙ ne_eqb (begun_count es + 1) k (λ f. absurd (omega (arith, f, l)))))
      ∙ ap (λ o. lasts_by at es (begun_count es + 1) ++ coded o ∷ []) (last_here at (begun_count es + 1) es e (ap (λ o. is_some_eq o (begun_count es + 1)) key ∙ eq-eqb (begun_count es + 1) (begun_count es + 1) refl))))

  txns_begun : txn_of e.event e.reply ≡ Some (begun_count es + 1) → lasts_by accepted_txn (es ++ e ∷ []) (begun_count (es ++ e ∷ []) + 1) ≡ lasts_by accepted_txn es (begun_count es + 1) ++ (length es + 1) ∷ []
  txns_begun own = lasts_begun accepted_txn (ap (λ b. if b then None else txn_of e.event e.reply) is ∙ own)

  codes_more : beginner e.event e.reply ≡ Some (begun_count es + 1) → lasts_by begun_txn (es ++ e ∷ []) (begun_count (es ++ e ∷ []) + 1) ≡ lasts_by begun_txn es (begun_count es + 1) ++ (length es + 1) ∷ []
  codes_more own = lasts_begun begun_txn (ap (λ b. if b then None else beginner e.event e.reply) is ∙ own)

  ends_begun : (n : ℕ) → ender e.event ≡ None → IsFit n es → lasts_by ended_txn (es ++ e ∷ []) (begun_count (es ++ e ∷ []) + 1) ≡ lasts_by ended_txn es (begun_count es + 1) ++ 0 ∷ []
  ends_begun n own fit = grind (arith, count, lasts_grow ended_txn (es ++ e ∷ []) (begun_count es + 1), lasts_none, last_same)

txns_after_entry : (es : List Entry) (ev : Event) (r : Reply) → is_refusal r ≡ false → IsNumbered es ev r
    → lasts_by accepted_txn (es ++ record { event = ev; reply = r } ∷ []) (begun_count (es ++ record { event = ev; reply = r } ∷ []) + 1) ≡ txns_after (lasts_by accepted_txn es (begun_count es + 1)) ev (length es + 1)
txns_after_entry es (BeginUpdate l) r is num = txns_begun es (record { event = BeginUpdate l; reply = r }) is (record { query = false; strict = false; limit = l }) refl (num is)
txns_after_entry es (BeginQuery l s) r is num = txns_begun es (record { event = BeginQuery l s; reply = r }) is (record { query = true; strict = s; limit = l }) refl (num is)
txns_after_entry es (Read t x) r is num = txns_known es (record { event = Read t x; reply = r }) is refl t.0 refl
txns_after_entry es (Write t x v) r is num = txns_known es (record { event = Write t x v; reply = r }) is refl t.0 refl
txns_after_entry es (Commit t) r is num = txns_known es (record { event = Commit t; reply = r }) is refl t.0 refl
txns_after_entry es (Abort t) r is num = txns_known es (record { event = Abort t; reply = r }) is refl t.0 refl

ends_after_entry : (n : ℕ) (es : List Entry) (ev : Event) (r : Reply) → is_refusal r ≡ false → IsFit n es
    → lasts_by ended_txn (es ++ record { event = ev; reply = r } ∷ []) (begun_count (es ++ record { event = ev; reply = r } ∷ []) + 1) ≡ ends_after (lasts_by ended_txn es (begun_count es + 1)) ev (length es + 1)
ends_after_entry n es (BeginUpdate l) r is fit = ends_begun es (record { event = BeginUpdate l; reply = r }) is (record { query = false; strict = false; limit = l }) refl n refl fit
ends_after_entry n es (BeginQuery l s) r is fit = ends_begun es (record { event = BeginQuery l s; reply = r }) is (record { query = true; strict = s; limit = l }) refl n refl fit
ends_after_entry n es (Read t x) r is fit = ends_none es (record { event = Read t x; reply = r }) is refl refl
ends_after_entry n es (Write t x v) r is fit = ends_none es (record { event = Write t x v; reply = r }) is refl refl
ends_after_entry n es (Commit t) r is fit = ends_known es (record { event = Commit t; reply = r }) is refl t.0 refl
ends_after_entry n es (Abort t) r is fit = ends_known es (record { event = Abort t; reply = r }) is refl t.0 refl

-- the table of begins after an accepted entry
module _ (es : List Entry) (rows : List Begin) (are : map record_in rows ≡ begin_records (accepted es)) where
  begun : (ev : Event) (r : Reply) → is_refusal r ≡ false → (row : Begin) → begin_record_of ev ≡ Some (record_in row) → map record_in (rows ++ row ∷ []) ≡ begin_records (accepted (es ++ record { event = ev; reply = r } ∷ []))
  begun ev r is row some = map-append record_in rows (row ∷ []) ∙ (ap (λ bs. bs ++ record_in row ∷ []) are ∙ sym (begins_more es (record { event = ev; reply = r }) (record_in row) is some))

  begins_after_entry : (ev : Event) (r : Reply) (code : ℕ) → is_refusal r ≡ false
      → map record_in (begins_after rows ev code) ≡ begin_records (accepted (es ++ record { event = ev; reply = r } ∷ []))
  begins_after_entry (BeginUpdate l) r code is = begun (BeginUpdate l) r is (record { kind = Update; strict = false; code = code; limit = l }) refl
  begins_after_entry (BeginQuery l s) r code is = begun (BeginQuery l s) r is (record { kind = Query; strict = s; code = code; limit = l }) refl
  begins_after_entry (Read t x) r code is = are ∙ sym (begins_same es (record { event = Read t x; reply = r }) is refl)
  begins_after_entry (Write t x v) r code is = are ∙ sym (begins_same es (record { event = Write t x v; reply = r }) is refl)
  begins_after_entry (Commit t) r code is = are ∙ sym (begins_same es (record { event = Commit t; reply = r }) is refl)
  begins_after_entry (Abort t) r code is = are ∙ sym (begins_same es (record { event = Abort t; reply = r }) is refl)

module _ (es : List Entry) (rows : List Begin) (are : 0 ∷ map (λ (b : Begin). b.code) rows ≡ lasts_by begun_txn es (begun_count es + 1)) where
  code_begun : (ev : Event) (r : Reply) → is_refusal r ≡ false → (row : Begin) → begin_record_of ev ≡ Some (record_in row) → row.code ≡ length es + 1 → beginner ev r ≡ Some (begun_count es + 1)
      → 0 ∷ map (λ (b : Begin). b.code) (rows ++ row ∷ []) ≡ lasts_by begun_txn (es ++ record { event = ev; reply = r } ∷ []) (begun_count (es ++ record { event = ev; reply = r } ∷ []) + 1)
  code_begun ev r is row some here own =
      ap (λ l. 0 ∷ l) (map-append (λ (b : Begin). b.code) rows (row ∷ []))
      ∙ (ap (λ l. l ++ row.code ∷ []) are
      ∙ (ap (λ c. lasts_by begun_txn es (begun_count es + 1) ++ c ∷ []) here ∙ sym (codes_more es (record { event = ev; reply = r }) is (record_in row) some own)))

  codes_after_entry : (ev : Event) (r : Reply) → is_refusal r ≡ false → IsNumbered es ev r
      → 0 ∷ map (λ (b : Begin). b.code) (begins_after rows ev (length es + 1)) ≡ lasts_by begun_txn (es ++ record { event = ev; reply = r } ∷ []) (begun_count (es ++ record { event = ev; reply = r } ∷ []) + 1)
  codes_after_entry (BeginUpdate l) r is num = code_begun (BeginUpdate l) r is (record { kind = Update; strict = false; code = length es + 1; limit = l }) refl refl (num is)
  codes_after_entry (BeginQuery l s) r is num = code_begun (BeginQuery l s) r is (record { kind = Query; strict = s; code = length es + 1; limit = l }) refl refl (num is)
  codes_after_entry (Read t x) r is num = are ∙ sym (codes_same es (record { event = Read t x; reply = r }) is refl refl)
  codes_after_entry (Write t x v) r is num = are ∙ sym (codes_same es (record { event = Write t x v; reply = r }) is refl refl)
  codes_after_entry (Commit t) r is num = are ∙ sym (codes_same es (record { event = Commit t; reply = r }) is refl refl)
  codes_after_entry (Abort t) r is num = are ∙ sym (codes_same es (record { event = Abort t; reply = r }) is refl refl)

-- the links of an entry, from the tables before it
module _ (n : ℕ) (es : List Entry) (l : BackLinks) (are : AreLinks n es l) (fit : IsFit n es) (e : Entry) where
  pub item_link : key_at l.items.items (item_in e) ≡ coded (last_of_key accepted_item (item_in e) es)
  item_link = ap (λ t. key_at t (item_in e)) are.items ∙ at_key_is accepted_item es n fit.items (item_in e)

  pub txn_link : key_at l.txns.items (txn_in e) ≡ coded (last_of_key accepted_txn (txn_in e) es)
  txn_link = ap (λ t. key_at t (txn_in e)) are.txns ∙ at_key_is accepted_txn es (begun_count es + 1) (λ k m. let past : begun_count es < k = omega arith in fit.txns k past) (txn_in e)

  pub on_item_more : l.on_item.items ++ key_at l.items.items (item_in e) ∷ [] ≡ links_by accepted_item item_in (es ++ e ∷ [])
  on_item_more = ap (λ t. t ++ key_at l.items.items (item_in e) ∷ []) are.on_item ∙ (ap (λ c. links_by accepted_item item_in es ++ c ∷ []) item_link ∙ sym (links_push accepted_item item_in es e))

  pub of_txn_more : l.of_txn.items ++ key_at l.txns.items (txn_in e) ∷ [] ≡ links_by accepted_txn txn_in (es ++ e ∷ [])
  of_txn_more = ap (λ t. t ++ key_at l.txns.items (txn_in e) ∷ []) are.of_txn ∙ (ap (λ c. links_by accepted_txn txn_in es ++ c ∷ []) txn_link ∙ sym (links_push accepted_txn txn_in es e))

  pub refused_more : (m : BackLinks) → is_refusal e.reply ≡ true → m.on_item.items ≡ l.on_item.items ++ key_at l.items.items (item_in e) ∷ [] → m.of_txn.items ≡ l.of_txn.items ++ key_at l.txns.items (txn_in e) ∷ []
      → m.items ≡ l.items → m.txns ≡ l.txns → m.ends ≡ l.ends → m.begins ≡ l.begins → AreLinks n (es ++ e ∷ []) m
  refused_more m is a b c d f g =
      grind (arith, on_item_more, of_txn_more, lasts_none, count_refused es e is, map, accepted_refused es e is)

  pub accepted_more : (m : BackLinks) (code : ℕ) → is_refusal e.reply ≡ false → IsNumbered es e.event e.reply → code ≡ length es + 1 → m.on_item.items ≡ l.on_item.items ++ key_at l.items.items (item_in e) ∷ [] → m.of_txn.items ≡ l.of_txn.items ++ key_at l.txns.items (txn_in e) ∷ []
      → m.items.items ≡ with_key l.items.items (item_of e.event) code → m.txns.items ≡ txns_after l.txns.items e.event code → m.ends.items ≡ ends_after l.ends.items e.event code → m.begins.items ≡ begins_after l.begins.items e.event code → AreLinks n (es ++ e ∷ []) m
  accepted_more m code is num at a b c d f g = record {
    on_item = a ∙ on_item_more;
    of_txn = b ∙ of_txn_more;
    items = c ∙ (ap (λ t. with_key t (item_of e.event) code) are.items ∙ (ap (with_key (lasts_by accepted_item es n) (item_of e.event)) at ∙ sym (items_after es e n is)));
    txns = d ∙ (ap (λ t. txns_after t e.event code) are.txns ∙ (ap (txns_after (lasts_by accepted_txn es (begun_count es + 1)) e.event) at ∙ sym (txns_after_entry es e.event e.reply is num)));
    ends = f ∙ (ap (λ t. ends_after t e.event code) are.ends ∙ (ap (ends_after (lasts_by ended_txn es (begun_count es + 1)) e.event) at ∙ sym (ends_after_entry n es e.event e.reply is fit)));
    begins = ap (map record_in) g ∙ begins_after_entry es l.begins.items are.begins e.event e.reply code is;
    begin_codes =
        ap (λ rows. 0 ∷ map (λ (b : Begin). b.code) rows) (g ∙ ap (begins_after l.begins.items e.event) at)
        ∙ codes_after_entry es l.begins.items are.begin_codes e.event e.reply is num;
  }

-- the facts of a transaction that has begun
found : (rows : List Begin) (k : ℕ) (b : Begin) (begin : ℕ) (end : Option ℕ) → k < length rows → b ≡ get_or rows k b
    → Some (record { query = is_query_kind b.kind; strict = b.strict; limit = b.limit; begin = begin; end = end }) ≡ facts_by (slice_get (map record_in rows) k) begin end
found [] k b begin end l is = absurd (omega arith)
found (c ∷ rows) zero b begin end l is =
    ap (λ (b : Begin). let f : Facts = record { query = is_query_kind b.kind; strict = b.strict; limit = b.limit; begin = begin; end = end } in Some f) is
found (c ∷ rows) (suc k) b begin end l is = found rows k b begin end (omega arith) is

code_at : (rows : List Begin) (k : ℕ) (b : Begin) → k < length rows → b ≡ get_or rows k b → b.code ≡ slice_index_or (map (λ (b : Begin). b.code) rows) k 0
code_at [] k b l is = absurd (omega arith)
code_at (c ∷ rows) zero b l is = ap (λ (b : Begin). b.code) is
code_at (c ∷ rows) (suc k) b l is = code_at rows k b (omega arith) is

module _ (n : ℕ) (es : List Entry) (l : BackLinks) (are : AreLinks n es l) where
  -- the index of the begin, from the table
  begin_at : (k : ℕ) (b : Begin) → k < length l.begins.items → b ≡ get_or l.begins.items k b → unwrap_or (decoded b.code) 0 ≡ begin_place (suc k) es
  begin_at k b inside is =
      let len : length l.begins.items ≡ begun_count es = sym (length-map l.begins.items record_in) ∙ ap length are.begins in
      let z : 0 + suc k ≡ suc k = omega arith in
      ap (λ c. unwrap_or (decoded c) 0)
      (code_at l.begins.items k b inside is
      ∙ (ap (λ codes. slice_index_or codes (suc k) 0) are.begin_codes
      ∙ (mapped_get (λ t. coded (last_place begun_txn t es)) 0 (begun_count es + 1) (suc k) (omega (arith, inside, len))
      ∙ ap (λ t. coded (last_place begun_txn t es)) z)))
      ∙ ap (λ o. unwrap_or o 0) (decoded_coded (last_place begun_txn (suc k) es))

  pub facts_are : (t : ℕ) (rows : List Begin) (b : Begin) (begin : ℕ) (end : Option ℕ) → rows ≡ l.begins.items → (t ≡ 0 → ⊥) → t - 1 < length rows → b ≡ get_or rows (t - 1) b → begin ≡ unwrap_or (decoded b.code) 0 → end ≡ last_place ended_txn t es
      → Some (record { query = is_query_kind b.kind; strict = b.strict; limit = b.limit; begin = begin; end = end }) ≡ facts_of es t
  facts_are zero rows b begin end same some inside is first at = absurd (some refl)
  facts_are (suc k) rows b begin end same some inside is first at =
      let e : suc k - 1 ≡ k = omega arith in
      let low : k < length l.begins.items = omega (arith, inside, e, ap length same) in
      let here : b ≡ get_or l.begins.items k b = is ∙ (ap (λ m. get_or rows m b) e ∙ ap (λ rs. get_or rs k b) same) in
      found l.begins.items k b begin end low here
      ∙ (ap (λ bs. facts_by (slice_get bs k) begin end) are.begins
      ∙ (ap (λ p. facts_by (slice_get (begin_records (accepted es)) k) p end) (first ∙ begin_at k b low here)
      ∙ ap (facts_by (slice_get (begin_records (accepted es)) k) (begin_place (suc k) es)) at))

pub lasts_length : (key : Entry → Option ℕ) (es : List Entry) (n : ℕ) → length (lasts_by key es n) ≡ n
lasts_length key es n = at 0 n
  where
    at : (a n : ℕ) → length (map (λ k. coded (last_place key k es)) (range_with_len a n)) ≡ n
    at a zero = refl
    at a (suc n) = ap suc (at (a + 1) n)

pub zeros : (n : ℕ) → replicate n 0 ≡ lasts_by accepted_item [] n
zeros n = at 0 n
  where
    at : (a n : ℕ) → replicate n 0 ≡ map (λ k. coded (last_place accepted_item k [])) (range_with_len a n)
    at a zero = refl
    at a (suc n) = ap (λ l. 0 ∷ l) (at (a + 1) n)
