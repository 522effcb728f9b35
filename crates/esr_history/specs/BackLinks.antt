-- The indices of earlier entries of a log, as a scan of it finds them.
use Rattle.std.specs.Prelude.{◌≡◌, ℕ, zero, suc, ◌+◌, ◌^◌, ◌<◌, ◌≤◌, Bool, false, ◌==◌, List, [], ◌∷◌, ◌++◌, Option, None, Some, map, take, slice_get, slice_index_or, slice_set, length, ⊤, vec_capacity, if◌then◌else◌, option_map, unwrap_or}
use Rattle.std.specs.List.{last_or, range_with_len}
pub use Rattle.esr_history.specs.declared.back_links.Facts.{Facts}
use Rattle.esr_history.specs.declared.back_links.Begin.{Begin}
use Rattle.esr_history.specs.declared.back_links.BackLinks.{BackLinks}
use Rattle.esr_history.specs.Events.{BeginRecord, Update, Query, is_query_kind, is_refusal, accepted, begin_records, begin_record, Event, BeginUpdate, BeginQuery, Read, Write, Commit, Abort, Reply, Begun, Entry}

-- the item that an event is on
abbrev pub item_of : Event → Option ℕ
item_of (Read t x) = Some x.0
item_of (Write t x v) = Some x.0
item_of _ = None

-- the transaction of an event; of an accepted begin the one that begins
abbrev pub begun_by : Reply → Option ℕ
begun_by (Begun t) = Some t.0
begun_by _ = None

abbrev pub txn_of : Event → Reply → Option ℕ
txn_of (BeginUpdate limit) r = begun_by r
txn_of (BeginQuery limit strict) r = begun_by r
txn_of (Read t x) r = Some t.0
txn_of (Write t x v) r = Some t.0
txn_of (Commit t) r = Some t.0
txn_of (Abort t) r = Some t.0

-- the transaction that an event with this reply begins
abbrev pub beginner : Event → Reply → Option ℕ
beginner (BeginUpdate limit) r = begun_by r
beginner (BeginQuery limit strict) r = begun_by r
beginner _ r = None

-- the transaction that an event ends
abbrev pub ender : Event → Option ℕ
ender (Commit t) = Some t.0
ender (Abort t) = Some t.0
ender _ = None

abbrev pub item_in : Entry → Option ℕ
item_in e = item_of e.event

abbrev pub txn_in : Entry → Option ℕ
txn_in e = txn_of e.event e.reply

-- the item of an accepted operation, the transaction of an accepted entry, and the one that an accepted entry begins or
-- ends
abbrev pub accepted_item : Entry → Option ℕ
accepted_item e = if is_refusal e.reply then None else item_in e

abbrev pub accepted_txn : Entry → Option ℕ
accepted_txn e = if is_refusal e.reply then None else txn_in e

abbrev pub begun_txn : Entry → Option ℕ
begun_txn e = if is_refusal e.reply then None else beginner e.event e.reply

abbrev pub ended_txn : Entry → Option ℕ
ended_txn e = if is_refusal e.reply then None else ender e.event

abbrev pub is_some_eq : Option ℕ → ℕ → Bool
is_some_eq None k = false
is_some_eq (Some m) k = m == k

-- the places, counted from n, of the entries that have the key
abbrev pub places_from : (Entry → Option ℕ) → ℕ → ℕ → List Entry → List ℕ
places_from key k n [] = []
places_from key k n (e ∷ es) =
    if is_some_eq (key e) k then n ∷ places_from key k (n + 1) es else places_from key k (n + 1) es

-- the last of the places of the entries that have the key
abbrev pub last_place : (Entry → Option ℕ) → ℕ → List Entry → Option ℕ
last_place key k es = last_or None (places_from key k 0 es)

abbrev pub last_of_key : (Entry → Option ℕ) → Option ℕ → List Entry → Option ℕ
last_of_key key None es = None
last_of_key key (Some k) es = last_place key k es

-- the last entry before place i that has the key of the entry there
abbrev pub earlier_at : (Entry → Option ℕ) → Option (Option ℕ) → List Entry → Option ℕ
earlier_at key None es = None
earlier_at key (Some own) es = last_of_key key own es

abbrev pub earlier : (Entry → Option ℕ) → (Entry → Option ℕ) → List Entry → ℕ → Option ℕ
earlier key own es i = earlier_at key (option_map own (slice_get es i)) (take i es)

-- the index of the entry that begins a transaction
abbrev pub begin_place : ℕ → List Entry → ℕ
begin_place t es = unwrap_or (last_place begun_txn t es) 0

-- how and where a transaction began, and where it ended
abbrev pub facts_by : Option BeginRecord → ℕ → Option ℕ → Option Facts
facts_by None begin end = None
facts_by (Some b) begin end =
    Some (record { query = b.query; strict = b.strict; limit = b.limit; begin = begin; end = end })

abbrev pub facts_of : List Entry → ℕ → Option Facts
facts_of es t = facts_by (begin_record (accepted es) t) (begin_place t es) (last_place ended_txn t es)

-- Encodes an optional entry index in a table: 0 for none, else the index plus 1.
abbrev pub coded : Option ℕ → ℕ
coded None = 0
coded (Some k) = k + 1

abbrev pub decoded : ℕ → Option ℕ
decoded zero = None
decoded (suc k) = Some k

-- the code that a table has at a key; 0 without a key or if the key is out of range
abbrev pub key_at : List ℕ → Option ℕ → ℕ
key_at table None = 0
key_at table (Some k) = slice_index_or table k 0

abbrev pub links_by : (Entry → Option ℕ) → (Entry → Option ℕ) → List Entry → List ℕ
links_by key own es = map (λ i. coded (earlier key own es i)) (range_with_len 0 (length es))

abbrev pub lasts_by : (Entry → Option ℕ) → List Entry → ℕ → List ℕ
lasts_by key es n = map (λ k. coded (last_place key k es)) (range_with_len 0 n)

-- the record in a row of the table of begins
abbrev pub record_in : Begin → BeginRecord
record_in b = record { query = is_query_kind b.kind; strict = b.strict; limit = b.limit }

-- how many transactions have begun
abbrev pub begun_count : List Entry → ℕ
begun_count es = length (begin_records (accepted es))

-- the tables are those of the entries, over n items; the code before those of the begins is of no transaction
pub record AreLinks (n : ℕ) (es : List Entry) (l : BackLinks) : Type 0 where
  pub on_item : l.on_item.items ≡ links_by accepted_item item_in es
  pub of_txn : l.of_txn.items ≡ links_by accepted_txn txn_in es
  pub items : l.items.items ≡ lasts_by accepted_item es n
  pub txns : l.txns.items ≡ lasts_by accepted_txn es (begun_count es + 1)
  pub ends : l.ends.items ≡ lasts_by ended_txn es (begun_count es + 1)
  pub begins : map record_in l.begins.items ≡ begin_records (accepted es)
  pub begin_codes : 0 ∷ map (λ b. b.code) l.begins.items ≡ lasts_by begun_txn es (begun_count es + 1)

-- accepted entries are on items below n, and of transactions that have begun
pub record IsFit (n : ℕ) (es : List Entry) : Type 0 where
  pub items : (x : ℕ) → n ≤ x → last_place accepted_item x es ≡ None
  pub txns : (t : ℕ) → begun_count es < t → last_place accepted_txn t es ≡ None
  pub ends : (t : ℕ) → begun_count es < t → last_place ended_txn t es ≡ None

-- the tables have capacity for k more begins, and for k more entries whose indices have 32-bit codes
abbrev pub HasCapacityToBegin : ℕ → BackLinks → Type 0
HasCapacityToBegin k l =
    (length l.txns.items + k ≤ vec_capacity l.txns)
    × (length l.ends.items + k ≤ vec_capacity l.ends)
    × (length l.begins.items + k ≤ vec_capacity l.begins)

abbrev pub HasCapacity : ℕ → BackLinks → Type 0
HasCapacity k l =
    (length l.on_item.items + k < 2 ^ 32)
    × (length l.on_item.items + k ≤ vec_capacity l.on_item)
    × (length l.of_txn.items + k ≤ vec_capacity l.of_txn)
    × HasCapacityToBegin k l

-- The tables after an accepted event whose index has this code.

abbrev pub with_key : List ℕ → Option ℕ → ℕ → List ℕ
with_key table None code = table
with_key table (Some k) code = slice_set table k code

abbrev pub txns_after : List ℕ → Event → ℕ → List ℕ
txns_after table (BeginUpdate limit) code = table ++ code ∷ []
txns_after table (BeginQuery limit strict) code = table ++ code ∷ []
txns_after table (Read t x) code = slice_set table t.0 code
txns_after table (Write t x v) code = slice_set table t.0 code
txns_after table (Commit t) code = slice_set table t.0 code
txns_after table (Abort t) code = slice_set table t.0 code

abbrev pub ends_after : List ℕ → Event → ℕ → List ℕ
ends_after table (BeginUpdate limit) code = table ++ 0 ∷ []
ends_after table (BeginQuery limit strict) code = table ++ 0 ∷ []
ends_after table (Commit t) code = slice_set table t.0 code
ends_after table (Abort t) code = slice_set table t.0 code
ends_after table _ code = table

abbrev pub begins_after : List Begin → Event → ℕ → List Begin
begins_after table (BeginUpdate limit) code =
    table ++ record { kind = Update; strict = false; code = code; limit = limit } ∷ []
begins_after table (BeginQuery limit strict) code =
    table ++ record { kind = Query; strict = strict; code = code; limit = limit } ∷ []
begins_after table _ code = table

-- an accepted begin has the next number
abbrev pub IsNumbered : List Entry → Event → Reply → Type 0
IsNumbered es (BeginUpdate limit) r = (is_refusal r ≡ false) → begun_by r ≡ Some (begun_count es + 1)
IsNumbered es (BeginQuery limit strict) r = (is_refusal r ≡ false) → begun_by r ≡ Some (begun_count es + 1)
IsNumbered es _ r = ⊤
