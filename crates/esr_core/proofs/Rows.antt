-- The table of transactions.
use Rattle.std.proofs.Common.{◌≡◌, ℕ, zero, suc, ◌+◌, ◌<◌, ◌≤◌, List, [], ◌∷◌, ◌++◌, length, Bool, true, false, not, ◌&&◌, ◌==◌, refl, sym, ◌∙◌, ap, arith, None, Some, if◌then◌else◌, map, get_or, set, add-zero, is_some, slice_get}
use Rattle.std.specs.List.{range_with_len}
use Rattle.std.proofs.lemmas.Bool.{false≢true, eq-eqb, ne_eqb, and_right}
use Rattle.std.proofs.lemmas.Option.{slice_get_past}
use Rattle.std.proofs.lemmas.List.FromFn.{length-map-range_with_len, get_or-map-range_with_len, map-range_with_len_more}
use Rattle.std.proofs.lemmas.List.Sums.{sum_by_push}
use Rattle.std.proofs.lemmas.List.{length_push}
use Rattle.esr_core.specs.Types.{Event, Read, AlreadyEnded, NoSuchTransaction}
use Rattle.esr_history.specs.Events.{BeginRecord, kind_of, begin_record_of, begin_records, txn_numbers, commits, aborts, reads_any, is_active, is_begun, is_query, total_read_count}
use Rattle.esr_history.specs.Machine.{Schedule, accepted_in, when, first_reason, not_begun, ended}
use Rattle.esr_history.specs.WellFormed.{IsWellFormed, names}
use Rattle.esr_history.proofs.Lists.{any_push_no}
use Rattle.esr_history.proofs.Ranges.{map_same, set_range}
use Rattle.esr_history.proofs.TraceOfHistory.{count_none}
use Rattle.esr_history.proofs.WellFormed.{names_aborter}
use Rattle.esr_core.specs.Represented.{transaction_after, transactions_after, Transaction}
use Rattle.esr_core.proofs.Held.{is_active-unchanged, is_active-unchanged_by_non_end, IsBegin, txn_numbers-unchanged, is_query-unchanged, begin_records-begin, begin_record-begin, begin_record-new, next_number_is_unused, commits_name}

-- there is a row for each transaction
pub rows_len : (accepted_in : List Event) (table : List Transaction) → table ≡ transactions_after accepted_in → length table ≡ length (begin_records accepted_in)
rows_len accepted_in table is = ap length is ∙ length-map-range_with_len (transaction_after accepted_in) 1 (length (begin_records accepted_in))

pub row_is : (accepted_in : List Event) (table : List Transaction) → table ≡ transactions_after accepted_in → (k : ℕ) (r : Transaction) → k < length table → r ≡ get_or table k r → r ≡ transaction_after accepted_in (suc k)
row_is accepted_in table is k r l at =
    at ∙ (ap (λ (rs : List Transaction). get_or rs k r) is ∙ get_or-map-range_with_len (transaction_after accepted_in) 1 (length (begin_records accepted_in)) k (suc k) r (rw (← rows_len accepted_in table is) l) (omega arith))

pub begun_at : (accepted_in : List Event) (k : ℕ) → k < length (begin_records accepted_in) → is_begun accepted_in (suc k) ≡ true
begun_at accepted_in k l = some (begin_records accepted_in) k l
  where
    some : (xs : List BeginRecord) (j : ℕ) → j < length xs → is_some (slice_get xs j) ≡ true
    some [] j l = absurd (omega arith)
    some (x ∷ xs) zero l = refl
    some (x ∷ xs) (suc j) l = some xs j (omega arith)

reason_at : (begun act : Bool) → begun ≡ true → first_reason (when (not begun) NoSuchTransaction ∷ when (not act) AlreadyEnded ∷ []) ≡ (if act then None else Some AlreadyEnded)
reason_at true true b = refl
reason_at true false b = refl
reason_at false act b = absurd (false≢true b)

-- the table's row of a transaction
module _ (h : Schedule) (table : List Transaction) (is : table ≡ transactions_after (accepted_in h)) where
  pub row_reason : (k : ℕ) (r : Transaction) → k < length table → r ≡ get_or table k r → first_reason (not_begun h (suc k) ∷ ended h (suc k) ∷ []) ≡ (if r.active then None else Some AlreadyEnded)
  row_reason k r l at =
      reason_at (is_begun (accepted_in h) (suc k)) (is_active (accepted_in h) (suc k)) (begun_at (accepted_in h) k (rw (← rows_len (accepted_in h) table is) l))
      ∙ ap (λ (q : Transaction). if q.active then None else Some AlreadyEnded) (sym (row_is (accepted_in h) table is k r l at))

  pub no_row_reason : (k : ℕ) → length table ≤ k → first_reason (not_begun h (suc k) ∷ ended h (suc k) ∷ []) ≡ Some NoSuchTransaction
  no_row_reason k l = rw (slice_get_past (begin_records (accepted_in h)) k (rw (← rows_len (accepted_in h) table is) l)) refl

abbrev row : Bool → Bool → ℕ → Transaction
row q a n = record { kind = kind_of q; active = a; reads = if q then n else 0 }

row_same : (p q a b : Bool) (m n : ℕ) → p ≡ q → a ≡ b → m ≡ n → row p a m ≡ row q b n
row_same p q a b m n e f g = ap (λ (x : Bool). row x a m) e ∙ (ap (λ (x : Bool). row q x m) f ∙ ap (λ (x : ℕ). row q b x) g)

reads_any_name : (t : ℕ) (e : Event) → reads_any t e ≡ true → names t e ≡ true
reads_any_name t (Read u y) is = is
reads_any_name t _ is = absurd (false≢true is)

-- the table after a begin
pub rows-begin : (accepted_in : List Event) → IsWellFormed accepted_in → (e : Event) (b : BeginRecord) → IsBegin e b → (table : List Transaction) → table ≡ transactions_after accepted_in
    → table ++ record { kind = kind_of b.query; active = true; reads = 0 } ∷ [] ≡ transactions_after (accepted_in ++ e ∷ [])
rows-begin accepted_in o e b is table was =
    ap (λ (rs : List Transaction). rs ++ record { kind = kind_of b.query; active = true; reads = 0 } ∷ []) was
    ∙ (ap (λ (rs : List Transaction). rs ++ record { kind = kind_of b.query; active = true; reads = 0 } ∷ []) (map_same (transaction_after accepted_in) (transaction_after (accepted_in ++ e ∷ [])) 1 (length (begin_records accepted_in)) same)
    ∙ (ap (λ (r : Transaction). map (transaction_after (accepted_in ++ e ∷ [])) (txn_numbers accepted_in) ++ r ∷ []) new
    ∙ (sym (map-range_with_len_more (transaction_after (accepted_in ++ e ∷ [])) 1 (length (begin_records accepted_in)) (suc (length (begin_records accepted_in))) (omega arith))
    ∙ ap (λ n. map (transaction_after (accepted_in ++ e ∷ [])) (range_with_len 1 n)) (sym (longer)))))
  where
    longer : length (begin_records (accepted_in ++ e ∷ [])) ≡ length (begin_records accepted_in) + 1
    longer = ap length (begin_records-begin accepted_in e b is) ∙ length_push (begin_records accepted_in) b

    no_more : (t : ℕ) → total_read_count (accepted_in ++ e ∷ []) t ≡ total_read_count accepted_in t
    no_more t = sum_by_push (λ f. if reads_any t f then 1 else 0) accepted_in e ∙ rw (is.reads_any_none t) (omega arith)

    same : (t : ℕ) → 1 ≤ t → t < 1 + length (begin_records accepted_in) → transaction_after accepted_in t ≡ transaction_after (accepted_in ++ e ∷ []) t
    same zero low high = absurd (omega arith)
    same (suc k) low high =
        let begun : is_begun accepted_in (suc k) ≡ true = begun_at accepted_in k (omega arith) in
        rw (is_active-unchanged_by_non_end accepted_in e (suc k) is.commits_none is.aborts_none begun, no_more (suc k), begin_record-begin accepted_in e (suc k) begun) refl

    new : record { kind = kind_of b.query; active = true; reads = 0 } ≡ transaction_after (accepted_in ++ e ∷ []) (suc (length (begin_records accepted_in)))
    new =
        grind (arith, no_more, count_none, next_number_is_unused, reads_any_name, begin_record-new accepted_in e b is, any_push_no, commits_name, names_aborter, row_same)

module _ (accepted_in : List Event) (e : Event) (none : begin_record_of e ≡ None) where
  along : (table : List Transaction) → table ≡ map (transaction_after (accepted_in ++ e ∷ [])) (txn_numbers accepted_in) → table ≡ transactions_after (accepted_in ++ e ∷ [])
  along table is = is ∙ ap (map (transaction_after (accepted_in ++ e ∷ []))) (sym (txn_numbers-unchanged accepted_in e none))

  more_reads : (t : ℕ) → total_read_count (accepted_in ++ e ∷ []) t ≡ total_read_count accepted_in t + (if reads_any t e then 1 else 0)
  more_reads t = sum_by_push (λ f. if reads_any t f then 1 else 0) accepted_in e

  after : (t : ℕ) (act : Bool) → is_active (accepted_in ++ e ∷ []) t ≡ act → transaction_after (accepted_in ++ e ∷ []) t ≡ row (is_query accepted_in t) act (total_read_count accepted_in t + (if reads_any t e then 1 else 0))
  after t act is = row_same (is_query (accepted_in ++ e ∷ []) t) (is_query accepted_in t) (is_active (accepted_in ++ e ∷ []) t) act (total_read_count (accepted_in ++ e ∷ []) t) (total_read_count accepted_in t + (if reads_any t e then 1 else 0)) (is_query-unchanged accepted_in e none t) is (more_reads t)

  -- an event that ends nothing and that no query reads by leaves the table
  pub rows-unchanged : ((t : ℕ) → commits t e ≡ false) → ((t : ℕ) → aborts t e ≡ false) → ((t : ℕ) → is_query accepted_in t ≡ true → reads_any t e ≡ false) → (table : List Transaction) → table ≡ transactions_after accepted_in → table ≡ transactions_after (accepted_in ++ e ∷ [])
  rows-unchanged c a r table was = along table (was ∙ map_same (transaction_after accepted_in) (transaction_after (accepted_in ++ e ∷ [])) 1 (length (begin_records accepted_in)) (λ t low high. same t))
    where
      same : (t : ℕ) → transaction_after accepted_in t ≡ transaction_after (accepted_in ++ e ∷ []) t
      same t =
          grind (arith, after t (is_active accepted_in t) (is_active-unchanged accepted_in e none c a t), is_active-unchanged accepted_in e none c a t, add-zero (total_read_count accepted_in t))

  -- a read by a query is counted
  pub rows-read : (k : ℕ) (r : Transaction) → ((t : ℕ) → commits t e ≡ false) → ((t : ℕ) → aborts t e ≡ false) → is_query accepted_in (suc k) ≡ true → ((t : ℕ) → reads_any t e ≡ (suc k == t))
      → (table : List Transaction) → table ≡ transactions_after accepted_in → k < length table → r ≡ get_or table k r → set table k (record r { reads = r.reads + 1 }) ≡ transactions_after (accepted_in ++ e ∷ [])
  rows-read k r c a query by table was l at =
      along (set table k (record r { reads = r.reads + 1 }))
      (ap (λ (rs : List Transaction). set rs k (record r { reads = r.reads + 1 })) was
      ∙ set_range (transaction_after accepted_in) (transaction_after (accepted_in ++ e ∷ [])) 1 (length (begin_records accepted_in)) k (record r { reads = r.reads + 1 }) (rw (← rows_len accepted_in table was) l) here other)
    where
      here : transaction_after (accepted_in ++ e ∷ []) (1 + k) ≡ record r { reads = r.reads + 1 }
      here =
          (let num : 1 + k ≡ suc k = omega arith in ap (transaction_after (accepted_in ++ e ∷ [])) num)
          ∙ (after (suc k) (is_active accepted_in (suc k)) (is_active-unchanged accepted_in e none c a (suc k))
          ∙ (ap (λ (b : Bool). row (is_query accepted_in (suc k)) (is_active accepted_in (suc k)) (total_read_count accepted_in (suc k) + (if b then 1 else 0))) (by (suc k) ∙ eq-eqb (suc k) (suc k) refl)
          ∙ (counts (is_query accepted_in (suc k)) query
          ∙ ap (λ (q : Transaction). record q { reads = q.reads + 1 }) (sym (row_is accepted_in table was k r l at)))))
        where
          counts : (q : Bool) → q ≡ true → row q (is_active accepted_in (suc k)) (total_read_count accepted_in (suc k) + 1) ≡ record (row q (is_active accepted_in (suc k)) (total_read_count accepted_in (suc k))) { reads = (row q (is_active accepted_in (suc k)) (total_read_count accepted_in (suc k))).reads + 1 }
          counts true is = refl
          counts false is = absurd (false≢true is)

      other : (t : ℕ) → (t ≡ 1 + k → ⊥) → transaction_after (accepted_in ++ e ∷ []) t ≡ transaction_after accepted_in t
      other t ne = grind (arith, after, is_active-unchanged, ne_eqb, add-zero)

  -- the end of a transaction
  pub rows-end : (k : ℕ) (r : Transaction) → ((t : ℕ) → is_active (accepted_in ++ e ∷ []) t ≡ (is_active accepted_in t && not (suc k == t))) → ((t : ℕ) → reads_any t e ≡ false)
      → (table : List Transaction) → table ≡ transactions_after accepted_in → k < length table → r ≡ get_or table k r → set table k (record r { active = false }) ≡ transactions_after (accepted_in ++ e ∷ [])
  rows-end k r ends by table was l at =
      along (set table k (record r { active = false }))
      (ap (λ (rs : List Transaction). set rs k (record r { active = false })) was
      ∙ set_range (transaction_after accepted_in) (transaction_after (accepted_in ++ e ∷ [])) 1 (length (begin_records accepted_in)) k (record r { active = false }) (rw (← rows_len accepted_in table was) l) here other)
    where
      count : (t : ℕ) → total_read_count accepted_in t + (if reads_any t e then 1 else 0) ≡ total_read_count accepted_in t
      count t = ap (λ (b : Bool). total_read_count accepted_in t + (if b then 1 else 0)) (by t) ∙ add-zero (total_read_count accepted_in t)

      here : transaction_after (accepted_in ++ e ∷ []) (1 + k) ≡ record r { active = false }
      here =
          (let num : 1 + k ≡ suc k = omega arith in ap (transaction_after (accepted_in ++ e ∷ [])) num)
          ∙ (after (suc k) false (ends (suc k) ∙ (ap (λ (b : Bool). is_active accepted_in (suc k) && not b) (eq-eqb (suc k) (suc k) refl) ∙ and_right (is_active accepted_in (suc k)) false refl))
          ∙ (ap (λ (m : ℕ). row (is_query accepted_in (suc k)) false m) (count (suc k))
          ∙ ap (λ (q : Transaction). record q { active = false }) (sym (row_is accepted_in table was k r l at))))

      other : (t : ℕ) → (t ≡ 1 + k → ⊥) → transaction_after (accepted_in ++ e ∷ []) t ≡ transaction_after accepted_in t
      other t ne = grind (arith, after, ne_eqb, count)
