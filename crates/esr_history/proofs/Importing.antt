-- The table of imports, entry after entry.
use Rattle.std.proofs.Common.{◌≡◌, ℕ, zero, suc, ◌+◌, ◌<◌, ◌≤◌, ◌^◌, true, false, List, [], ◌∷◌, ◌++◌, length, refl, sym, ◌∙◌, ap, subst, arith, map, Option, Some, None, inl, inr, ⊎_elim, slice_index_or, unwrap_or, nat_lt, option_map}
use Rattle.std.specs.List.{range_with_len, slice_get, cons_option, AllByRecursion}
use Rattle.std.proofs.lemmas.Bool.{ltb-false, cases_Bool, cases_lt}
use Rattle.std.proofs.lemmas.List.{length-map, length_push}
use Rattle.std.proofs.lemmas.Option.{slice_get_past}
use Rattle.std.proofs.lemmas.List.FromFn.{length-range_with_len}
use Rattle.esr_history.specs.Events.{BeginRecord, is_refusal, begin_records, begin_record_of, limit_of, TxnId, Event, BeginUpdate, BeginQuery, Reply, LimitOutOfRange}
use Rattle.esr_history.specs.Machine.{DistanceFunction, Schedule, accepted_in, extended, charges_in, charges, due_in, value_distance, import_in, limit_too_high, reply_to, reasons, IsLegal}
use Rattle.esr_history.specs.Legal.{legal_induction, IsLegal-extended}
use Rattle.esr_history.specs.BackLinks.{begun_count}
use Rattle.esr_history.specs.Imports.{imported, with_number, AreImports, AreDue}
use Rattle.esr_history.proofs.Lists.{filter_map_push}
use Rattle.esr_history.proofs.Allowed.{NoneApplies}
use Rattle.esr_history.proofs.LegalWellFormed.{when_none}
use Rattle.esr_history.proofs.Membership.{Each-append}
use Rattle.esr_history.proofs.Charges.{import-push, legal_within_limits}
use Rattle.esr_history.proofs.Linking.{accepted_push, accepted_refused, count_same, count_more, mapped_get, mapped_past}
use Rattle.esr_history.proofs.Fitting.{accepts}

-- a table by its values
table_is : (f : ℕ → ℕ) (a : ℕ) (l : List ℕ) → ((k : ℕ) → k < length l → slice_index_or l k 0 ≡ f (a + k)) → l ≡ map f (range_with_len a (length l))
table_is f a [] same = refl
table_is f a (x ∷ l) same =
    let z : a + 0 ≡ a = omega arith in
    ap (λ v. v ∷ l) (same 0 (omega arith) ∙ ap f z)
    ∙ ap (λ t. f a ∷ t) (table_is f (a + 1) l (λ k m. let e : a + suc k ≡ a + 1 + k = omega arith in same (suc k) (omega arith) ∙ ap f e))

-- limits are at most 10^18
abbrev AreLow : List Event → Type 0
AreLow events = AllByRecursion (λ (b : BeginRecord). b.limit ≤ 10 ^ 18) (begin_records events)

low_next : (d : DistanceFunction) (h : Schedule) (e : Event) (r : Reply) → r ≡ reply_to d h e → AreLow (accepted_in h) → AreLow (accepted_in (extended h e r))
low_next d h e r is low =
    elim (cases_Bool (is_refusal r)) [
      | inl refused ↦ subst AreLow (sym (accepted_refused h.entries (record { event = e; reply = r }) refused)) low
      | inr ok ↦
          subst AreLow (sym (accepted_push h.entries (record { event = e; reply = r }) ok))
          (subst (AllByRecursion (λ (b : BeginRecord). b.limit ≤ 10 ^ 18)) (sym (filter_map_push begin_record_of (accepted_in h) e))
          (Each-append (λ (b : BeginRecord). b.limit ≤ 10 ^ 18) (begin_records (accepted_in h)) (cons_option (begin_record_of e) []) low (last e (accepts d h e r is ok).0)))
    ]
  where
    low_limit : (l : ℕ) → limit_too_high l ≡ None → l ≤ 10 ^ 18
    low_limit l none = ltb-false (10 ^ 18) l (when_none (nat_lt (10 ^ 18) l) LimitOutOfRange none)

    last : (e : Event) → NoneApplies (reasons d h e) → AllByRecursion (λ (b : BeginRecord). b.limit ≤ 10 ^ 18) (cons_option (begin_record_of e) [])
    last (BeginUpdate l) none = (low_limit l none.0, tt)
    last (BeginQuery l s) none = (low_limit l none.0, tt)
    last _ none = tt

low_limits : (events : List Event) → AreLow events → (t : ℕ) → limit_of events t ≤ 10 ^ 18
low_limits events low zero = omega arith
low_limits events low (suc k) = at (begin_records events) k low
  where
    at : (bs : List BeginRecord) (k : ℕ) → AllByRecursion (λ (b : BeginRecord). b.limit ≤ 10 ^ 18) bs → unwrap_or (option_map (λ (b : BeginRecord). b.limit) (slice_get bs k)) 0 ≤ 10 ^ 18
    at [] k all = omega arith
    at (b ∷ bs) zero all = all.0
    at (b ∷ bs) (suc k) all = at bs k all.1

module _ (d : DistanceFunction) (h : Schedule) (legal : IsLegal d h) where
  pub limit_low : (t : ℕ) → limit_of (accepted_in h) t ≤ 10 ^ 18
  limit_low t = low_limits (accepted_in h) (legal_induction d (λ g. AreLow (accepted_in g)) (low_next d) h tt legal) t

  import_low : (t : ℕ) → import_in (charges_in d h) t ≤ 10 ^ 18
  import_low t =
      let within : import_in (charges_in d h) t ≤ limit_of (accepted_in h) t = (legal_within_limits d h legal).imports t in
      let low : limit_of (accepted_in h) t ≤ 10 ^ 18 = limit_low t in
      omega arith

  -- a transaction that has not begun has imported nothing
  import_none : (t : ℕ) → begun_count h.entries < t → import_in (charges_in d h) t ≡ 0
  import_none t past =
      let within : import_in (charges_in d h) t ≤ limit_of (accepted_in h) t = (legal_within_limits d h legal).imports t in
      let none : limit_of (accepted_in h) t ≡ 0 = unbegun t past in
      omega arith
    where
      unbegun : (t : ℕ) → begun_count h.entries < t → limit_of (accepted_in h) t ≡ 0
      unbegun zero past = refl
      unbegun (suc k) past = ap (λ (b : Option BeginRecord). unwrap_or (option_map (λ c. c.limit) b) 0) (slice_get_past (begin_records (accepted_in h)) k (omega arith))

  pub import_at : (table : List ℕ) → AreImports d h table → (t : ℕ) → slice_index_or table t 0 ≡ import_in (charges_in d h) t
  import_at table are t = grind (arith, ⊎_elim, mapped_get, mapped_past, import_none, cases_lt)

module _ (d : DistanceFunction) (h : Schedule) (legal : IsLegal d h) (e : Event) (r : Reply) (is : r ≡ reply_to d h e) where
  more : is_refusal r ≡ false → (t : ℕ) → import_in (charges_in d (extended h e r)) t ≡ import_in (charges_in d h) t + import_in (due_in d h e) t
  more ok t = ap (λ (es : List Event). import_in (charges (value_distance d h) h.opening es) t) (accepted_push h.entries (record { event = e; reply = r }) ok) ∙ import-push (value_distance d h) h.opening (accepted_in h) e t

  -- the sums fit 64 bits
  pub import_fits : (table : List ℕ) → AreImports d h table → (charges : List (TxnId × ℕ)) → AreDue d h e r charges → is_refusal r ≡ false → (t : ℕ) → slice_index_or table t 0 + imported charges t < 2 ^ 64
  import_fits table are charges due ok t =
      grind (arith, import_low d (extended h e r) (IsLegal-extended d h e r legal is) t, import_at d h legal table are t, more ok t)

  pub imports_accepted : is_refusal r ≡ false → (table raised : List ℕ) (charges : List (TxnId × ℕ)) → AreDue d h e r charges → AreImports d h table → length raised ≡ length (with_number table e)
      → ((t : ℕ) → t < length (with_number table e) → slice_index_or raised t 0 ≡ slice_index_or (with_number table e) t 0 + imported charges t) → AreImports d (extended h e r) raised
  imports_accepted ok table raised charges due are len sums =
      table_is (λ t. import_in (charges_in d (extended h e r)) t) 0 raised (λ k l.
      let z : 0 + k ≡ k = omega arith in
      sums k (subst (λ n. k < n) len l)
      ∙ (ap (λ n. n + imported charges k) (opened_at k)
      ∙ (ap (λ n. import_in (charges_in d h) k + n) (due ok k)
      ∙ (sym (more ok k) ∙ ap (λ t. import_in (charges_in d (extended h e r)) t) (sym z)))))
      ∙ ap (λ n. map (λ t. import_in (charges_in d (extended h e r)) t) (range_with_len 0 n)) (len ∙ opened_length e refl)
    where
      is_table : length table ≡ begun_count h.entries + 1
      is_table = ap length are ∙ (length-map (range_with_len 0 (begun_count h.entries + 1)) (λ t. import_in (charges_in d h) t) ∙ length-range_with_len 0 (begun_count h.entries + 1))

      more_zero : (l : List ℕ) (k : ℕ) → slice_index_or (l ++ 0 ∷ []) k 0 ≡ slice_index_or l k 0
      more_zero [] zero = refl
      more_zero [] (suc k) = refl
      more_zero (x ∷ l) zero = refl
      more_zero (x ∷ l) (suc k) = more_zero l k

      opened_zero : (f : Event) (k : ℕ) → slice_index_or (with_number table f) k 0 ≡ slice_index_or table k 0
      opened_zero (BeginUpdate l) k = more_zero table k
      opened_zero (BeginQuery l s) k = more_zero table k
      opened_zero _ k = refl

      opened_at : (k : ℕ) → slice_index_or (with_number table e) k 0 ≡ import_in (charges_in d h) k
      opened_at k = opened_zero e k ∙ import_at d h legal table are k

      same_length : (f : Event) → e ≡ f → begin_record_of f ≡ None → length table ≡ begun_count (extended h e r).entries + 1
      same_length f same none = is_table ∙ ap (λ n. n + 1) (sym (count_same h.entries (record { event = e; reply = r }) ok (ap begin_record_of same ∙ none)))

      more_length : (f : Event) (b : BeginRecord) → e ≡ f → begin_record_of f ≡ Some b → length (table ++ 0 ∷ []) ≡ begun_count (extended h e r).entries + 1
      more_length f b same some = length_push table 0 ∙ ap (λ n. n + 1) (is_table ∙ sym (count_more h.entries (record { event = e; reply = r }) b ok (ap begin_record_of same ∙ some)))

      opened_length : (f : Event) → e ≡ f → length (with_number table f) ≡ begun_count (extended h e r).entries + 1
      opened_length (BeginUpdate l) same = more_length (BeginUpdate l) (record { query = false; strict = false; limit = l }) same refl
      opened_length (BeginQuery l s) same = more_length (BeginQuery l s) (record { query = true; strict = s; limit = l }) same refl
      opened_length e same = same_length e same refl
