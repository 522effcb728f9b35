-- The accounts of transactions.
use Rattle.std.proofs.Common.{◌≡◌, ℕ, zero, suc, ℤ, ◌+◌, ◌<◌, ◌≤◌, List, [], ◌∷◌, ◌++◌, length, Bool, true, false, not, refl, sym, ◌∙◌, ap, arith, Option, None, Some, if◌then◌else◌, map, add-zero, length-append, unwrap_or, option_map}
use Rattle.std.specs.List.{range_with_len}
use Rattle.std.proofs.lemmas.Option.{slice_get_past}
use Rattle.std.proofs.lemmas.List.FromFn.{map-range_with_len_more}
use Rattle.esr_core.specs.Types.{Event}
use Rattle.esr_history.specs.Events.{BeginRecord, kind_of, is_query_kind, begin_record_of, begin_records, begin_record, txn_numbers, limit_of, is_begun, is_query, is_update}
use Rattle.esr_history.specs.Machine.{Charge, due, charges, import_in, export_in}
use Rattle.esr_history.proofs.KindLaws.{query_kind}
use Rattle.esr_history.proofs.Charges.{import-push, export-push}
use Rattle.esr_history.proofs.LegalWellFormed.{begun_in_range}
use Rattle.esr_history.proofs.Ranges.{map_same, find_in_range, none_in_range, placed_end}
use Rattle.esr_history.proofs.Sides.{charges_kinds, no_import, no_export}
use Rattle.esr_history.proofs.Sums.{query_begun}
use Rattle.esr_history.proofs.WellFormed.{update_begun}
use Rattle.esr_ledgers.specs.declared.account.Account.{Account}
use Rattle.esr_ledgers.specs.Books.{number, account_of, is_open, is_open_query, is_open_update, limit_at, account_amount, new_account, with_account}
use Rattle.esr_core.specs.Represented.{account_after, books_of}
use Rattle.esr_core.proofs.Held.{IsBegin, txn_numbers-unchanged, is_query-unchanged, limit-unchanged, begin_records-begin, begin_record-begin, begin_record-new, update_or_query}
use Rattle.esr_core.proofs.Rows.{begun_at}
use Rattle.std.proofs.lemmas.Grind.{common_steps}

abbrev entry : ℕ → Bool → ℕ → ℕ → ℕ → Account
entry t query limit i x = record { number = record { 0 = t }; kind = kind_of query; limit = limit; amount = if query then i else x }

entry_same : (t : ℕ) (p q : Bool) (l m i j x y : ℕ) → p ≡ q → l ≡ m → i ≡ j → x ≡ y → entry t p l i x ≡ entry t q m j y
entry_same t p q l m i j x y a b c e = grind (arith, common_steps)

module _ (d : ℕ → ℤ → ℤ → ℕ) (opening : List ℤ) (events : List Event) where
  -- the account of a transaction that has begun
  pub account_begun : (t : ℕ) → is_begun events t ≡ true → account_of (books_of d opening events) t ≡ Some (account_after d opening events t)
  account_begun t is =
      let n : (1 ≤ t) × (t < 1 + length (begin_records events)) = begun_in_range events t is in
      find_in_range number (account_after d opening events) (λ u. refl) t 1 (length (begin_records events)) n.0 n.1

  pub open_query_is : (t : ℕ) → is_query events t ≡ true → is_open_query (books_of d opening events) t ≡ true
  open_query_is t is = ap (λ (o : Option Account). unwrap_or (option_map (λ (a : Account). is_query_kind a.kind) o) false) (account_begun t (query_begun events t is)) ∙ (query_kind (is_query events t) ∙ is)

  pub open_update_is : (t : ℕ) → is_update events t ≡ true → is_open_update (books_of d opening events) t ≡ true
  open_update_is t is = ap (λ (o : Option Account). unwrap_or (option_map (λ (a : Account). not (is_query_kind a.kind)) o) false) (account_begun t (update_begun events t is)) ∙ ap not (query_kind (is_query events t) ∙ update_or_query events t is)

  pub limit_is : (t : ℕ) → is_begun events t ≡ true → limit_at (books_of d opening events) t ≡ limit_of events t
  limit_is t is = ap (λ (o : Option Account). unwrap_or (option_map (λ (a : Account). a.limit) o) 0) (account_begun t is)

  pub import_is : (t : ℕ) → is_query events t ≡ true → account_amount (books_of d opening events) t ≡ import_in (charges d opening events) t
  import_is t is = ap (λ (o : Option Account). unwrap_or (option_map (λ (a : Account). a.amount) o) 0) (account_begun t (query_begun events t is)) ∙ rw is refl

  pub export_is : (t : ℕ) → is_update events t ≡ true → account_amount (books_of d opening events) t ≡ export_in (charges d opening events) t
  export_is t is = ap (λ (o : Option Account). unwrap_or (option_map (λ (a : Account). a.amount) o) 0) (account_begun t (update_begun events t is)) ∙ rw (update_or_query events t is) refl

  -- the next number is not open
  pub next_not_open : is_open (books_of d opening events) (suc (length (begin_records events))) ≡ false
  next_not_open = none_in_range number (account_after d opening events) (λ u. refl) (suc (length (begin_records events))) 1 (length (begin_records events)) (omega arith)

  -- an event that begins nothing and for which nothing is due leaves the accounts
  pub books-unchanged : (e : Event) → begin_record_of e ≡ None → due d opening events e ≡ [] → books_of d opening events ≡ books_of d opening (events ++ e ∷ [])
  books-unchanged e none nothing =
      map_same (account_after d opening events) (account_after d opening (events ++ e ∷ [])) 1 (length (begin_records events)) (λ t low high. same t)
      ∙ ap (map (account_after d opening (events ++ e ∷ []))) (sym (txn_numbers-unchanged events e none))
    where
      same : (t : ℕ) → account_after d opening events t ≡ account_after d opening (events ++ e ∷ []) t
      same t =
          entry_same t (is_query events t) (is_query (events ++ e ∷ []) t) (limit_of events t) (limit_of (events ++ e ∷ []) t) (import_in (charges d opening events) t) (import_in (charges d opening (events ++ e ∷ [])) t) (export_in (charges d opening events) t) (export_in (charges d opening (events ++ e ∷ [])) t)
          (sym (is_query-unchanged events e none t)) (sym (limit-unchanged events e none t))
          (sym (import-push d opening events e t ∙ (ap (λ (cs : List Charge). import_in (charges d opening events) t + import_in cs t) nothing ∙ add-zero (import_in (charges d opening events) t))))
          (sym (export-push d opening events e t ∙ (ap (λ (cs : List Charge). export_in (charges d opening events) t + export_in cs t) nothing ∙ add-zero (export_in (charges d opening events) t))))

  -- a begin opens the next account
  pub books-begin : (e : Event) (b : BeginRecord) → IsBegin e b → due d opening events e ≡ [] → with_account (books_of d opening events) (new_account (kind_of b.query) (record { 0 = suc (length (begin_records events)) }) b.limit) ≡ books_of d opening (events ++ e ∷ [])
  books-begin e b is nothing =
      let n = length (begin_records events) in
      placed_end number (account_after d opening events) (λ u. refl) (new_account (kind_of b.query) (record { 0 = suc n }) b.limit) (λ a. a) 1 n (omega arith)
      ∙ (ap (λ (as' : List Account). as' ++ new_account (kind_of b.query) (record { 0 = suc n }) b.limit ∷ []) (map_same (account_after d opening events) (account_after d opening (events ++ e ∷ [])) 1 n same)
      ∙ (ap (λ (a : Account). map (account_after d opening (events ++ e ∷ [])) (txn_numbers events) ++ a ∷ []) new
      ∙ (sym (map-range_with_len_more (account_after d opening (events ++ e ∷ [])) 1 n (suc n) (omega arith))
      ∙ ap (λ m. map (account_after d opening (events ++ e ∷ [])) (range_with_len 1 m)) (sym (ap length (begin_records-begin events e b is) ∙ length-append (begin_records events) (b ∷ []))))))
    where
      imports : (t : ℕ) → import_in (charges d opening events) t ≡ import_in (charges d opening (events ++ e ∷ [])) t
      imports t = sym (import-push d opening events e t ∙ (ap (λ (cs : List Charge). import_in (charges d opening events) t + import_in cs t) nothing ∙ add-zero (import_in (charges d opening events) t)))

      exports : (t : ℕ) → export_in (charges d opening events) t ≡ export_in (charges d opening (events ++ e ∷ [])) t
      exports t = sym (export-push d opening events e t ∙ (ap (λ (cs : List Charge). export_in (charges d opening events) t + export_in cs t) nothing ∙ add-zero (export_in (charges d opening events) t)))

      same : (t : ℕ) → 1 ≤ t → t < 1 + length (begin_records events) → account_after d opening events t ≡ account_after d opening (events ++ e ∷ []) t
      same zero low high = absurd (omega arith)
      same (suc k) low high =
          let stays : begin_record (events ++ e ∷ []) (suc k) ≡ begin_record events (suc k) = begin_record-begin events e (suc k) (begun_at events k (omega arith)) in
          entry_same (suc k) (is_query events (suc k)) (is_query (events ++ e ∷ []) (suc k)) (limit_of events (suc k)) (limit_of (events ++ e ∷ []) (suc k)) (import_in (charges d opening events) (suc k)) (import_in (charges d opening (events ++ e ∷ [])) (suc k)) (export_in (charges d opening events) (suc k)) (export_in (charges d opening (events ++ e ∷ [])) (suc k))
          (ap (λ (o : Option BeginRecord). unwrap_or (option_map (λ (c : BeginRecord). c.query) o) false) (sym stays)) (ap (λ (o : Option BeginRecord). unwrap_or (option_map (λ (c : BeginRecord). c.limit) o) 0) (sym stays)) (imports (suc k)) (exports (suc k))

      new : new_account (kind_of b.query) (record { 0 = suc (length (begin_records events)) }) b.limit ≡ account_after d opening (events ++ e ∷ []) (suc (length (begin_records events)))
      new =
          let n = suc (length (begin_records events)) in
          let there : begin_record (events ++ e ∷ []) n ≡ Some b = begin_record-new events e b is in
          let not_yet : begin_record events n ≡ None = slice_get_past (begin_records events) (length (begin_records events)) (omega arith) in
          let no_query : is_query events n ≡ false = ap (λ (o : Option BeginRecord). unwrap_or (option_map (λ (c : BeginRecord). c.query) o) false) not_yet in
          let no_update : is_update events n ≡ false = ap (λ (o : Option BeginRecord). unwrap_or (option_map (λ (c : BeginRecord). not c.query) o) false) not_yet in
          zero_amount b.query
          ∙ entry_same n b.query (is_query (events ++ e ∷ []) n) b.limit (limit_of (events ++ e ∷ []) n) 0 (import_in (charges d opening (events ++ e ∷ [])) n) 0 (export_in (charges d opening (events ++ e ∷ [])) n)
          (ap (λ (o : Option BeginRecord). unwrap_or (option_map (λ (c : BeginRecord). c.query) o) false) (sym there)) (ap (λ (o : Option BeginRecord). unwrap_or (option_map (λ (c : BeginRecord). c.limit) o) 0) (sym there))
          (sym (no_import events (charges d opening events) (charges_kinds d opening events) n no_query) ∙ imports n)
          (sym (no_export events (charges d opening events) (charges_kinds d opening events) n no_update) ∙ exports n)
        where
          zero_amount : (q : Bool) → new_account (kind_of q) (record { 0 = suc (length (begin_records events)) }) b.limit ≡ entry (suc (length (begin_records events))) q b.limit 0 0
          zero_amount true = refl
          zero_amount false = refl
