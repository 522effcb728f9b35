-- Charges on the accounts of transactions.
use Rattle.std.proofs.Common.{◌≡◌, ℕ, zero, suc, ℤ, ◌+◌, ◌<◌, ◌≤◌, List, [], ◌∷◌, ◌++◌, length, Bool, true, false, ◌&&◌, ◌==◌, refl, sym, ◌∙◌, ap, arith, inl, inr, Option, None, Some, if◌then◌else◌, map, add-zero, zero-add, find, nat_lt, option_map}
use Rattle.std.specs.Prelude.{IfNone, IfSome}
use Rattle.std.specs.List.{filter_map, cons_option, AllByRecursion}
use Rattle.std.proofs.lemmas.Bool.{cases_Bool, cases_eq, false≢true, eq-eqb, ne_eqb, eqb-true, and_parts}
use Rattle.std.proofs.lemmas.Option.{same_Some}
use Rattle.std.proofs.lemmas.List.Sums.{sum_by-cons}
use Rattle.std.proofs.lemmas.List.Elements.{All-from_recursion}
use Rattle.esr_core.specs.Types.{ItemId, TxnId, Event, Write, Refusal, BlockedByImport, BlockedByExport}
use Rattle.esr_history.specs.Events.{kind_of, begin_record_of, begin_records, txn_numbers, limit_of, is_begun, is_query, is_update, holds_read, read_count, current_value}
use Rattle.esr_history.specs.Machine.{DistanceFunction, Schedule, Charge, accepted_in, due, charges, charges_in, charge_of_write, import_in, export_in, total, import_full, export_full, first_reason}
use Rattle.esr_history.specs.ItemLocks.{query_reads}
use Rattle.esr_history.specs.Ascending.{IsAscendingBy}
use Rattle.esr_history.proofs.Charges.{import-push, export-push}
use Rattle.esr_history.proofs.Ranges.{map_same, filter_map_ascends}
use Rattle.esr_history.proofs.Sides.{due_kinds, no_import}
use Rattle.esr_history.proofs.TraceAgreement.{query_not_update}
use Rattle.esr_history.proofs.Sums.{query_begun}
use Rattle.esr_history.proofs.WellFormed.{update_begun}
use Rattle.esr_ledgers.specs.declared.account.Account.{Account}
use Rattle.esr_ledgers.specs.declared.ledgers.Quote.{Quote}
use Rattle.esr_ledgers.specs.declared.ledgers.Quote.TheVariants.{Fits, Import, Export}
use Rattle.esr_ledgers.specs.Books.{number, is_open_query, limit_at, account_amount, total_of, would_pass, quoted, quote_of, raised, charged_to_queries, charged, booked, AreCharges}
use Rattle.esr_core.specs.Represented.{account_after, books_of}
use Rattle.esr_core.specs.States.{reason_of, reason_for, charge_to, charges_by, charges_to}
use Rattle.esr_core.proofs.Held.{txn_numbers-unchanged, is_query-unchanged, limit-unchanged}
use Rattle.esr_core.proofs.Rows.{begun_at}
use Rattle.esr_core.proofs.Accounts.{open_query_is, open_update_is, limit_is, import_is, export_is}
use Rattle.std.proofs.lemmas.Grind.{common_steps}

abbrev is_some_charge : List (TxnId × ℕ) → Bool
is_some_charge [] = false
is_some_charge (c ∷ cs) = true

abbrev more : ℕ → Account → Account
more n a = record a { amount = a.amount + n }

total_by : (u : ℕ) (cs : List (TxnId × ℕ)) → total (charges_by u cs) ≡ total_of cs
total_by u [] = refl
total_by u (c ∷ cs) = sum_by-cons (λ (g : Charge). g.amount) (charge_to u c) (charges_by u cs) ∙ (ap (λ n. c.1 + n) (total_by u cs) ∙ sym (sum_by-cons (λ (g : TxnId × ℕ). g.1) c cs))

-- the total export of an update
export_by : (u t : ℕ) (cs : List (TxnId × ℕ)) → export_in (charges_by u cs) t ≡ (if u == t then total_of cs else 0)
export_by u t [] = grind (arith, common_steps)
export_by u t (c ∷ cs) =
    sum_by-cons (λ (g : Charge). if g.update == t then g.amount else 0) (charge_to u c) (charges_by u cs)
    ∙ (ap (λ n. (if u == t then c.1 else 0) + n) (export_by u t cs)
    ∙ (at (u == t) ∙ ap (λ n. if u == t then n else 0) (sym (sum_by-cons (λ (g : TxnId × ℕ). g.1) c cs))))
  where
    at : (b : Bool) → (if b then c.1 else 0) + (if b then total_of cs else 0) ≡ (if b then c.1 + total_of cs else 0)
    at true = refl
    at false = refl

-- amounts added to accounts in a row
raised_row : (t n : ℕ) (f : ℕ → Account) → ((v : ℕ) → number (f v) ≡ v) → (us : List ℕ) → raised t n (map f us) ≡ map (λ v. if v == t then more n (f v) else f v) us
raised_row t n f own [] = refl
raised_row t n f own (u ∷ us) = ap (λ k. (if k == t then more n (f u) else f u) ∷ raised t n (map f us)) (own u) ∙ ap (λ (as' : List Account). (if u == t then more n (f u) else f u) ∷ as') (raised_row t n f own us)

map_agree : (f g : ℕ → Account) → ((v : ℕ) → f v ≡ g v) → (us : List ℕ) → map f us ≡ map g us
map_agree f g same [] = refl
map_agree f g same (u ∷ us) = rw (same u, map_agree f g same us) refl

more_none : (a : Account) → more 0 a ≡ a
more_none a = ap (λ n. record a { amount = n }) (add-zero a.amount)

imported_row : (u : ℕ) (cs : List (TxnId × ℕ)) (f : ℕ → Account) → ((v : ℕ) → number (f v) ≡ v) → (us : List ℕ) → charged_to_queries (map f us) cs ≡ map (λ v. more (import_in (charges_by u cs) v) (f v)) us
imported_row u [] f own us = map_agree f (λ v. more 0 (f v)) (λ v. sym (more_none (f v))) us
imported_row u (c ∷ cs) f own us =
    ap (λ (as' : List Account). charged_to_queries as' cs) (raised_row c.0.0 c.1 f own us)
    ∙ (imported_row u cs (λ v. if v == c.0.0 then more c.1 (f v) else f v) (λ v. stays v (v == c.0.0)) us
    ∙ map_agree (λ v. more (import_in (charges_by u cs) v) (if v == c.0.0 then more c.1 (f v) else f v)) (λ v. more (import_in (charges_by u (c ∷ cs)) v) (f v)) join us)
  where
    stays : (v : ℕ) (b : Bool) → number (if b then more c.1 (f v) else f v) ≡ v
    stays v true = own v
    stays v false = own v

    join : (v : ℕ) → more (import_in (charges_by u cs) v) (if v == c.0.0 then more c.1 (f v) else f v) ≡ more (import_in (charges_by u (c ∷ cs)) v) (f v)
    join v =
        let share : import_in (charges_by u (c ∷ cs)) v ≡ (if c.0.0 == v then c.1 else 0) + import_in (charges_by u cs) v = sum_by-cons (λ (g : Charge). if g.query == v then g.amount else 0) (charge_to u c) (charges_by u cs) in
        elim (cases_eq v c.0.0) [
          | inl e ↦
              let sum : (f v).amount + c.1 + import_in (charges_by u cs) v ≡ (f v).amount + (c.1 + import_in (charges_by u cs) v) = omega arith in
              ap (λ b. more (import_in (charges_by u cs) v) (if b then more c.1 (f v) else f v)) (eq-eqb v c.0.0 e)
              ∙ (ap (λ n. record (f v) { amount = n }) sum
              ∙ ap (λ n. more n (f v)) (sym (share ∙ ap (λ b. (if b then c.1 else 0) + import_in (charges_by u cs) v) (eq-eqb c.0.0 v (sym e)))))
          | inr ne ↦
              ap (λ b. more (import_in (charges_by u cs) v) (if b then more c.1 (f v) else f v)) (ne_eqb v c.0.0 ne)
              ∙ ap (λ n. more n (f v)) (sym (share ∙ (ap (λ b. (if b then c.1 else 0) + import_in (charges_by u cs) v) (ne_eqb c.0.0 v (λ (g : c.0.0 ≡ v). ne (sym g))) ∙ zero-add (import_in (charges_by u cs) v))))
        ]

module _ (d : ℕ → ℤ → ℤ → ℕ) (opening : List ℤ) (events : List Event) where
  -- the accounts after charges that are due
  pub books-charged : (e : Event) → begin_record_of e ≡ None → (u : TxnId) (cs : List (TxnId × ℕ)) → is_update events u.0 ≡ true → due d opening events e ≡ charges_by u.0 cs
      → charged (books_of d opening events) u cs ≡ books_of d opening (events ++ e ∷ [])
  books-charged e none u cs update owed =
      ap (raised u.0 (total_of cs)) (imported_row u.0 cs (account_after d opening events) (λ v. refl) (txn_numbers events))
      ∙ (raised_row u.0 (total_of cs) (λ v. more (import_in (charges_by u.0 cs) v) (account_after d opening events v)) (λ v. refl) (txn_numbers events)
      ∙ (map_same (λ v. if v == u.0 then more (total_of cs) (more (import_in (charges_by u.0 cs) v) (account_after d opening events v)) else more (import_in (charges_by u.0 cs) v) (account_after d opening events v)) (account_after d opening (events ++ e ∷ [])) 1 (length (begin_records events)) same
      ∙ ap (map (account_after d opening (events ++ e ∷ []))) (sym (txn_numbers-unchanged events e none))))
    where
      imports : (t : ℕ) → import_in (charges d opening (events ++ e ∷ [])) t ≡ import_in (charges d opening events) t + import_in (charges_by u.0 cs) t
      imports t = import-push d opening events e t ∙ ap (λ (gs : List Charge). import_in (charges d opening events) t + import_in gs t) owed

      exports : (t : ℕ) → export_in (charges d opening (events ++ e ∷ [])) t ≡ export_in (charges d opening events) t + (if u.0 == t then total_of cs else 0)
      exports t = export-push d opening events e t ∙ (ap (λ (gs : List Charge). export_in (charges d opening events) t + export_in gs t) owed ∙ ap (λ n. export_in (charges d opening events) t + n) (export_by u.0 t cs))

      kept : (t : ℕ) (q : Bool) (i x : ℕ) → is_query events t ≡ q → (if q then import_in (charges d opening (events ++ e ∷ [])) t else export_in (charges d opening (events ++ e ∷ [])) t) ≡ (if q then i else x)
          → ◌≡◌ {A = Account} (record { number = record { 0 = t }; kind = kind_of q; limit = limit_of events t; amount = if q then i else x }) (account_after d opening (events ++ e ∷ []) t)
      kept t q i x is amounts = grind (arith, is_query-unchanged events e none t, limit-unchanged events e none t)

      at : (t : ℕ) (q : Bool) → is_query events t ≡ q → is_begun events t ≡ true
          → (if t == u.0 then more (total_of cs) (more (import_in (charges_by u.0 cs) t) (record { number = record { 0 = t }; kind = kind_of q; limit = limit_of events t; amount = if q then import_in (charges d opening events) t else export_in (charges d opening events) t })) else more (import_in (charges_by u.0 cs) t) (record { number = record { 0 = t }; kind = kind_of q; limit = limit_of events t; amount = if q then import_in (charges d opening events) t else export_in (charges d opening events) t })) ≡ account_after d opening (events ++ e ∷ []) t
      at t true is begun =
          let other : t ≡ u.0 → ⊥ = λ (g : t ≡ u.0). false≢true (sym (query_not_update events t is) ∙ (ap (is_update events) g ∙ update)) in
          rw (ne_eqb t u.0 other) (kept t true (import_in (charges d opening events) t + import_in (charges_by u.0 cs) t) 0 is (imports t))
      at t false is begun =
          let nothing : import_in (charges_by u.0 cs) t ≡ 0 = ap (λ (gs : List Charge). import_in gs t) (sym owed) ∙ no_import events (due d opening events e) (due_kinds d opening events e) t is in
          elim (cases_eq t u.0) [
            | inl e' ↦
                let sum : export_in (charges d opening events) t + 0 + total_of cs ≡ export_in (charges d opening events) t + total_of cs = omega arith in
                rw (eq-eqb t u.0 e', nothing) (kept t false 0 (export_in (charges d opening events) t + 0 + total_of cs) is (exports t ∙ (ap (λ b. export_in (charges d opening events) t + (if b then total_of cs else 0)) (eq-eqb u.0 t (sym e')) ∙ sym sum)))
            | inr ne ↦
                rw (ne_eqb t u.0 ne, nothing) (kept t false 0 (export_in (charges d opening events) t + 0) is (exports t ∙ ap (λ b. export_in (charges d opening events) t + (if b then total_of cs else 0)) (ne_eqb u.0 t (λ (g : u.0 ≡ t). ne (sym g)))))
          ]

      same : (t : ℕ) → 1 ≤ t → t < 1 + length (begin_records events) → (if t == u.0 then more (total_of cs) (more (import_in (charges_by u.0 cs) t) (account_after d opening events t)) else more (import_in (charges_by u.0 cs) t) (account_after d opening events t)) ≡ account_after d opening (events ++ e ∷ []) t
      same zero low high = absurd (omega arith)
      same (suc k) low high = at (suc k) (is_query events (suc k)) refl (begun_at events k (omega arith))

  -- the charges of a write, by the queries that have read the item
  pub due-write : (u : TxnId) (x : ItemId) (v : ℤ) → is_update events u.0 ≡ true
      → due d opening events (Write u x v) ≡ charges_by u.0 (charges_to (d x.0 v (current_value opening events x.0)) (filter_map (query_reads events x.0) (txn_numbers events)))
  due-write u x v update = rw update (each (txn_numbers events))
    where
      each : (us : List ℕ) → filter_map (charge_of_write d opening events u.0 x.0 v) us ≡ charges_by u.0 (charges_to (d x.0 v (current_value opening events x.0)) (filter_map (query_reads events x.0) us))
      each [] = refl
      each (q ∷ us) = grind (arith, each us)

  -- they are of queries that have begun, ascending
  pub are_charges-write : (u : TxnId) (x amount : ℕ) → is_update events u.0 ≡ true → AreCharges (books_of d opening events) u (charges_to amount (filter_map (query_reads events x) (txn_numbers events)))
  are_charges-write u x amount update = record {
    update = open_update_is d opening events u.0 update;
    queries = All-from_recursion (λ (c : TxnId × ℕ). is_open_query (books_of d opening events) c.0.0 ≡ true) (charges_to amount (filter_map (query_reads events x) (txn_numbers events))) (each (txn_numbers events));
    ascending = rise (filter_map (query_reads events x) (txn_numbers events)) (filter_map_ascends (λ (r : ℕ × ℕ). r.0) (query_reads events x) own 1 (length (begin_records events)));
  }
    where
      each : (us : List ℕ) → AllByRecursion (λ (c : TxnId × ℕ). is_open_query (books_of d opening events) c.0.0 ≡ true) (charges_to amount (filter_map (query_reads events x) us))
      each [] = tt
      each (q ∷ us) = at (is_query events q && holds_read events q x) refl (each us)
        where
          at : (b : Bool) → (is_query events q && holds_read events q x) ≡ b → AllByRecursion (λ (c : TxnId × ℕ). is_open_query (books_of d opening events) c.0.0 ≡ true) (charges_to amount (filter_map (query_reads events x) us))
              → AllByRecursion (λ (c : TxnId × ℕ). is_open_query (books_of d opening events) c.0.0 ≡ true) (charges_to amount (cons_option (if b then Some (q, read_count events q x) else None) (filter_map (query_reads events x) us)))
          at true is later = (open_query_is d opening events q (and_parts (is_query events q) (holds_read events q x) is).0, later)
          at false is later = later

      own : (q : ℕ) (y : ℕ × ℕ) → query_reads events x q ≡ Some y → y.0 ≡ q
      own q y is = at (is_query events q && holds_read events q x) is
        where
          at : (b : Bool) → (if b then Some (q, read_count events q x) else None) ≡ Some y → y.0 ≡ q
          at true is' = ap (λ (z : ℕ × ℕ). z.0) (sym (same_Some (q, read_count events q x) y is'))
          at false is' = absurd (cc)

      above : (a : ℕ) (rs : List (ℕ × ℕ)) → AllByRecursion (λ (r : ℕ × ℕ). a < r.0) rs → AllByRecursion (λ (c : TxnId × ℕ). a < c.0.0) (charges_to amount rs)
      above a [] all = tt
      above a (r ∷ rs) all = (all.0, above a rs all.1)

      rise : (rs : List (ℕ × ℕ)) → IsAscendingBy (λ (r : ℕ × ℕ). r.0) rs → IsAscendingBy (λ (c : TxnId × ℕ). c.0.0) (charges_to amount rs)
      rise [] asc = tt
      rise (r ∷ rs) asc = (above r.0 rs asc.0, rise rs asc.1)

-- the quote of charges as the history's reasons
module _ (d : DistanceFunction) (h : Schedule) where
  first_import : (u : ℕ) (cs : List (TxnId × ℕ)) → AllByRecursion (λ (c : TxnId × ℕ). is_query (accepted_in h) c.0.0 ≡ true) cs
      → import_full d h (charges_by u cs) ≡ option_map (λ (c : TxnId × ℕ). BlockedByImport c.0) (find (λ (c : TxnId × ℕ). would_pass (books_of (d h.weights) h.opening (accepted_in h)) c.0.0 c.1) cs)
  first_import u [] all = refl
  first_import u (c ∷ cs) all =
      let limit : limit_at (books_of (d h.weights) h.opening (accepted_in h)) c.0.0 ≡ limit_of (accepted_in h) c.0.0 = limit_is (d h.weights) h.opening (accepted_in h) c.0.0 (query_begun (accepted_in h) c.0.0 all.0) in
      let amount : account_amount (books_of (d h.weights) h.opening (accepted_in h)) c.0.0 ≡ import_in (charges_in d h) c.0.0 = import_is (d h.weights) h.opening (accepted_in h) c.0.0 all.0 in
      let same : would_pass (books_of (d h.weights) h.opening (accepted_in h)) c.0.0 c.1 ≡ nat_lt (limit_of (accepted_in h) c.0.0) (import_in (charges_in d h) c.0.0 + c.1) = ap (λ n. nat_lt n (account_amount (books_of (d h.weights) h.opening (accepted_in h)) c.0.0 + c.1)) limit ∙ ap (λ n. nat_lt (limit_of (accepted_in h) c.0.0) (n + c.1)) amount in
      elim (cases_Bool (nat_lt (limit_of (accepted_in h) c.0.0) (import_in (charges_in d h) c.0.0 + c.1))) [
        | inl over ↦ rw (over, same ∙ over) refl
        | inr fits ↦ rw (fits, same ∙ fits) (first_import u cs all.1)
      ]

  export_over : (u : ℕ) (cs : List (TxnId × ℕ)) (n : ℕ) (b : Bool) → nat_lt (limit_of (accepted_in h) u) (export_in (charges_in d h) u + n) ≡ b
      → option_map (λ (c : Charge). BlockedByExport (record { 0 = c.update })) (find (λ (c : Charge). nat_lt (limit_of (accepted_in h) c.update) (export_in (charges_in d h) c.update + n)) (charges_by u cs)) ≡ (if is_some_charge cs && b then Some (BlockedByExport (record { 0 = u })) else None)
  export_over u [] n b is = refl
  export_over u (c ∷ cs) n true is = rw is refl
  export_over u (c ∷ cs) n false is = grind (arith, export_over u cs n false is)

  -- a quote requires the same refusal as the history
  pub quote_reason : (u : TxnId) (c : TxnId × ℕ) (cs : List (TxnId × ℕ)) → is_update (accepted_in h) u.0 ≡ true → AllByRecursion (λ (g : TxnId × ℕ). is_query (accepted_in h) g.0.0 ≡ true) (c ∷ cs)
      → first_reason (import_full d h (charges_by u.0 (c ∷ cs)) ∷ export_full d h (charges_by u.0 (c ∷ cs)) ∷ []) ≡ reason_of (quote_of (books_of (d h.weights) h.opening (accepted_in h)) u (c ∷ cs))
  quote_reason u c cs update all =
      let books = books_of (d h.weights) h.opening (accepted_in h) in
      let same : would_pass books u.0 (total_of (c ∷ cs)) ≡ nat_lt (limit_of (accepted_in h) u.0) (export_in (charges_in d h) u.0 + total_of (c ∷ cs)) =
      ap (λ n. nat_lt n (account_amount books u.0 + total_of (c ∷ cs))) (limit_is (d h.weights) h.opening (accepted_in h) u.0 (update_begun (accepted_in h) u.0 update)) ∙ ap (λ n. nat_lt (limit_of (accepted_in h) u.0) (n + total_of (c ∷ cs))) (export_is (d h.weights) h.opening (accepted_in h) u.0 update) in
      let exports : export_full d h (charges_by u.0 (c ∷ cs)) ≡ (if would_pass books u.0 (total_of (c ∷ cs)) then Some (BlockedByExport u) else None) =
      ap (λ n. option_map (λ (g : Charge). BlockedByExport (record { 0 = g.update })) (find (λ (g : Charge). nat_lt (limit_of (accepted_in h) g.update) (export_in (charges_in d h) g.update + n)) (charges_by u.0 (c ∷ cs)))) (total_by u.0 (c ∷ cs))
      ∙ export_over u.0 (c ∷ cs) (total_of (c ∷ cs)) (would_pass books u.0 (total_of (c ∷ cs))) (sym same) in
      ap (λ (r : Option Refusal). first_reason (r ∷ export_full d h (charges_by u.0 (c ∷ cs)) ∷ [])) (first_import u.0 (c ∷ cs) all)
      ∙ (ap (λ (r : Option Refusal). first_reason (option_map (λ (g : TxnId × ℕ). BlockedByImport g.0) (find (λ (g : TxnId × ℕ). would_pass books g.0.0 g.1) (c ∷ cs)) ∷ r ∷ [])) exports
      ∙ at (find (λ (g : TxnId × ℕ). would_pass books g.0.0 g.1) (c ∷ cs)) (would_pass books u.0 (total_of (c ∷ cs))))
    where
      at : (f : Option (TxnId × ℕ)) (over : Bool) → first_reason (option_map (λ (g : TxnId × ℕ). BlockedByImport g.0) f ∷ (if over then Some (BlockedByExport u) else None) ∷ []) ≡ reason_of (quoted f over u)
      at (Some g) over = refl
      at None true = refl
      at None false = refl

-- charges of nothing change nothing
pub charged_none : (accounts : List Account) (u : TxnId) → charged accounts u [] ≡ accounts
charged_none [] u = refl
charged_none (a ∷ accounts) u = grind (arith, charged_none accounts u, more_none a)

pub empty_list : (cs : List (TxnId × ℕ)) → (length cs == 0) ≡ true → cs ≡ []
empty_list [] is = refl
empty_list (c ∷ cs) is = absurd (let n : length (c ∷ cs) ≡ 0 = eqb-true (length (c ∷ cs)) 0 is in omega arith)

-- and are not refused
pub reason_none : (accounts : List Account) (u : TxnId) → None ≡ reason_for accounts u []
reason_none accounts u = refl

-- charges are booked if and only if their quote requires no refusal
pub booked_when : (q : Quote) (accounts : List Account) (u : TxnId) (cs : List (TxnId × ℕ)) (ys : List Account) → ys ≡ booked q accounts u cs → IfNone (reason_of q) (ys ≡ charged accounts u cs)
booked_when Fits accounts u cs ys is = is
booked_when (Import v) accounts u cs ys is = tt
booked_when (Export v) accounts u cs ys is = tt

pub booked_unless : (q : Quote) (accounts : List Account) (u : TxnId) (cs : List (TxnId × ℕ)) (ys : List Account) → ys ≡ booked q accounts u cs → IfSome (reason_of q) (λ why. ys ≡ accounts)
booked_unless Fits accounts u cs ys is = tt
booked_unless (Import v) accounts u cs ys is = is
booked_unless (Export v) accounts u cs ys is = is
