-- The facts of an active transaction in the events that are carried over, by its new number.
use Rattle.std.proofs.Common.{◌≡◌, ℕ, ℤ, ◌+◌, ◌-◌, Bool, true, false, not, cond, ◌&&◌, ◌||◌, ◌==◌, List, [], ◌++◌, refl, sym, ◌∙◌, ap, inl, inr, ⊎_elim, arith, count_by, Some, is_some, unwrap_or, option_map, if◌then◌else◌}
use Rattle.std.specs.List.{filter_map, list_any}
use Rattle.std.proofs.lemmas.Bool.{cases_Bool, cases_eq, eq-eqb, ne_eqb, eqb-true, true≢false, and_parts, and_from, or_cases}
use Rattle.std.proofs.lemmas.List.Sums.{sum_by-append}
use Rattle.esr_history.specs.Events.{begin_record, limit_of, is_begun, is_query, is_update, is_active, is_committed, is_aborted, reads, reads_any, writes}
use Rattle.esr_history.specs.Machine.{DistanceFunction, Schedule, accepted_in}
use Rattle.esr_history.specs.ReportBounds.{is_active_query}
use Rattle.esr_history.proofs.WellFormed.{active_parts}
use Rattle.esr_history.proofs.Membership.{In-any, any-from_In}
use Rattle.esr_history.proofs.TraceAgreement.{any_of, any_given, query_not_update}
use Rattle.esr_history.proofs.TraceOfHistory.{count_none}
use Rattle.esr_core.specs.States.{begin_event}
use Rattle.esr_core.specs.Carried.{active_numbers, new_number, settled}
use Rattle.esr_renewal.specs.Types.{TxnId, ItemId, Event, BeginUpdate, BeginQuery, Read, Write, Commit, Abort}
use Rattle.esr_renewal.proofs.Renumbered.{new_number_injective}
use Rattle.esr_renewal.proofs.Replayed.{In-filter_map, any_empty, count_given, any_if, kinds, runs, operation_again, read_again, begins_again, events_again, begun_as, operation_case, read_case, any_parts, no_write_at, no_read_at, no_reads_at, begins_count, none_committed, none_aborted}

if_same : (b : Bool) → (if b then false else false) ≡ false
if_same true = refl
if_same false = refl

module _ (d : DistanceFunction) (h : Schedule) where
  pub runs_active : (s : ℕ) → runs d h s ≡ true → is_active (accepted_in h) s ≡ true
  runs_active s is = (and_parts (is_update (accepted_in h) s) (is_active (accepted_in h) s) is).1

  pub query_active : (s : ℕ) → is_active_query h s ≡ true → is_active (accepted_in h) s ≡ true
  query_active s is = (and_parts (is_query (accepted_in h) s) (is_active (accepted_in h) s) is).1

  -- no transaction is both
  pub not_both : (s : ℕ) → runs d h s ≡ true → is_active_query h s ≡ true → ⊥
  not_both s up q = true≢false (sym (and_parts (is_update (accepted_in h) s) (is_active (accepted_in h) s) up).0 ∙ query_not_update (accepted_in h) s (and_parts (is_query (accepted_in h) s) (is_active (accepted_in h) s) q).0)

  number_test : (p : ℕ → Bool) → ((s : ℕ) → p s ≡ true → is_active (accepted_in h) s ≡ true) → (s t : ℕ) (c : Bool) → p t ≡ true
      → (if p s then ((new_number h s).0 == (new_number h t).0) && c else false) ≡ ((s == t) && c)
  number_test p act s t c own =
      elim (cases_eq s t) [
        | inl e ↦ rw (e, own, eq-eqb t t refl, eq-eqb (new_number h t).0 (new_number h t).0 refl) refl
        | inr ne ↦ rw (ne_eqb s t ne) (elim (cases_Bool (p s)) [
          | inl is ↦ rw (is, ne_eqb (new_number h s).0 (new_number h t).0 (λ e. ne (new_number_injective h s t (act s is) (act t own) e))) refl
          | inr isnt ↦ rw isnt refl
        ])
      ]

  apart : (s t : ℕ) (c : Bool) → is_active (accepted_in h) s ≡ true → is_active (accepted_in h) t ≡ true → (s ≡ t → ⊥) → (((new_number h s).0 == (new_number h t).0) && c) ≡ false
  apart s t c first second ne = ap (λ b. b && c) (ne_eqb (new_number h s).0 (new_number h t).0 (λ e. ne (new_number_injective h s t first second e)))

  module _ (us rs : List Event) where
    abbrev again : List Event
    again = events_again d h (active_numbers h) us rs

    pub begun_then : (t : ℕ) → is_active (accepted_in h) t ≡ true → is_begun again (new_number h t).0 ≡ true
    begun_then t act = ap is_some (begun_as d h us rs t act)

    pub query_then : (t : ℕ) → is_active (accepted_in h) t ≡ true → is_query again (new_number h t).0 ≡ is_query (accepted_in h) t
    query_then t act = ap (λ o. unwrap_or (option_map (λ b. b.query) o) false) (begun_as d h us rs t act)

    pub update_then : (t : ℕ) → is_active (accepted_in h) t ≡ true → is_update again (new_number h t).0 ≡ is_update (accepted_in h) t
    update_then t act =
        ap (λ o. unwrap_or (option_map (λ b. not b.query) o) false) (begun_as d h us rs t act)
        ∙ sym (kinds (begin_record (accepted_in h) t) (active_parts (accepted_in h) t act).0)

    pub limit_then : (t : ℕ) → is_active (accepted_in h) t ≡ true → limit_of again (new_number h t).0 ≡ limit_of (accepted_in h) t - settled d h t
    limit_then t act = ap (λ o. unwrap_or (option_map (λ b. b.limit) o) 0) (begun_as d h us rs t act)

    pub active_then : (t : ℕ) → is_active (accepted_in h) t ≡ true → is_active again (new_number h t).0 ≡ true
    active_then t act =
        and_from (is_begun again (new_number h t).0) (not (is_committed again (new_number h t).0) && not (is_aborted again (new_number h t).0)) (begun_then t act)
        (and_from (not (is_committed again (new_number h t).0)) (not (is_aborted again (new_number h t).0))
        (ap not (none_committed d h (active_numbers h) us rs (new_number h t).0)) (ap not (none_aborted d h (active_numbers h) us rs (new_number h t).0)))

    -- the operations of an active update
    same_writes : (t x : ℕ) → runs d h t ≡ true → (e : Event) → writes t x e ≡ any_of (writes (new_number h t).0 x) (operation_again d h e)
    same_writes t x own (Write s y v) = sym (any_if (runs d h s.0) (Write (new_number h s.0) y v) (writes (new_number h t).0 x) ∙ number_test (runs d h) runs_active s.0 t (y.0 == x) own)
    same_writes t x own (Read s y) = sym (any_if (runs d h s.0) (Read (new_number h s.0) y) (writes (new_number h t).0 x) ∙ if_same (runs d h s.0))
    same_writes t x own (BeginUpdate l) = refl
    same_writes t x own (BeginQuery l s) = refl
    same_writes t x own (Commit s) = refl
    same_writes t x own (Abort s) = refl

    same_reads : (t x : ℕ) → runs d h t ≡ true → (e : Event) → reads t x e ≡ any_of (reads (new_number h t).0 x) (operation_again d h e)
    same_reads t x own (Read s y) = sym (any_if (runs d h s.0) (Read (new_number h s.0) y) (reads (new_number h t).0 x) ∙ number_test (runs d h) runs_active s.0 t (y.0 == x) own)
    same_reads t x own (Write s y v) = sym (any_if (runs d h s.0) (Write (new_number h s.0) y v) (reads (new_number h t).0 x) ∙ if_same (runs d h s.0))
    same_reads t x own (BeginUpdate l) = refl
    same_reads t x own (BeginQuery l s) = refl
    same_reads t x own (Commit s) = refl
    same_reads t x own (Abort s) = refl

    -- the reads of an active query
    same_query_reads : (q x : ℕ) → is_active_query h q ≡ true → (e : Event) → reads q x e ≡ any_of (reads (new_number h q).0 x) (read_again d h e)
    same_query_reads q x own (Read s y) = sym (any_if (is_active_query h s.0) (Read (new_number h s.0) y) (reads (new_number h q).0 x) ∙ number_test (is_active_query h) query_active s.0 q (y.0 == x) own)
    same_query_reads q x own (Write s y v) = refl
    same_query_reads q x own (BeginUpdate l) = refl
    same_query_reads q x own (BeginQuery l s) = refl
    same_query_reads q x own (Commit s) = refl
    same_query_reads q x own (Abort s) = refl

    same_query_totals : (q : ℕ) → is_active_query h q ≡ true → (e : Event) → reads_any q e ≡ any_of (reads_any (new_number h q).0) (read_again d h e)
    same_query_totals q own (Read s y) =
        sym (any_if (is_active_query h s.0) (Read (new_number h s.0) y) (reads_any (new_number h q).0)
        ∙ (sym (ap (λ b. if is_active_query h s.0 then b else false) (and_true ((new_number h s.0).0 == (new_number h q).0)))
        ∙ (number_test (is_active_query h) query_active s.0 q true own ∙ and_true (s.0 == q))))
      where
        and_true : (b : Bool) → (b && true) ≡ b
        and_true true = refl
        and_true false = refl
    same_query_totals q own (Write s y v) = refl
    same_query_totals q own (BeginUpdate l) = refl
    same_query_totals q own (BeginQuery l s) = refl
    same_query_totals q own (Commit s) = refl
    same_query_totals q own (Abort s) = refl

    no_query_write : (u x : ℕ) → list_any (writes u x) (filter_map (read_again d h) rs) ≡ false
    no_query_write u x = any_empty (read_again d h) (writes u x) (read_case d h (λ e f. writes u x f ≡ false) (λ t y own. refl)) rs

    no_update_in_reads : (t x : ℕ) → runs d h t ≡ true → list_any (reads (new_number h t).0 x) (filter_map (read_again d h) rs) ≡ false
    no_update_in_reads t x own =
        any_empty (read_again d h) (reads (new_number h t).0 x)
        (read_case d h (λ e f. reads (new_number h t).0 x f ≡ false) (λ q y qa. apart q.0 t (y.0 == x) (query_active q.0 qa) (runs_active t own) (λ e. not_both t own (ap (is_active_query h) (sym e) ∙ qa)))) rs

    no_query_in_operations : (p : Event → Bool) (q : ℕ) → is_active_query h q ≡ true
        → ((s : TxnId) (y : ItemId) → runs d h s.0 ≡ true → p (Read (new_number h s.0) y) ≡ false) → ((s : TxnId) (y : ItemId) (v : ℤ) → runs d h s.0 ≡ true → p (Write (new_number h s.0) y v) ≡ false)
        → list_any p (filter_map (operation_again d h) us) ≡ false
    no_query_in_operations p q qa r w = any_empty (operation_again d h) p (operation_case d h (λ e f. p f ≡ false) r w) us

    apart_from : (q : ℕ) (c : Bool) (s : TxnId) → is_active_query h q ≡ true → runs d h s.0 ≡ true → (((new_number h s.0).0 == (new_number h q).0) && c) ≡ false
    apart_from q c s qa own = apart s.0 q c (runs_active s.0 own) (query_active q qa) (λ e. not_both q (ap (runs d h) (sym e) ∙ own) qa)

    pub update_wrote : (t x : ℕ) → runs d h t ≡ true → list_any (writes (new_number h t).0 x) again ≡ list_any (writes t x) us
    update_wrote t x own =
        any_parts d h (writes (new_number h t).0 x) (active_numbers h) us rs (no_write_at d h (new_number h t).0 x)
        ∙ rw (no_query_write (new_number h t).0 x) (or_no (list_any (writes (new_number h t).0 x) (filter_map (operation_again d h) us)) ∙ sym (any_given (operation_again d h) (writes t x) (writes (new_number h t).0 x) (same_writes t x own) us))
      where
        or_no : (b : Bool) → (b || false) ≡ b
        or_no true = refl
        or_no false = refl

    pub update_read : (t x : ℕ) → runs d h t ≡ true → list_any (reads (new_number h t).0 x) again ≡ list_any (reads t x) us
    update_read t x own =
        any_parts d h (reads (new_number h t).0 x) (active_numbers h) us rs (no_read_at d h (new_number h t).0 x)
        ∙ rw (no_update_in_reads t x own) (or_no (list_any (reads (new_number h t).0 x) (filter_map (operation_again d h) us)) ∙ sym (any_given (operation_again d h) (reads t x) (reads (new_number h t).0 x) (same_reads t x own) us))
      where
        or_no : (b : Bool) → (b || false) ≡ b
        or_no true = refl
        or_no false = refl

    pub query_wrote : (q x : ℕ) → is_active_query h q ≡ true → list_any (writes (new_number h q).0 x) again ≡ false
    query_wrote q x own =
        any_parts d h (writes (new_number h q).0 x) (active_numbers h) us rs (no_write_at d h (new_number h q).0 x)
        ∙ rw (no_query_write (new_number h q).0 x, no_query_in_operations (writes (new_number h q).0 x) q own (λ s y r. refl) (λ s y v r. apart_from q (y.0 == x) s own r)) refl

    pub query_read : (q x : ℕ) → is_active_query h q ≡ true → list_any (reads (new_number h q).0 x) again ≡ list_any (reads q x) rs
    query_read q x own =
        any_parts d h (reads (new_number h q).0 x) (active_numbers h) us rs (no_read_at d h (new_number h q).0 x)
        ∙ rw (no_query_in_operations (reads (new_number h q).0 x) q own (λ s y r. apart_from q (y.0 == x) s own r) (λ s y v r. refl)) (sym (any_given (read_again d h) (reads q x) (reads (new_number h q).0 x) (same_query_reads q x own) rs))

    -- counts of reads
    count_parts : (p : Event → Bool) → ((q s : Bool) (l : ℕ) → p (begin_event q l s) ≡ false) → count_by p again ≡ count_by p (filter_map (operation_again d h) us) + count_by p (filter_map (read_again d h) rs)
    count_parts p fails =
        let a = sum_by-append (λ e. cond (p e) 1 0) (begins_again d h (active_numbers h)) (filter_map (operation_again d h) us ++ filter_map (read_again d h) rs) in
        let b = sum_by-append (λ e. cond (p e) 1 0) (filter_map (operation_again d h) us) (filter_map (read_again d h) rs) in
        let c = begins_count d h p fails (active_numbers h) in
        omega (arith, a, b, c)

    pub update_count : (t x : ℕ) → runs d h t ≡ true → count_by (reads (new_number h t).0 x) again ≡ count_by (reads t x) us
    update_count t x own =
        let a = count_parts (reads (new_number h t).0 x) (no_read_at d h (new_number h t).0 x) in
        let b = count_none (reads (new_number h t).0 x) (filter_map (read_again d h) rs) (no_update_in_reads t x own) in
        let c = count_given (operation_again d h) (reads t x) (reads (new_number h t).0 x) (same_reads t x own) us in
        omega (arith, a, b, c)

    pub query_count : (q x : ℕ) → is_active_query h q ≡ true → count_by (reads (new_number h q).0 x) again ≡ count_by (reads q x) rs
    query_count q x own =
        let a = count_parts (reads (new_number h q).0 x) (no_read_at d h (new_number h q).0 x) in
        let b = count_none (reads (new_number h q).0 x) (filter_map (operation_again d h) us) (no_query_in_operations (reads (new_number h q).0 x) q own (λ s y r. apart_from q (y.0 == x) s own r) (λ s y v r. refl)) in
        let c = count_given (read_again d h) (reads q x) (reads (new_number h q).0 x) (same_query_reads q x own) rs in
        omega (arith, a, b, c)

    pub query_total : (q : ℕ) → is_active_query h q ≡ true → count_by (reads_any (new_number h q).0) again ≡ count_by (reads_any q) rs
    query_total q own =
        let a = count_parts (reads_any (new_number h q).0) (no_reads_at d h (new_number h q).0) in
        let b = count_none (reads_any (new_number h q).0) (filter_map (operation_again d h) us) (no_query_in_operations (reads_any (new_number h q).0) q own (λ s y r. apart_any s r) (λ s y v r. refl)) in
        let c = count_given (read_again d h) (reads_any q) (reads_any (new_number h q).0) (same_query_totals q own) rs in
        omega (arith, a, b, c)
      where
        apart_any : (s : TxnId) → runs d h s.0 ≡ true → ((new_number h s.0).0 == (new_number h q).0) ≡ false
        apart_any s r = ne_eqb (new_number h s.0).0 (new_number h q).0 (λ e. not_both q (ap (runs d h) (sym (new_number_injective h s.0 q (runs_active s.0 r) (query_active q own) e)) ∙ r) own)

    -- whoever has written an item is an active update that wrote it
    pub record IsOf (test : ℕ → Event → Bool) (u : ℕ) : Type 0 where
      pub number : ℕ
      pub is_update : runs d h number ≡ true
      pub same : u ≡ (new_number h number).0
      pub did : list_any (test number) us ≡ true

    who : (test : ℕ → Event → Bool) (u : ℕ) → ((q s : Bool) (l : ℕ) → test u (begin_event q l s) ≡ false) → list_any (test u) (filter_map (read_again d h) rs) ≡ false
        → ((e f : Event) → operation_again d h e ≡ Some f → test u f ≡ true → (s : ℕ) × (runs d h s ≡ true) × (u ≡ (new_number h s).0) × (test s e ≡ true))
        → list_any (test u) again ≡ true → IsOf test u
    who test u fails none each some =
        let two : (list_any (test u) (filter_map (operation_again d h) us) || list_any (test u) (filter_map (read_again d h) rs)) ≡ true = sym (any_parts d h (test u) (active_numbers h) us rs fails) ∙ some in
        let one : list_any (test u) (filter_map (operation_again d h) us) ≡ true =
        ⊎_elim (λ a. a) (λ b. absurd (true≢false (sym b ∙ none))) (or_cases (list_any (test u) (filter_map (operation_again d h) us)) (list_any (test u) (filter_map (read_again d h) rs)) two) in
        let f = In-any (test u) (filter_map (operation_again d h) us) one in
        let e = In-filter_map (operation_again d h) us f.0 f.1 in
        let s = each e.0 f.0 e.2 f.2 in
        record { number = s.0; is_update = s.1; same = s.2; did = any-from_In (test s.0) us e.0 e.1 s.3 }

    pub who_wrote : (u x : ℕ) → list_any (writes u x) again ≡ true → IsOf (λ t. writes t x) u
    who_wrote u x some =
        who (λ t. writes t x) u (no_write_at d h u x) (no_query_write u x)
        (operation_case d h (λ e f. writes u x f ≡ true → (s : ℕ) × (runs d h s ≡ true) × (u ≡ (new_number h s).0) × (writes s x e ≡ true))
        (λ t y own no_write. absurd (true≢false (sym no_write)))
        (λ t y v own is. let p = and_parts ((new_number h t.0).0 == u) (y.0 == x) is in (t.0, own, sym (eqb-true (new_number h t.0).0 u p.0), and_from (t.0 == t.0) (y.0 == x) (eq-eqb t.0 t.0 refl) p.1)))
        some

  pub who_read : (us : List Event) (u x : ℕ) → list_any (reads u x) (events_again d h (active_numbers h) us []) ≡ true → IsOf us [] (λ t. reads t x) u
  who_read us u x some =
      who us [] (λ t. reads t x) u (no_read_at d h u x) refl
      (operation_case d h (λ e f. reads u x f ≡ true → (s : ℕ) × (runs d h s ≡ true) × (u ≡ (new_number h s).0) × (reads s x e ≡ true))
      (λ t y own is. let p = and_parts ((new_number h t.0).0 == u) (y.0 == x) is in (t.0, own, sym (eqb-true (new_number h t.0).0 u p.0), and_from (t.0 == t.0) (y.0 == x) (eq-eqb t.0 t.0 refl) p.1))
      (λ t y v own no_read. absurd (true≢false (sym no_read))))
      some
