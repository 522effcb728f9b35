-- A history that carries another is legal, and in it no active transaction loses anything.
use Rattle.std.proofs.Common.{◌≡◌, ℕ, ◌+◌, ◌-◌, Bool, true, false, ◌&&◌, List, [], ◌++◌, refl, sym, ◌∙◌, ap, subst, arith, if◌then◌else◌, append-nil}
use Rattle.std.specs.List.{filter_map, list_any}
use Rattle.std.proofs.lemmas.Bool.{true≢false, false_from_ne_true, and_from}
use Rattle.esr_history.specs.Events.{is_query, is_update, is_active, limit_of, read_count, reads, writes, committed_value, current_value}
use Rattle.esr_history.specs.Machine.{DistanceFunction, Schedule, accepted_in, value_distance, charges, charges_in, import_in, export_in, IsLegal, IsLegalAfter}
use Rattle.esr_history.specs.Legal.{continued}
use Rattle.esr_history.specs.ReportBounds.{AreDistances}
use Rattle.esr_history.proofs.LegalWellFormed.{legal_orderly, update_from}
use Rattle.esr_history.proofs.TraceAgreement.{query_not_update}
use Rattle.esr_history.proofs.Traces.{IsMetric}
use Rattle.esr_history.proofs.WellFormed.{active_parts}
use Rattle.esr_core.specs.Renewed.{committed_values, renewed}
use Rattle.esr_core.specs.Carried.{active_numbers, new_number, settled, charged_in, open_charges, carried, IsCarriedAs, IsCarriedOver}
use Rattle.esr_renewal.specs.Types.{Event, Entry}
use Rattle.esr_core.proofs.Renewed.{as_one}
use Rattle.esr_renewal.specs.Carry.{LawOfCarriedOrder, LawOfCarry, LawOfOpenExports}
use Rattle.esr_renewal.proofs.Replayed.{runs, events_again}
use Rattle.esr_renewal.proofs.Again.{query_then, limit_then, active_then, update_wrote, update_read, query_wrote, query_read, update_count, query_count}
use Rattle.esr_renewal.proofs.CarriedValues.{committed_kept, current_kept}
use Rattle.esr_renewal.proofs.CarriedCharges.{charged_then}
use Rattle.esr_renewal.proofs.OpenSums.{open_sum, imports_to, exports_of, IsWithin, within, export_within, carried_import, carried_export}
use Rattle.esr_renewal.proofs.CarriedEntries.{legal_append, legal_each, begin_entry, operation_entry, read_entry, entries_as, carried_events}
use Rattle.esr_renewal.proofs.Accepts.{begin_replied, operation_replied}
use Rattle.esr_renewal.proofs.AcceptsReads.{read_replied}

module _ (d : DistanceFunction) (metric : (w : List ℕ) → IsMetric (d w)) (h : Schedule) (legal : IsLegal d h) where
  abbrev start : Schedule
  start = renewed h h.weights

  abbrev begins : List Entry
  begins = filter_map (begin_entry d h) (active_numbers h)

  abbrev operations : List Entry
  operations = filter_map (operation_entry d h) h.entries

  carried_legal : IsLegal d (carried d h)
  carried_legal =
      subst (IsLegalAfter d start) (sym (entries_as d h))
      (legal_append d start begins (operations ++ filter_map (read_entry d h) h.entries)
      (legal_each d (begin_entry d h) start (active_numbers h) (begin_replied d h legal) [] (active_numbers h) refl)
      (legal_append d (continued start begins) operations (filter_map (read_entry d h) h.entries)
      (subst (λ (es : List Entry). IsLegalAfter d (record start { entries = es }) operations) (append-nil begins)
      (legal_each d (operation_entry d h) (continued start begins) h.entries (operation_replied d h legal) [] h.entries refl))
      (subst (λ (es : List Entry). IsLegalAfter d (record start { entries = es }) (filter_map (read_entry d h) h.entries)) (append-nil (begins ++ operations))
      (legal_each d (read_entry d h) (continued (continued start begins) operations) h.entries (read_replied d metric h legal) [] h.entries refl))))

  abbrev k : Schedule
  k = carried d h

  abbrev es : List Event
  es = accepted_in h

  abbrev again : List Event
  again = events_again d h (active_numbers h) (accepted_in h) (accepted_in h)

  charges_same : (legal : IsLegal d h) → charges_in d k ≡ charges (value_distance d h) (committed_values h) again
  charges_same legal' = ap (charges (value_distance d h) (committed_values h)) (carried_events d h)

  -- an active transaction has as much left of its limit as before
  limit_kept : (t : ℕ) → is_active es t ≡ true → settled d h t + limit_of (accepted_in k) (new_number h t).0 ≡ limit_of es t
  limit_kept t act =
      let a : limit_of (accepted_in k) (new_number h t).0 ≡ limit_of es t - settled d h t = ap (λ vs. limit_of vs (new_number h t).0) (carried_events d h) ∙ limit_then d h (accepted_in h) (accepted_in h) t act in
      let w : IsWithin d h metric legal t = within d h metric legal t act in
      let first = w.open_charged in
      let second = w.charged_allowed in
      omega (arith, a, first, second)

  active_kept : (t : ℕ) → is_active es t ≡ true → is_active (accepted_in k) (new_number h t).0 ≡ true
  active_kept t act = ap (λ vs. is_active vs (new_number h t).0) (carried_events d h) ∙ active_then d h (accepted_in h) (accepted_in h) t act

  query_kept : (t : ℕ) → is_active es t ≡ true → is_query (accepted_in k) (new_number h t).0 ≡ is_query es t
  query_kept t act = ap (λ vs. is_query vs (new_number h t).0) (carried_events d h) ∙ query_then d h (accepted_in h) (accepted_in h) t act

  -- the locks of an active transaction, by what it has read and written
  lock_kept : (test : ℕ → Event → Bool) (t : ℕ) → is_active es t ≡ true → list_any (test (new_number h t).0) again ≡ list_any (test t) es
      → (is_active (accepted_in k) (new_number h t).0 && list_any (test (new_number h t).0) (accepted_in k)) ≡ (is_active es t && list_any (test t) es)
  lock_kept test t act same =
      ap (λ b. b && list_any (test (new_number h t).0) (accepted_in k)) (active_kept t act ∙ sym act)
      ∙ ap (λ b. is_active es t && b) (ap (list_any (test (new_number h t).0)) (carried_events d h) ∙ same)

  -- what is charged in both histories
  charge_kept : (t : ℕ) → is_active es t ≡ true → charged_in k (charges_in d k) (new_number h t).0 ≡ charged_in h (open_charges d h) t
      → settled d h t + charged_in k (charges_in d k) (new_number h t).0 ≡ charged_in h (charges_in d h) t
  charge_kept t act same =
      let w : IsWithin d h metric legal t = within d h metric legal t act in
      let first = w.open_charged in
      omega (arith, same, first)

  query_carried : (t : ℕ) → is_active es t ≡ true → is_query es t ≡ true → IsCarriedAs d h t k (new_number h t).0 (settled d h t)
  query_carried t act query = record {
    active = active_kept t act;
    query = query_kept t act;
    reads = λ x. ap (λ vs. read_count vs (new_number h t).0 x) (carried_events d h) ∙ query_count d h (accepted_in h) (accepted_in h) t x own;
    read_locks = λ x. lock_kept (λ u. reads u x) t act (query_read d h (accepted_in h) (accepted_in h) t x own);
    write_locks = λ x. lock_kept (λ u. writes u x) t act (query_wrote d h (accepted_in h) (accepted_in h) t x own ∙ sym (unwritten x));
    limit = limit_kept t act;
    charge = charge_kept t act charged;
  }
    where
      own : (is_query (accepted_in h) t && is_active (accepted_in h) t) ≡ true
      own = and_from (is_query (accepted_in h) t) (is_active (accepted_in h) t) query act

      unwritten : (x : ℕ) → list_any (writes t x) (accepted_in h) ≡ false
      unwritten x =
          false_from_ne_true (list_any (writes t x) (accepted_in h)) (λ did.
          true≢false (sym ((legal_orderly d h legal).writers t x did) ∙ query_not_update (accepted_in h) t query))

      charged : charged_in (carried d h) (charges_in d (carried d h)) (new_number h t).0 ≡ charged_in h (open_charges d h) t
      charged =
          ap (λ b. if b then import_in (charges_in d (carried d h)) (new_number h t).0 else export_in (charges_in d (carried d h)) (new_number h t).0) (query_kept t act ∙ query)
          ∙ (ap (λ cs. import_in cs (new_number h t).0) (charges_same legal ∙ charged_then d h legal (accepted_in h))
          ∙ (carried_import d h legal t own (accepted_in h)
          ∙ (sym (open_sum d h (imports_to d h t))
          ∙ sym (ap (λ b. if b then import_in (open_charges d h) t else export_in (open_charges d h) t) query))))

  update_carried : (t : ℕ) → is_active es t ≡ true → is_query es t ≡ false → IsCarriedAs d h t k (new_number h t).0 (settled d h t)
  update_carried t act not_query = record {
    active = active_kept t act;
    query = query_kept t act;
    reads = λ x. ap (λ vs. read_count vs (new_number h t).0 x) (carried_events d h) ∙ update_count d h (accepted_in h) (accepted_in h) t x own;
    read_locks = λ x. lock_kept (λ u. reads u x) t act (update_read d h (accepted_in h) (accepted_in h) t x own);
    write_locks = λ x. lock_kept (λ u. writes u x) t act (update_wrote d h (accepted_in h) (accepted_in h) t x own);
    limit = limit_kept t act;
    charge = charge_kept t act charged;
  }
    where
      own : runs d h t ≡ true
      own = and_from (is_update (accepted_in h) t) (is_active (accepted_in h) t) (update_from (accepted_in h) t (active_parts (accepted_in h) t act).0 not_query) act

      charged : charged_in (carried d h) (charges_in d (carried d h)) (new_number h t).0 ≡ charged_in h (open_charges d h) t
      charged =
          ap (λ b. if b then import_in (charges_in d (carried d h)) (new_number h t).0 else export_in (charges_in d (carried d h)) (new_number h t).0) (query_kept t act ∙ not_query)
          ∙ (ap (λ cs. export_in cs (new_number h t).0) (charges_same legal ∙ charged_then d h legal (accepted_in h))
          ∙ (carried_export d h legal t act (accepted_in h)
          ∙ (sym (open_sum d h (exports_of d h t))
          ∙ sym (ap (λ b. if b then import_in (open_charges d h) t else export_in (open_charges d h) t) not_query))))

  pub is_carried_over : IsCarriedOver d h (carried d h)
  is_carried_over = record {
    opens = refl;
    weights = refl;
    legal = carried_legal;
    committed = λ x. ap (λ vs. committed_value (committed_values h) vs x) (carried_events d h) ∙ committed_kept d h legal (accepted_in h) x;
    current = λ x. ap (λ vs. current_value (committed_values h) vs x) (carried_events d h) ∙ current_kept d h legal (accepted_in h) x;
    each = λ t act. each t act (is_query (accepted_in h) t) refl;
  }
    where
      each : (t : ℕ) → is_active (accepted_in h) t ≡ true → (b : Bool) → is_query (accepted_in h) t ≡ b → IsCarriedAs d h t (carried d h) (new_number h t).0 (settled d h t)
      each t act true query = query_carried t act query
      each t act false not_query = update_carried t act not_query

as_metric : (d : DistanceFunction) → AreDistances d → (w : List ℕ) → IsMetric (d w)
as_metric d a w = record { same = a.same w; symmetric = a.symmetric w; triangle = a.triangle w }

pub law_of_open_exports : LawOfOpenExports
law_of_open_exports d a h legal u = export_within d h (as_metric d a) legal u

pub law_of_carry : LawOfCarry
law_of_carry d a h legal = is_carried_over d (as_metric d a) h legal

pub law_of_carried_order : LawOfCarriedOrder
law_of_carried_order d h legal later goes_on = as_one d h (continued (carried d h) later) legal goes_on refl
