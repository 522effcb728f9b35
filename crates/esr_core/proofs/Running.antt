-- The reads of an active update still hold: its history extended by its commit is legal.
use Rattle.std.proofs.Common.{◌≡◌, ℕ, ℤ, true, false, cond, not, ◌||◌, ◌==◌, List, [], ◌∷◌, ◌++◌, refl, sym, ◌∙◌, ap, filter, flat_map, append-nil, append_assoc, unwrap_or, option_map}
use Rattle.std.specs.List.{filter_map, list_any, before_first}
use Rattle.std.proofs.Math.Path.{fun_ext}
use Rattle.std.proofs.lemmas.Bool.{and_parts, and_from, or_right, true≢false, eq-eqb, false_from_ne_true}
use Rattle.std.proofs.lemmas.List.Elements.{filter-append}
use Rattle.std.proofs.lemmas.List.Folds.{list_any-append}
use Rattle.esr_items.specs.Values.{value_at}
use Rattle.esr_core.specs.Types.{TxnId, ItemId, Event, Read, Commit, Value, Committed, Entry}
use Rattle.esr_core.specs.Carried.{LawOfActiveUpdates, LawOfCurrentValues}
use Rattle.esr_history.specs.Events.{is_update, is_active, is_begun, is_committed, is_aborted, accepted, written, last_value, committed_value, commits}
use Rattle.esr_history.specs.Machine.{DistanceFunction, Schedule, accepted_in, extended, reply_to, IsLegal}
use Rattle.esr_history.specs.Legal.{IsLegal-extended}
use Rattle.esr_history.specs.Operations.{committer, commit_order}
use Rattle.esr_history.specs.Serial.{committed_updates, values_by, state}
use Rattle.esr_history.proofs.Lists.{filter_map_push}
use Rattle.esr_history.proofs.Actives.{current_by_active}
use Rattle.esr_history.proofs.LegalWellFormed.{done-accepted, legal_orderly}
use Rattle.esr_history.proofs.WellFormed.{active_parts, begin_record-unchanged}
use Rattle.esr_history.proofs.Bounded.{before_first-all}
use Rattle.esr_history.proofs.Membership.{In-of_filter, In-from_any, any-from_number}
use Rattle.esr_history.proofs.Traces.{is_among}
use Rattle.esr_history.proofs.TraceAgreement.{committed_among}
use Rattle.esr_history.proofs.Laws.{legal_serializable}

module _ (d : DistanceFunction) (h : Schedule) (legal : IsLegal d h) (t : TxnId) (update : is_update (accepted_in h) t.0 ≡ true) (active : is_active (accepted_in h) t.0 ≡ true) where
  abbrev e : Event
  e = Commit t

  abbrev longer : Schedule
  longer = extended h e Committed

  parts : (is_begun (accepted_in h) t.0 ≡ true) × (is_committed (accepted_in h) t.0 ≡ false) × (is_aborted (accepted_in h) t.0 ≡ false)
  parts = active_parts (accepted_in h) t.0 active

  answers : Committed ≡ reply_to d h e
  answers = rw (parts.0, parts.1, parts.2) refl

  continues : IsLegal d longer
  continues = IsLegal-extended d h e Committed legal answers

  events : accepted_in longer ≡ accepted_in h ++ e ∷ []
  events = done-accepted h e Committed refl

  same_updates : is_update (accepted_in longer) ≡ is_update (accepted_in h)
  same_updates = ap is_update events ∙ fun_ext (λ u. ap (λ o. unwrap_or (option_map (λ b. not b.query) o) false) (begin_record-unchanged (accepted_in h) e u refl))

  same_values : (x : ℕ) → values_by longer x ≡ values_by h x
  same_values x = fun_ext (λ u. ap (filter_map (written (λ s. s == u) x)) events ∙ (filter_map_push (written (λ s. s == u) x) (accepted_in h) e ∙ append-nil (values_by h x u)))

  same_state : (us : List ℕ) (x : ℕ) → state longer us x ≡ state h us x
  same_state us x = ap (λ f. last_value (value_at h.opening x) (flat_map f us)) (same_values x)

  order : commit_order (accepted_in longer) ≡ commit_order (accepted_in h) ++ t.0 ∷ []
  order = ap commit_order events ∙ filter_map_push committer (accepted_in h) e

  updates : committed_updates longer ≡ committed_updates h ++ t.0 ∷ []
  updates =
      ap (λ p. filter p (commit_order (accepted_in longer))) same_updates
      ∙ (ap (filter (is_update (accepted_in h))) order
      ∙ (filter-append (is_update (accepted_in h)) (commit_order (accepted_in h)) (t.0 ∷ [])
      ∙ ap (λ b. committed_updates h ++ cond b (t.0 ∷ []) []) update))

  none_before : list_any (λ u. u == t.0) (committed_updates h) ≡ false
  none_before = false_from_ne_true (is_among (committed_updates h) t.0) (λ i.
      true≢false (sym (any-from_number (commit_order (accepted_in h)) t.0 (In-of_filter (is_update (accepted_in h)) (commit_order (accepted_in h)) t.0 (In-from_any (committed_updates h) t.0 i)).0)
      ∙ (sym (committed_among (accepted_in h) t.0) ∙ parts.1)))

  ahead : before_first (λ u. u == t.0) (committed_updates longer) ≡ committed_updates h
  ahead = ap (before_first (λ u. u == t.0)) updates ∙ before_first-all (λ u. u == t.0) (committed_updates h) t.0 [] none_before (eq-eqb t.0 t.0 refl)

  over : is_committed (accepted_in longer) t.0 ≡ true
  over =
      ap (list_any (commits t.0)) events
      ∙ (list_any-append (commits t.0) (accepted_in h) (e ∷ [])
      ∙ or_right (list_any (commits t.0) (accepted_in h)) (list_any (commits t.0) (e ∷ [])) (ap (λ b. b || false) (eq-eqb t.0 t.0 refl)))

  reads_on : (before after : List Entry) (x : ItemId) (v : ℤ) → h.entries ≡ before ++ record { event = Read t x; reply = Value v } ∷ after
      → v ≡ last_value (committed_value h.opening (accepted_in h) x.0) (filter_map (written (λ u. u == t.0) x.0) (accepted before))
  reads_on before after x v split =
      let more : longer.entries ≡ before ++ record { event = Read t x; reply = Value v } ∷ (after ++ record { event = e; reply = Committed } ∷ []) =
      ap (λ es. es ++ record { event = e; reply = Committed } ∷ []) split ∙ append_assoc before (record { event = Read t x; reply = Value v } ∷ after) (record { event = e; reply = Committed } ∷ []) in
      let read = (legal_serializable d longer continues).reads before (after ++ record { event = e; reply = Committed } ∷ []) t x v more
      (and_from (is_update (accepted_in longer) t.0) (is_committed (accepted_in longer) t.0) (ap (λ p. p t.0) same_updates ∙ update) over) in
      read
      ∙ ap (λ w. last_value w (filter_map (written (λ u. u == t.0) x.0) (accepted before)))
      (ap (λ us. state longer us x.0) ahead ∙ (same_state (committed_updates h) x.0 ∙ (legal_serializable d h legal).leaves x.0))

pub law_of_active_updates : LawOfActiveUpdates
law_of_active_updates d h legal before after t x v split is =
    let p = and_parts (is_update (accepted_in h) t.0) (is_active (accepted_in h) t.0) is in
    reads_on d h legal t p.0 p.1 before after x v split

pub law_of_current_values : LawOfCurrentValues
law_of_current_values d h legal x = current_by_active h.opening (accepted_in h) (legal_orderly d h legal) x
