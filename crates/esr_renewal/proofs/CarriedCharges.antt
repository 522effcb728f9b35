-- The charges in a history that carries another: each carried read is charged what is open of it.
use Rattle.std.proofs.Common.{◌≡◌, ℕ, ℤ, ◌+◌, ◌*◌, ◌<◌, ◌≤◌, Bool, true, false, ◌&&◌, List, [], ◌∷◌, ◌++◌, length, refl, sym, ◌∙◌, ap, arith, Option, None, Some, if◌then◌else◌, flat_map, append-nil, append_assoc, option_map}
use Rattle.std.specs.List.{filter_map, list_any, cons_option}
use Rattle.std.proofs.lemmas.Bool.{true≢false, false_from_ne_true, and_parts, and_from}
use Rattle.std.proofs.lemmas.List.Elements.{filter_map-append}
use Rattle.esr_history.specs.Events.{begin_records, txn_numbers, is_query, is_update, is_active, reads, writes, read_count, holds_read, holds_write, current_value}
use Rattle.esr_history.specs.Machine.{DistanceFunction, Schedule, Charge, accepted_in, value_distance, due, charges, charges_after, charge_of_read, charge_of_write, writer, IsLegal}
use Rattle.esr_history.specs.ReportBounds.{is_active_query}
use Rattle.esr_history.specs.WellFormed.{IsWellFormed}
use Rattle.esr_history.proofs.Lists.{find_least, find_none, found_satisfies}
use Rattle.esr_history.proofs.WellFormed.{update_begun}
use Rattle.esr_history.proofs.LegalWellFormed.{begun_in_range, legal_orderly}
use Rattle.esr_core.specs.Renewed.{committed_values}
use Rattle.esr_core.specs.Carried.{active_numbers, new_number, carried_begin}
use Rattle.esr_core.proofs.Begins.{begin_due}
use Rattle.esr_core.proofs.Held.{update_or_query}
use Rattle.esr_renewal.specs.Types.{TxnId, ItemId, Event, BeginUpdate, BeginQuery, Read, Write, Commit, Abort}
use Rattle.esr_renewal.proofs.OpenCharges.{uncommitted_distance}
use Rattle.esr_renewal.proofs.Replayed.{runs, operation_again, read_again, begins_again, events_again, operation_case}
use Rattle.esr_renewal.proofs.Again.{query_then, update_then, active_then, update_wrote, who_wrote, who_read, runs_active}
use Rattle.esr_renewal.proofs.CarriedValues.{committed_kept, current_kept}

none_yielded : (f : ℕ → Option Charge) → ((q : ℕ) → f q ≡ None) → (qs : List ℕ) → filter_map f qs ≡ []
none_yielded f none [] = refl
none_yielded f none (q ∷ qs) = ap (λ o. cons_option o (filter_map f qs)) (none q) ∙ none_yielded f none qs

-- the charges of some events after others, in two parts
pub charges_parts : (d : ℕ → ℤ → ℤ → ℕ) (o : List ℤ) (before xs ys : List Event) → charges_after d o before (xs ++ ys) ≡ charges_after d o before xs ++ charges_after d o (before ++ xs) ys
charges_parts d o before [] ys = ap (λ b. charges_after d o b ys) (sym (append-nil before))
charges_parts d o before (x ∷ xs) ys =
    ap (λ cs. due d o before x ++ cs) (charges_parts d o (before ++ x ∷ []) xs ys ∙ ap (λ b. charges_after d o (before ++ x ∷ []) xs ++ charges_after d o b ys) (append_assoc before (x ∷ []) xs))
    ∙ sym (append_assoc (due d o before x) (charges_after d o (before ++ x ∷ []) xs) (charges_after d o (before ++ x ∷ xs) ys))

-- the charges of an event that may be yielded
abbrev due_if : (ℕ → ℤ → ℤ → ℕ) → List ℤ → List Event → Option Event → List Charge
due_if d o before None = []
due_if d o before (Some e) = due d o before e

charges_along : (d : ℕ → ℤ → ℤ → ℕ) (o : List ℤ) (f : Event → Option Event) (g : Event → List Charge) (before : List Event)
    → ((ys : List Event) (e : Event) → due_if d o (before ++ filter_map f ys) (f e) ≡ g e)
    → (ys zs : List Event) → charges_after d o (before ++ filter_map f ys) (filter_map f zs) ≡ flat_map g zs
charges_along d o f g before each ys [] = refl
charges_along d o f g before each ys (e ∷ zs) = at (f e) refl (each ys e) (charges_along d o f g before each (ys ++ e ∷ []) zs)
  where
    at : (r : Option Event) → f e ≡ r → due_if d o (before ++ filter_map f ys) r ≡ g e
        → charges_after d o (before ++ filter_map f (ys ++ e ∷ [])) (filter_map f zs) ≡ flat_map g zs
        → charges_after d o (before ++ filter_map f ys) (cons_option r (filter_map f zs)) ≡ flat_map g (e ∷ zs)
    at None is due rest =
        let same : filter_map f (ys ++ e ∷ []) ≡ filter_map f ys = filter_map-append f ys (e ∷ []) ∙ (ap (λ r. filter_map f ys ++ cons_option r []) is ∙ append-nil (filter_map f ys)) in
        ap (λ p. charges_after d o (before ++ p) (filter_map f zs)) (sym same) ∙ (rest ∙ ap (λ cs. cs ++ flat_map g zs) due)
    at (Some y) is due rest =
        let same : filter_map f (ys ++ e ∷ []) ≡ filter_map f ys ++ y ∷ [] = filter_map-append f ys (e ∷ []) ∙ ap (λ r. filter_map f ys ++ cons_option r []) is in
        let more : (before ++ filter_map f ys) ++ y ∷ [] ≡ before ++ filter_map f (ys ++ e ∷ []) = append_assoc before (filter_map f ys) (y ∷ []) ∙ ap (λ p. before ++ p) (sym same) in
        ap (λ p. due_if d o (before ++ filter_map f ys) (Some y) ++ charges_after d o p (filter_map f zs)) more
        ∙ (ap (λ cs. cs ++ charges_after d o (before ++ filter_map f (ys ++ e ∷ [])) (filter_map f zs)) due ∙ ap (λ cs. g e ++ cs) rest)

module _ (d : DistanceFunction) (h : Schedule) (legal : IsLegal d h) where
  orderly : IsWellFormed (accepted_in h)
  orderly = legal_orderly d h legal

  abbrev distance : ℕ → ℤ → ℤ → ℕ
  distance = value_distance d h

  -- the operations of updates are charged nothing, since no query has read
  pub write_is_free : (o : List ℤ) (us : List Event) (u : TxnId) (x : ItemId) (v : ℤ) → due distance o (events_again d h (active_numbers h) us []) (Write u x v) ≡ []
  write_is_free o us u x v = at (is_update again u.0)
    where
      again : List Event
      again = events_again d h (active_numbers h) us []

      unread : (q : ℕ) → (is_query again q && holds_read again q x.0) ≡ false
      unread q = false_from_ne_true (is_query again q && holds_read again q x.0) (λ both.
          let p = and_parts (is_query again q) (holds_read again q x.0) both in
          let w = who_read d h us q x.0 (and_parts (is_active again q) (list_any (reads q x.0) again) p.1).1 in
          let query : is_query (accepted_in h) w.number ≡ true = sym (query_then d h us [] w.number (runs_active d h w.number w.is_update)) ∙ (ap (is_query again) (sym w.same) ∙ p.0) in
          true≢false (sym query ∙ update_or_query (accepted_in h) w.number (and_parts (is_update (accepted_in h) w.number) (is_active (accepted_in h) w.number) w.is_update).0))

      none : (q : ℕ) → charge_of_write distance o again u.0 x.0 v q ≡ None
      none q = ap (λ b. if b then Some (record { query = q; update = u.0; amount = read_count again q x.0 * distance x.0 v (current_value o again x.0) }) else None) (unread q)

      at : (b : Bool) → (if b then filter_map (charge_of_write distance o again u.0 x.0 v) (txn_numbers again) else []) ≡ []
      at true = none_yielded (charge_of_write distance o again u.0 x.0 v) none (txn_numbers again)
      at false = refl

  pub update_reads_free : (o : List ℤ) (us rs : List Event) (t : TxnId) (x : ItemId) → runs d h t.0 ≡ true → due distance o (events_again d h (active_numbers h) us rs) (Read (new_number h t.0) x) ≡ []
  update_reads_free o us rs t x own =
      let query : is_query (events_again d h (active_numbers h) us rs) (new_number h t.0).0 ≡ false =
      query_then d h us rs t.0 (runs_active d h t.0 own) ∙ update_or_query (accepted_in h) t.0 (and_parts (is_update (accepted_in h) t.0) (is_active (accepted_in h) t.0) own).0 in
      ap (λ b. if b then charge_of_read distance o (events_again d h (active_numbers h) us rs) (new_number h t.0).0 x.0 (writer (events_again d h (active_numbers h) us rs) x.0) else []) query

  -- the writers are those of the history that is carried
  pub writer_again : (rs : List Event) (x : ℕ) → writer (events_again d h (active_numbers h) (accepted_in h) rs) x ≡ option_map (λ u. (new_number h u).0) (writer (accepted_in h) x)
  writer_again rs x = at (writer (accepted_in h) x) refl
    where
      es : List Event
      es = accepted_in h

      again : List Event
      again = events_again d h (active_numbers h) (accepted_in h) rs

      test : ℕ → Bool
      test u = is_update again u && holds_write again u x

      -- who passes holds the lock under the old number
      passes : (u : ℕ) → (is_update again u && holds_write again u x) ≡ true → (s : ℕ) × (u ≡ (new_number h s).0) × (is_update (accepted_in h) s ≡ true) × (holds_write (accepted_in h) s x ≡ true)
      passes u both =
          let p = and_parts (is_update again u) (holds_write again u x) both in
          let w = who_wrote d h (accepted_in h) rs u x (and_parts (is_active again u) (list_any (writes u x) again) p.1).1 in
          let k = and_parts (is_update (accepted_in h) w.number) (is_active (accepted_in h) w.number) w.is_update in
          (w.number, w.same, k.0, and_from (is_active (accepted_in h) w.number) (list_any (writes w.number x) (accepted_in h)) k.1 w.did)

      within : (u : ℕ) → (is_update again u && holds_write again u x) ≡ true → (1 ≤ u) × (u < 1 + length (begin_records again))
      within u both = begun_in_range again u (update_begun again u (and_parts (is_update again u) (holds_write again u x) both).0)

      at : (w : Option ℕ) → writer (accepted_in h) x ≡ w → writer (events_again d h (active_numbers h) (accepted_in h) rs) x ≡ option_map (λ u. (new_number h u).0) w
      at None none =
          find_least (λ u. is_update again u && holds_write again u x) (length (begin_records again)) None
          (λ u. false_from_ne_true (is_update again u && holds_write again u x) (λ both.
          let s = passes u both in
          let r = begun_in_range (accepted_in h) s.0 (update_begun (accepted_in h) s.0 s.2) in
          true≢false (sym (and_from (is_update (accepted_in h) s.0) (holds_write (accepted_in h) s.0 x) s.2 s.3)
          ∙ find_none (λ u. is_update (accepted_in h) u && holds_write (accepted_in h) u x) 1 (length (begin_records (accepted_in h))) none s.0 r.0 r.1)))
          within
      at (Some u) some =
          let p = and_parts (is_update (accepted_in h) u) (holds_write (accepted_in h) u x) (found_satisfies (λ u. is_update (accepted_in h) u && holds_write (accepted_in h) u x) (txn_numbers (accepted_in h)) u some) in
          let q = and_parts (is_active (accepted_in h) u) (list_any (writes u x) (accepted_in h)) p.1 in
          let own : runs d h u ≡ true = and_from (is_update (accepted_in h) u) (is_active (accepted_in h) u) p.0 q.0 in
          find_least (λ u. is_update again u && holds_write again u x) (length (begin_records again)) (Some (new_number h u).0) (
            and_from (is_update again (new_number h u).0) (holds_write again (new_number h u).0 x) (update_then d h (accepted_in h) rs u q.0 ∙ p.0)
                (and_from (is_active again (new_number h u).0) (list_any (writes (new_number h u).0 x) again) (active_then d h (accepted_in h) rs u q.0) (update_wrote d h (accepted_in h) rs u x own ∙ q.1)),
            λ v below. false_from_ne_true (is_update again v && holds_write again v x) (λ both.
                let s = passes v both in
                let same : s.0 ≡ u = some_same s.0 u (sym (orderly.exclusive s.0 x s.3) ∙ orderly.exclusive u x p.1) in
                let v_is : v ≡ (new_number h u).0 = s.1 ∙ ap (λ t. (new_number h t).0) same in
                absurd (omega arith)),
          )
          within
        where
          some_same : (a b : ℕ) → Some a ≡ Some b → a ≡ b
          some_same a b e = cc

  -- what a carried read is charged, by the writer of its item
  abbrev pub charge_by : ℕ → ℕ → Option ℕ → List Charge
  charge_by q x None = []
  charge_by q x (Some u) = record { query = (new_number h q).0; update = (new_number h u).0; amount = uncommitted_distance distance h.opening (accepted_in h) x } ∷ []

  pub read_charged : (rs : List Event) (q : TxnId) (x : ItemId) → is_active_query h q.0 ≡ true
      → due distance (committed_values h) (events_again d h (active_numbers h) (accepted_in h) rs) (Read (new_number h q.0) x) ≡ charge_by q.0 x.0 (writer (accepted_in h) x.0)
  read_charged rs q x own =
      let again : List Event = events_again d h (active_numbers h) (accepted_in h) rs in
      let p = and_parts (is_query (accepted_in h) q.0) (is_active (accepted_in h) q.0) own in
      ap (λ b. if b then charge_of_read distance (committed_values h) again (new_number h q.0).0 x.0 (writer again x.0) else []) (query_then d h (accepted_in h) rs q.0 p.1 ∙ p.0)
      ∙ (ap (charge_of_read distance (committed_values h) again (new_number h q.0).0 x.0) (writer_again rs x.0) ∙ at (writer (accepted_in h) x.0))
    where
      at : (w : Option ℕ) → charge_of_read distance (committed_values h) (events_again d h (active_numbers h) (accepted_in h) rs) (new_number h q.0).0 x.0 (option_map (λ u. (new_number h u).0) w) ≡ charge_by q.0 x.0 w
      at None = refl
      at (Some u) = rw (committed_kept d h legal rs x.0, current_kept d h legal rs x.0) refl

  abbrev pub charges_of : Event → List Charge
  charges_of (Read q x) = if is_active_query h q.0 then charge_by q.0 x.0 (writer (accepted_in h) x.0) else []
  charges_of _ = []

  begins_free : (o : List ℤ) (before : List Event) (ts : List ℕ) → charges_after distance o before (begins_again d h ts) ≡ []
  begins_free o before [] = refl
  begins_free o before (t ∷ ts) =
      ap (λ cs. cs ++ charges_after distance o (before ++ (carried_begin d h t).event ∷ []) (begins_again d h ts)) (begin_due distance o before (is_query (accepted_in h) t) _ _)
      ∙ begins_free o (before ++ (carried_begin d h t).event ∷ []) ts

  operations_free : (o : List ℤ) (us : List Event) → charges_after distance o (begins_again d h (active_numbers h)) (filter_map (operation_again d h) us) ≡ []
  operations_free o us =
      ap (λ b. charges_after distance o b (filter_map (operation_again d h) us)) (sym (append-nil (begins_again d h (active_numbers h))))
      ∙ (charges_along distance o (operation_again d h) no_charge (begins_again d h (active_numbers h)) each [] us ∙ nothing us)
    where
      no_charge : Event → List Charge
      no_charge e = []

      nothing : (us : List Event) → flat_map no_charge us ≡ []
      nothing [] = refl
      nothing (u ∷ us) = nothing us

      each : (ys : List Event) (e : Event) → due_if distance o (begins_again d h (active_numbers h) ++ filter_map (operation_again d h) ys) (operation_again d h e) ≡ []
      each ys e = at (operation_again d h e) refl
        where
          whole : begins_again d h (active_numbers h) ++ filter_map (operation_again d h) ys ≡ events_again d h (active_numbers h) ys []
          whole = ap (λ l. begins_again d h (active_numbers h) ++ l) (sym (append-nil (filter_map (operation_again d h) ys)))

          at : (r : Option Event) → operation_again d h e ≡ r → due_if distance o (begins_again d h (active_numbers h) ++ filter_map (operation_again d h) ys) r ≡ []
          at None is = refl
          at (Some f) is =
              ap (λ b. due distance o b f) whole
              ∙ operation_case d h (λ e f. due distance o (events_again d h (active_numbers h) ys []) f ≡ [])
              (λ t x own. update_reads_free o ys [] t x own) (λ t x v own. write_is_free o ys (new_number h t.0) x v) e f is

  pub charged_then : (rs : List Event) → charges distance (committed_values h) (events_again d h (active_numbers h) (accepted_in h) rs) ≡ flat_map charges_of rs
  charged_then rs =
      let first : List Event = begins_again d h (active_numbers h) ++ filter_map (operation_again d h) (accepted_in h) in
      ap (charges distance (committed_values h)) (sym (append_assoc (begins_again d h (active_numbers h)) (filter_map (operation_again d h) (accepted_in h)) (filter_map (read_again d h) rs)))
      ∙ (charges_parts distance (committed_values h) [] first (filter_map (read_again d h) rs)
      ∙ (ap (λ cs. cs ++ charges_after distance (committed_values h) first (filter_map (read_again d h) rs)) none
      ∙ (ap (λ b. charges_after distance (committed_values h) b (filter_map (read_again d h) rs)) (sym (append-nil first))
      ∙ charges_along distance (committed_values h) (read_again d h) charges_of first each [] rs)))
    where
      none : charges distance (committed_values h) (begins_again d h (active_numbers h) ++ filter_map (operation_again d h) (accepted_in h)) ≡ []
      none =
          charges_parts distance (committed_values h) [] (begins_again d h (active_numbers h)) (filter_map (operation_again d h) (accepted_in h))
          ∙ rw (begins_free (committed_values h) [] (active_numbers h)) (operations_free (committed_values h) (accepted_in h))

      each : (ys : List Event) (e : Event) → due_if distance (committed_values h) ((begins_again d h (active_numbers h) ++ filter_map (operation_again d h) (accepted_in h)) ++ filter_map (read_again d h) ys) (read_again d h e) ≡ charges_of e
      each ys (Read q x) = at (is_active_query h q.0) refl
        where
          at : (b : Bool) → is_active_query h q.0 ≡ b
              → due_if distance (committed_values h) ((begins_again d h (active_numbers h) ++ filter_map (operation_again d h) (accepted_in h)) ++ filter_map (read_again d h) ys) (if b then Some (Read (new_number h q.0) x) else None)
              ≡ (if b then charge_by q.0 x.0 (writer (accepted_in h) x.0) else [])
          at false own = refl
          at true own =
              ap (λ b. due distance (committed_values h) b (Read (new_number h q.0) x)) (append_assoc (begins_again d h (active_numbers h)) (filter_map (operation_again d h) (accepted_in h)) (filter_map (read_again d h) ys))
              ∙ read_charged ys q x own
      each ys (BeginUpdate l) = refl
      each ys (BeginQuery l s) = refl
      each ys (Write t x v) = refl
      each ys (Commit t) = refl
      each ys (Abort t) = refl
