-- The indices at which the transactions of a legal history begin and end.
use Rattle.std.proofs.Common.{◌≡◌, ℕ, ◌+◌, ◌<◌, ◌≤◌, Bool, true, false, not, ◌||◌, List, [], ◌∷◌, ◌++◌, length, take, drop, refl, sym, ◌∙◌, ap, subst, arith, inl, inr, ⊎_elim, Option, Some, None, append-nil, filter, map, cond, unwrap_or, if◌then◌else◌}
use Rattle.std.specs.List.{slice_get, list_any, last_or, before_first}
use Rattle.std.proofs.Math.Seq.{take-append_seam}
use Rattle.std.proofs.lemmas.Bool.{true≢false, cases_Bool, or_parts, cases_lt, eq-eqb, ne_eqb, eqb-true}
use Rattle.std.proofs.lemmas.List.{take-append-le, take-append-drop}
use Rattle.esr_history.specs.declared.event.Event.{Event}
use Rattle.esr_history.specs.declared.event.Event.TheVariants.{BeginUpdate, BeginQuery, Read, Write, Commit, Abort}
use Rattle.esr_history.specs.declared.event.Reply.{Reply}
use Rattle.esr_history.specs.declared.event.Reply.TheVariants.{Begun, Value, Wrote, Committed, Aborted, Refused}
use Rattle.esr_history.specs.declared.event.Entry.{Entry}
use Rattle.esr_history.specs.Events.{BeginRecord, is_refusal, accepted, begin_record_of, is_active, is_begun, is_committed, is_aborted, commits, aborts}
use Rattle.esr_history.specs.Machine.{DistanceFunction, Schedule, accepted_in, extended, reply_to, acceptance, IsLegal}
use Rattle.esr_history.specs.Legal.{legal_induction}
use Rattle.esr_history.specs.Queries.{begins, before_begin}
use Rattle.esr_history.specs.BackLinks.{beginner, begin_place, begun_txn, ender, ended_txn, is_some_eq, places_from, last_place, begun_count}
use Rattle.esr_history.proofs.Lists.{any_push, slice_get_push}
use Rattle.esr_history.proofs.Membership.{In, get_seam}
use Rattle.esr_history.proofs.WellFormed.{active_parts}
use Rattle.esr_history.proofs.Bounded.{before_first-all}
use Rattle.esr_history.proofs.LegalWellFormed.{begun_in_range, not_ended}
use Rattle.esr_history.proofs.Linking.{places_push, last_same, last_here, count_refused, count_same, count_more}
use Rattle.esr_history.proofs.Fitting.{accepts}
use Rattle.esr_order.proofs.Sparse.{in_places}
use Rattle.esr_order.proofs.Linked.{get_inside}
use Rattle.esr_order.proofs.Entries.{drop_get}

-- ---- ends
end_key : (e : Event) (t : ℕ) → commits t e ≡ false → aborts t e ≡ false → is_some_eq (ender e) t ≡ false
end_key (BeginUpdate l) t c a = refl
end_key (BeginQuery l s) t c a = refl
end_key (Read u x) t c a = refl
end_key (Write u x v) t c a = refl
end_key (Commit u) t c a = c
end_key (Abort u) t c a = a

-- a transaction that has neither committed nor aborted has no end
no_ends : (es : List Entry) (t n : ℕ) → is_committed (accepted es) t ≡ false → is_aborted (accepted es) t ≡ false → places_from ended_txn t n es ≡ []
no_ends [] t n c a = refl
no_ends (e ∷ es) t n c a = at (is_refusal e.reply) refl (no_ends es t (n + 1))
  where
    events : (b : Bool) → is_refusal e.reply ≡ b → accepted (e ∷ es) ≡ map (λ (m : Entry). m.event) (cond (not b) (e ∷ filter (λ (m : Entry). not (is_refusal m.reply)) es) (filter (λ (m : Entry). not (is_refusal m.reply)) es))
    events b is = ap (λ b. map (λ (m : Entry). m.event) (cond (not b) (e ∷ filter (λ (m : Entry). not (is_refusal m.reply)) es) (filter (λ (m : Entry). not (is_refusal m.reply)) es))) is

    skip : is_some_eq (ended_txn e) t ≡ false → places_from ended_txn t (n + 1) es ≡ [] → places_from ended_txn t n (e ∷ es) ≡ []
    skip none rest = ap (λ b. if b then n ∷ places_from ended_txn t (n + 1) es else places_from ended_txn t (n + 1) es) none ∙ rest

    at : (b : Bool) → is_refusal e.reply ≡ b → (is_committed (accepted es) t ≡ false → is_aborted (accepted es) t ≡ false → places_from ended_txn t (n + 1) es ≡ []) → places_from ended_txn t n (e ∷ es) ≡ []
    at true refused rest =
        skip (ap (λ b. is_some_eq (if b then None else ender e.event) t) refused)
        (rest (sym (ap (λ l. is_committed l t) (events true refused)) ∙ c) (sym (ap (λ l. is_aborted l t) (events true refused)) ∙ a))
    at false ok rest =
        let cs = or_parts (commits t e.event) (is_committed (accepted es) t) (sym (ap (λ l. is_committed l t) (events false ok)) ∙ c) in
        let as' = or_parts (aborts t e.event) (is_aborted (accepted es) t) (sym (ap (λ l. is_aborted l t) (events false ok)) ∙ a) in
        skip (ap (λ b. is_some_eq (if b then None else ender e.event) t) ok ∙ end_key e.event t cs.0 as'.0) (rest cs.1 as'.1)

active_ends : (d : DistanceFunction) (h : Schedule) (e : Event) (r : Reply) → r ≡ reply_to d h e → is_refusal r ≡ false → (t : ℕ) → is_some_eq (ender e) t ≡ true → is_active (accepted_in h) t ≡ true
active_ends d h (BeginUpdate l) r is ok t key = absurd (true≢false (sym key))
active_ends d h (BeginQuery l s) r is ok t key = absurd (true≢false (sym key))
active_ends d h (Read u x) r is ok t key = absurd (true≢false (sym key))
active_ends d h (Write u x v) r is ok t key = absurd (true≢false (sym key))
active_ends d h (Commit u) r is ok t key = subst (λ v. is_active (accepted_in h) v ≡ true) (eqb-true u.0 t key) (not_ended h u.0 (accepts d h (Commit u) r is ok).0.1.0)
active_ends d h (Abort u) r is ok t key = subst (λ v. is_active (accepted_in h) v ≡ true) (eqb-true u.0 t key) (not_ended h u.0 (accepts d h (Abort u) r is ok).0.1.0)

HasOneEnd : Schedule → Type 0
HasOneEnd h = (t : ℕ) → length (places_from ended_txn t 0 h.entries) ≤ 1

one_end_next : (d : DistanceFunction) (h : Schedule) (e : Event) (r : Reply) → r ≡ reply_to d h e → HasOneEnd h → HasOneEnd (extended h e r)
unfolding HasOneEnd
one_end_next d h e r is one t = rw (places_push ended_txn t 0 h.entries (record { event = e; reply = r })) (at (is_refusal r) refl (is_some_eq (ender e) t) refl)
  where
    at : (b : Bool) → is_refusal r ≡ b → (k : Bool) → is_some_eq (ender e) t ≡ k
        → length (places_from ended_txn t 0 h.entries ++ cond (is_some_eq (if is_refusal r then None else ender e) t) ((0 + length h.entries) ∷ []) []) ≤ 1
    at true refused k key = rw (refused, append-nil (places_from ended_txn t 0 h.entries)) (one t)
    at false ok false key = rw (ok, key, append-nil (places_from ended_txn t 0 h.entries)) (one t)
    at false ok true key =
        let parts = active_parts (accepted_in h) t (active_ends d h e r is ok t key) in
        rw (ok, key, no_ends h.entries t 0 parts.1 parts.2) (omega arith)

one_end : (d : DistanceFunction) (h : Schedule) → IsLegal d h → HasOneEnd h
unfolding HasOneEnd
one_end d h legal = legal_induction d HasOneEnd (one_end_next d) h (λ t. omega arith) legal

single : (xs : List ℕ) (i : ℕ) → length xs ≤ 1 → In i xs → last_or None xs ≡ Some i
single [] i l j = absurd j
single (x ∷ []) i l j = ⊎_elim (λ e. ap Some e) (λ b. absurd b) j
single (x ∷ y ∷ xs) i l j = absurd (omega arith)

-- the entry that ends a transaction is the one at which the transaction ends
pub end_is : (d : DistanceFunction) (h : Schedule) → IsLegal d h → (t i : ℕ) (e : Entry) → slice_get h.entries i ≡ Some e → is_some_eq (ended_txn e) t ≡ true → last_place ended_txn t h.entries ≡ Some i
unfolding HasOneEnd
end_is d h legal t i e at key =
    let z : 0 + i ≡ i = omega arith in
    single (places_from ended_txn t 0 h.entries) i (one_end d h legal t) (subst (λ k. In k (places_from ended_txn t 0 h.entries)) z (in_places ended_txn t 0 h.entries i e at key))

-- ---- begins
abbrev begins_at : ℕ → Entry → Bool
begins_at t e = begins t e.reply

-- transaction t begins at place p, and no entry before it begins t
record IsBegunAt (es : List Entry) (t p : ℕ) : Type 0 where
  entry : Entry
  at : slice_get es p ≡ Some entry
  begins_it : begins t entry.reply ≡ true
  place : last_place begun_txn t es ≡ Some p
  none : list_any (begins_at t) (take p es) ≡ false

record AreBegun (h : Schedule) : Type 0 where
  some : (t : ℕ) → 1 ≤ t → t ≤ begun_count h.entries → (p : ℕ) × IsBegunAt h.entries t p
  none : (t : ℕ) → begun_count h.entries < t → list_any (begins_at t) h.entries ≡ false

kept : (es : List Entry) (x : Entry) (t p : ℕ) → is_some_eq (begun_txn x) t ≡ false → IsBegunAt es t p → IsBegunAt (es ++ x ∷ []) t p
kept es x t p other was =
    let inside : p < length es = get_inside es p was.entry was.at in
    record {
      entry = was.entry;
      at = slice_get_push es x p inside ∙ was.at;
      begins_it = was.begins_it;
      place = last_same begun_txn t es x other ∙ was.place;
      none = ap (list_any (begins_at t)) (take-append-le p es (x ∷ []) (omega arith)) ∙ was.none;
    }

refused_begins : (r : Reply) (t : ℕ) → is_refusal r ≡ true → begins t r ≡ false
refused_begins (Begun u) t is = absurd (true≢false (sym is))
refused_begins (Value v) t is = refl
refused_begins Wrote t is = refl
refused_begins Committed t is = refl
refused_begins Aborted t is = refl
refused_begins (Refused why) t is = refl

module _ (d : DistanceFunction) (h : Schedule) (was : AreBegun h) where
  -- after an entry that begins nothing
  same_begun : (x : Entry) → begun_count (h.entries ++ x ∷ []) ≡ begun_count h.entries → ((t : ℕ) → is_some_eq (begun_txn x) t ≡ false) → ((t : ℕ) → begins t x.reply ≡ false)
      → AreBegun (record h { entries = h.entries ++ x ∷ [] })
  same_begun x count other none_begins = record {
    some = λ t low high. let w = was.some t low (omega (arith, high, count)) in (w.0, kept h.entries x t w.0 (other t) w.1);
    none = λ t past.
        let l : begun_count h.entries < t = omega (arith, past, count) in
        any_push (begins_at t) h.entries x ∙ (ap (λ b. b || begins t x.reply) (was.none t l) ∙ none_begins t);
  }

  -- after an accepted begin
  more_begun : (e : Event) (b : BeginRecord) → begin_record_of e ≡ Some b → beginner e (Begun (record { 0 = begun_count h.entries + 1 })) ≡ Some (begun_count h.entries + 1)
      → AreBegun (extended h e (Begun (record { 0 = begun_count h.entries + 1 })))
  more_begun e b is own = record { some = λ t low high. found t low high; none = λ t past. later t past }
    where
      count : begun_count (h.entries ++ record { event = e; reply = Begun (record { 0 = begun_count h.entries + 1 }) } ∷ []) ≡ begun_count h.entries + 1
      count = count_more h.entries (record { event = e; reply = Begun (record { 0 = begun_count h.entries + 1 }) }) b refl is

      new_one : (t : ℕ) → t ≡ begun_count h.entries + 1 → IsBegunAt (h.entries ++ record { event = e; reply = Begun (record { 0 = begun_count h.entries + 1 }) } ∷ []) t (length h.entries)
      new_one t num =
          let past : begun_count h.entries < t = omega (arith, num) in
          record {
            entry = record { event = e; reply = Begun (record { 0 = begun_count h.entries + 1 }) };
            at = get_seam h.entries (record { event = e; reply = Begun (record { 0 = begun_count h.entries + 1 }) }) [];
            begins_it = eq-eqb (begun_count h.entries + 1) t (sym num);
            place =
                last_here begun_txn t h.entries (record { event = e; reply = Begun (record { 0 = begun_count h.entries + 1 }) })
                (ap (λ o. is_some_eq o t) own ∙ eq-eqb (begun_count h.entries + 1) t (sym num));
            none = ap (list_any (begins_at t)) (take-append_seam h.entries (record { event = e; reply = Begun (record { 0 = begun_count h.entries + 1 }) } ∷ [])) ∙ was.none t past;
          }

      found : (t : ℕ) → 1 ≤ t → t ≤ begun_count (h.entries ++ record { event = e; reply = Begun (record { 0 = begun_count h.entries + 1 }) } ∷ [])
          → (p : ℕ) × IsBegunAt (h.entries ++ record { event = e; reply = Begun (record { 0 = begun_count h.entries + 1 }) } ∷ []) t p
      found t low high =
          ⊎_elim
          (λ l.
          let w = was.some t low (omega (arith, l)) in
          let ne : begun_count h.entries + 1 ≡ t → ⊥ = λ f. omega (arith, f, l) in
          (w.0, kept h.entries (record { event = e; reply = Begun (record { 0 = begun_count h.entries + 1 }) }) t w.0 (ap (λ o. is_some_eq o t) own ∙ ne_eqb (begun_count h.entries + 1) t ne) w.1))
          (λ g. let num : t ≡ begun_count h.entries + 1 = omega (arith, g, high, count) in (length h.entries, new_one t num))
          (cases_lt t (begun_count h.entries + 1))

      later : (t : ℕ) → begun_count (h.entries ++ record { event = e; reply = Begun (record { 0 = begun_count h.entries + 1 }) } ∷ []) < t → list_any (begins_at t) (h.entries ++ record { event = e; reply = Begun (record { 0 = begun_count h.entries + 1 }) } ∷ []) ≡ false
      later t past =
          let l : begun_count h.entries < t = omega (arith, past, count) in
          let ne : begun_count h.entries + 1 ≡ t → ⊥ = λ f. omega (arith, f, past, count) in
          any_push (begins_at t) h.entries (record { event = e; reply = Begun (record { 0 = begun_count h.entries + 1 }) }) ∙ (ap (λ b. b || begins t (Begun (record { 0 = begun_count h.entries + 1 }))) (was.none t l) ∙ ne_eqb (begun_count h.entries + 1) t ne)

  begun_next : (e : Event) (r : Reply) → r ≡ reply_to d h e → AreBegun (extended h e r)
  begun_next e r is = elim (cases_Bool (is_refusal r)) [ inl refused ↦ at_refusal refused | inr ok ↦ subst (λ w. AreBegun (extended h e w)) (sym (accepts d h e r is ok).1) (at_accept e) ]
    where
      at_refusal : is_refusal r ≡ true → AreBegun (extended h e r)
      at_refusal refused =
          same_begun (record { event = e; reply = r }) (count_refused h.entries (record { event = e; reply = r }) refused) (λ t. ap (λ b. is_some_eq (if b then None else beginner e r) t) refused) (λ t. refused_begins r t refused)

      other : (e : Event) (w : Reply) → is_refusal w ≡ false → begin_record_of e ≡ None → beginner e w ≡ None → ((t : ℕ) → begins t w ≡ false) → AreBegun (extended h e w)
      other e w ok none no_one none_begins =
          same_begun (record { event = e; reply = w }) (count_same h.entries (record { event = e; reply = w }) ok none) (λ t. ap (λ b. is_some_eq (if b then None else beginner e w) t) ok ∙ ap (λ o. is_some_eq o t) no_one) none_begins

      at_accept : (e : Event) → AreBegun (extended h e (acceptance h e))
      at_accept (BeginUpdate l) = more_begun (BeginUpdate l) (record { query = false; strict = false; limit = l }) refl refl
      at_accept (BeginQuery l s) = more_begun (BeginQuery l s) (record { query = true; strict = s; limit = l }) refl refl
      at_accept (Read t x) = other (Read t x) (acceptance h (Read t x)) refl refl refl (λ t. refl)
      at_accept (Write t x v) = other (Write t x v) Wrote refl refl refl (λ t. refl)
      at_accept (Commit t) = other (Commit t) Committed refl refl refl (λ t. refl)
      at_accept (Abort t) = other (Abort t) Aborted refl refl refl (λ t. refl)

begun_all : (d : DistanceFunction) (h : Schedule) → IsLegal d h → AreBegun h
begun_all d h legal =
    legal_induction d AreBegun (λ g e r is w. begun_next d g w e r is) h (record { some = λ t low high. absurd (omega arith); none = λ t l. refl }) legal

-- the entries before the begin of a transaction that has begun
pub before_begin_is : (d : DistanceFunction) (h : Schedule) → IsLegal d h → (t : ℕ) → is_begun (accepted_in h) t ≡ true → take (begin_place t h.entries) h.entries ≡ before_begin h t
before_begin_is d h legal t begun =
    let n = begun_in_range (accepted_in h) t begun in
    let w = (begun_all d h legal).some t n.0 (omega (arith, n.1)) in
    let p = w.0 in
    let was = w.1 in
    let parts : take p h.entries ++ was.entry ∷ drop (p + 1) h.entries ≡ h.entries = ap (λ l. take p h.entries ++ l) (sym (drop_get h.entries p was.entry was.at)) ∙ take-append-drop p h.entries in
    ap (λ (o : Option ℕ). take (unwrap_or o 0) h.entries) was.place
    ∙ sym (ap (before_first (begins_at t)) (sym parts) ∙ before_first-all (begins_at t) (take p h.entries) was.entry (drop (p + 1) h.entries) was.none was.begins_it)
