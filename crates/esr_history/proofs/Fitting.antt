-- The accepted entries of a legal history are on its items and of transactions that have begun, and its begins are numbered one after another.
use Rattle.std.proofs.Common.{◌≡◌, ℕ, ◌+◌, ◌<◌, ◌≤◌, true, false, not, [], ◌∷◌, ◌++◌, length, refl, sym, ◌∙◌, ap, arith, Option, Some, None, eqb, inl, inr, nat_le, if◌then◌else◌}
use Rattle.std.proofs.lemmas.Bool.{true≢false, not-false, leb-false, ne_eqb, cases_Bool}
use Rattle.esr_history.specs.Events.{is_refusal, begin_record_of, begin_records, is_begun, Event, BeginUpdate, BeginQuery, Read, Write, Commit, Abort, Reply, Refusal, NoSuchTransaction, NoSuchItem}
use Rattle.esr_history.specs.Machine.{DistanceFunction, Schedule, accepted_in, reply_to, reasons, refusal, acceptance, answered, not_begun, no_item, IsLegal}
use Rattle.esr_history.specs.Legal.{legal_induction}
use Rattle.esr_history.specs.BackLinks.{item_of, txn_of, ender, begun_by, begun_count, is_some_eq, IsFit, IsNumbered}
use Rattle.esr_history.proofs.Allowed.{NoneApplies, none_applies}
use Rattle.esr_history.proofs.LegalWellFormed.{when_none, begun_in_range}
use Rattle.esr_history.proofs.Linking.{last_same, count_refused, count_same, count_more}

-- an accepted reply is the acceptance, and no reason to refuse applies
pub accepts : (d : DistanceFunction) (h : Schedule) (e : Event) (r : Reply) → r ≡ reply_to d h e → is_refusal r ≡ false → NoneApplies (reasons d h e) × (r ≡ acceptance h e)
accepts d h e r is yes_it_is = at (refusal d h e) refl is
  where
    at : (o : Option Refusal) → refusal d h e ≡ o → r ≡ answered o (acceptance h e) → NoneApplies (reasons d h e) × (r ≡ acceptance h e)
    at None none same = (none_applies (reasons d h e) none, same)
    at (Some why) some same = absurd (true≢false (sym (ap is_refusal same) ∙ yes_it_is))

begun_below : (h : Schedule) (t : ℕ) → not_begun h t ≡ None → t < 1 + length (begin_records (accepted_in h))
begun_below h t none = (begun_in_range (accepted_in h) t (not-false (is_begun (accepted_in h) t) (when_none (not (is_begun (accepted_in h) t)) NoSuchTransaction none))).1

item_below : (h : Schedule) (x : ℕ) → no_item h x ≡ None → x < length h.opening
item_below h x none = leb-false (length h.opening) x (when_none (nat_le (length h.opening) x) NoSuchItem none)

pub numbered : (d : DistanceFunction) (h : Schedule) (e : Event) (r : Reply) → r ≡ reply_to d h e → IsNumbered h.entries e r
numbered d h (BeginUpdate l) r is = λ ok. ap begun_by (accepts d h (BeginUpdate l) r is ok).1
numbered d h (BeginQuery l s) r is = λ ok. ap begun_by (accepts d h (BeginQuery l s) r is ok).1
numbered d h _ r is = tt

-- which keys an accepted event has
record Keys (h : Schedule) (e : Event) (r : Reply) : Type 0 where
  item : (x : ℕ) → length h.opening ≤ x → is_some_eq (item_of e) x ≡ false
  txn : (t : ℕ) → begun_count (h.entries ++ record { event = e; reply = r } ∷ []) < t → (is_some_eq (txn_of e r) t ≡ false) × (is_some_eq (ender e) t ≡ false) × (begun_count h.entries < t)

other : (k m : ℕ) → k < m → eqb k m ≡ false
other k m l = ne_eqb k m (λ e. absurd (omega (arith, e, l)))

-- an event that begins nothing has the key of one transaction that has begun
named : (h : Schedule) (e : Event) (r : Reply) (u : ℕ) → u < 1 + begun_count h.entries → begin_record_of e ≡ None → is_refusal r ≡ false → ((x : ℕ) → length h.opening ≤ x → is_some_eq (item_of e) x ≡ false)
    → ((t : ℕ) → eqb u t ≡ false → (is_some_eq (txn_of e r) t ≡ false) × (is_some_eq (ender e) t ≡ false)) → Keys h e r
named h e r u low begins ok item txn = record {
  item = item;
  txn = λ t m. let same : begun_count (h.entries ++ record { event = e; reply = r } ∷ []) ≡ begun_count h.entries = count_same h.entries (record { event = e; reply = r }) ok begins in
      let no = txn t (other u t (omega (arith, low, same, m))) in (no.0, no.1, omega (arith, same, m));
}

keys : (d : DistanceFunction) (h : Schedule) (e : Event) (r : Reply) → r ≡ reply_to d h e → is_refusal r ≡ false → Keys h e r
keys d h (BeginUpdate l) r is ok =
    let n : begun_by r ≡ Some (begun_count h.entries + 1) = numbered d h (BeginUpdate l) r is ok in
    record {
      item = λ x m. refl;
      txn = λ t m.
          let more : begun_count (h.entries ++ record { event = BeginUpdate l; reply = r } ∷ []) ≡ begun_count h.entries + 1 = count_more h.entries (record { event = BeginUpdate l; reply = r }) (record { query = false; strict = false; limit = l }) ok refl in
          let above : begun_count h.entries + 1 < t = omega (arith, more, m) in
          (ap (λ o. is_some_eq o t) n ∙ other (begun_count h.entries + 1) t above, refl, omega (arith, above));
    }
keys d h (BeginQuery l s) r is ok =
    let n : begun_by r ≡ Some (begun_count h.entries + 1) = numbered d h (BeginQuery l s) r is ok in
    record {
      item = λ x m. refl;
      txn = λ t m.
          let more : begun_count (h.entries ++ record { event = BeginQuery l s; reply = r } ∷ []) ≡ begun_count h.entries + 1 = count_more h.entries (record { event = BeginQuery l s; reply = r }) (record { query = true; strict = s; limit = l }) ok refl in
          let above : begun_count h.entries + 1 < t = omega (arith, more, m) in
          (ap (λ o. is_some_eq o t) n ∙ other (begun_count h.entries + 1) t above, refl, omega (arith, above));
    }
keys d h (Read u y) r is ok =
    let p = (accepts d h (Read u y) r is ok).0 in
    named h (Read u y) r u.0 (begun_below h u.0 p.0) refl ok (λ x m. let inside = item_below h y.0 p.1.1.0 in other y.0 x (omega (arith, inside, m))) (λ t no. (no, refl))
keys d h (Write u y v) r is ok =
    let p = (accepts d h (Write u y v) r is ok).0 in
    named h (Write u y v) r u.0 (begun_below h u.0 p.0) refl ok (λ x m. let inside = item_below h y.0 p.1.1.0 in other y.0 x (omega (arith, inside, m))) (λ t no. (no, refl))
keys d h (Commit u) r is ok = named h (Commit u) r u.0 (begun_below h u.0 (accepts d h (Commit u) r is ok).0.0) refl ok (λ x m. refl) (λ t no. (no, no))
keys d h (Abort u) r is ok = named h (Abort u) r u.0 (begun_below h u.0 (accepts d h (Abort u) r is ok).0.0) refl ok (λ x m. refl) (λ t no. (no, no))

fit_next : (d : DistanceFunction) (h : Schedule) (e : Event) (r : Reply) → r ≡ reply_to d h e → IsFit (length h.opening) h.entries → IsFit (length h.opening) (h.entries ++ record { event = e; reply = r } ∷ [])
fit_next d h e r is fit = elim (cases_Bool (is_refusal r)) [ inl refused ↦ at_refusal refused | inr ok ↦ at_accept ok ]
  where
    none_at : (key : Option ℕ) (k : ℕ) → is_refusal r ≡ true → is_some_eq (if is_refusal r then None else key) k ≡ false
    none_at key k refused = ap (λ b. is_some_eq (if b then None else key) k) refused

    some_at : (key : Option ℕ) (k : ℕ) → is_refusal r ≡ false → is_some_eq key k ≡ false → is_some_eq (if is_refusal r then None else key) k ≡ false
    some_at key k ok not_it = ap (λ b. is_some_eq (if b then None else key) k) ok ∙ not_it

    at_refusal : is_refusal r ≡ true → IsFit (length h.opening) (h.entries ++ record { event = e; reply = r } ∷ [])
    at_refusal refused = grind (arith, count_refused h.entries (record { event = e; reply = r }) refused, last_same, none_at)

    at_accept : is_refusal r ≡ false → IsFit (length h.opening) (h.entries ++ record { event = e; reply = r } ∷ [])
    at_accept ok = grind (arith, keys d h e r is ok, last_same, some_at)

pub legal_fit : (d : DistanceFunction) (h : Schedule) → IsLegal d h → IsFit (length h.opening) h.entries
legal_fit d h legal =
    legal_induction d (λ h. IsFit (length h.opening) h.entries) (λ h e r is fit. fit_next d h e r is fit) h (record { items = λ x l. refl; txns = λ t l. refl; ends = λ t l. refl }) legal
