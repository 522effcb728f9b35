-- The accesses of a committed transaction do not change as the history grows.
use Rattle.std.proofs.Common.{◌≡◌, ◌⊎◌, ◌≤◌, ℕ, Bool, true, false, List, [], ◌∷◌, ◌++◌, refl, sym, ◌∙◌, ap, subst, inl, inr, filter, map, eqb, append-nil, take, drop}
use Rattle.std.proofs.lemmas.Bool.{true≢false, ne_eqb, or_left}
use Rattle.std.proofs.lemmas.List.{take-take, take-append-drop}
use Rattle.std.proofs.lemmas.List.Folds.{list_any-append}
use Rattle.std.specs.List.{list_any, cons_option}
use Rattle.esr_history.specs.declared.event.Event.{Event}
use Rattle.esr_history.specs.declared.event.Event.TheVariants.{BeginUpdate, BeginQuery, Read, Write, Commit, Abort}
use Rattle.esr_history.specs.declared.event.Reply.{Reply}
use Rattle.esr_history.specs.declared.event.Reply.TheVariants.{Begun, Value, Wrote, Committed, Aborted, Refused}
use Rattle.esr_history.specs.declared.event.Refusal.{Refusal}
use Rattle.esr_history.specs.declared.event.Entry.{Entry}
use Rattle.esr_history.specs.Events.{is_refusal, is_active, is_committed, commits, accepted}
use Rattle.esr_history.specs.Machine.{DistanceFunction, Schedule, accepted_in, extended, empty_schedule, reply_to, IsLegal}
use Rattle.esr_history.specs.Legal.{continued, legal_induction_after}
use Rattle.esr_history.specs.Operations.{Operation, operation_by, operations}
use Rattle.esr_history.proofs.Allowed.{read_allowed, write_allowed}
use Rattle.esr_history.proofs.LegalWellFormed.{done-refused, done-accepted, not_ended}
use Rattle.esr_history.proofs.WellFormed.{active_parts}
use Rattle.esr_history.proofs.Fitting.{accepts}
use Rattle.esr_history.proofs.TraceOfHistory.{operations-refused, operations-accepted}
use Rattle.esr_history.proofs.Onward.{legal_parts, legal_front}
use Rattle.esr_history.proofs.Versions.{filter_push_false}
use Rattle.esr_order.specs.Scans.{access_of, accesses_in}

-- whether an operation is of transaction t
abbrev by : ℕ → Operation → Bool
by t o = eqb o.txn t

refused_or : (r : Reply) → (is_refusal r ≡ false) ⊎ ((why : Refusal) × (r ≡ Refused why))
refused_or (Begun t) = inl refl
refused_or (Value v) = inl refl
refused_or Wrote = inl refl
refused_or Committed = inl refl
refused_or Aborted = inl refl
refused_or (Refused why) = inr (why, refl)

-- of transaction t, which has committed in h, so far
record IsSettled (h : Schedule) (t : ℕ) (g : Schedule) : Type 0 where
  over : is_committed (accepted_in g) t ≡ true
  same : filter (by t) (operations g) ≡ filter (by t) (operations h)

module _ (d : DistanceFunction) (h : Schedule) (t : ℕ) (g : Schedule) (was : IsSettled h t g) where
  ended : (u : ℕ) → is_active (accepted_in g) u ≡ true → u ≡ t → ⊥
  ended u act e = true≢false (sym was.over ∙ (ap (is_committed (accepted_in g)) (sym e) ∙ (active_parts (accepted_in g) u act).1))

  other : (o : Operation) → is_active (accepted_in g) o.txn ≡ true → filter (by t) (operations g ++ o ∷ []) ≡ filter (by t) (operations h)
  other o act = filter_push_false (by t) (operations g) o (ne_eqb o.txn t (ended o.txn act)) ∙ was.same

  none : filter (by t) (operations g ++ []) ≡ filter (by t) (operations h)
  none = ap (filter (by t)) (append-nil (operations g)) ∙ was.same

  added : (e : Event) (r : Reply) → r ≡ reply_to d g e → is_refusal r ≡ false → filter (by t) (operations g ++ cons_option (operation_by e r) []) ≡ filter (by t) (operations h)
  added (BeginUpdate l) r is ok = none
  added (BeginQuery l s) r is ok = none
  added (Read u x) r is ok = other _ (not_ended g u.0 (read_allowed d g u x (accepts d g (Read u x) r is ok).0).active)
  added (Write u x v) r is ok = other _ (not_ended g u.0 (write_allowed d g u x v (accepts d g (Write u x v) r is ok).0).uncharged.active)
  added (Commit u) r is ok = none
  added (Abort u) r is ok = none

  settled_step : (e : Event) (r : Reply) → r ≡ reply_to d g e → IsSettled h t (extended g e r)
  settled_step e r is = elim (refused_or r) [
    | inl ok ↦ record {
      over = ap (λ es. is_committed es t) (done-accepted g e r ok) ∙ (list_any-append (commits t) (accepted_in g) (e ∷ []) ∙ or_left (is_committed (accepted_in g) t) (list_any (commits t) (e ∷ [])) was.over);
      same = ap (filter (by t)) (operations-accepted g e r ok) ∙ added e r is ok;
    }
    | inr why ↦ subst (λ r. IsSettled h t (extended g e r)) (sym why.1) (record {
      over = ap (λ es. is_committed es t) (done-refused g e why.0) ∙ was.over;
      same = ap (filter (by t)) (operations-refused g e why.0) ∙ was.same;
    })
  ]

settled : (d : DistanceFunction) (h : Schedule) (rest : List Entry) (t : ℕ) → IsLegal d (continued h rest) → is_committed (accepted_in h) t ≡ true → IsSettled h t (continued h rest)
settled d h rest t legal over =
    legal_induction_after d (IsSettled h t) (λ g e r is was. settled_step d h t g was e r is) h rest (legal_parts d (empty_schedule h) h.entries rest legal).1 (record { over = over; same = refl })

-- if t has committed within the first n entries, these contain all its accesses
settled_first : (d : DistanceFunction) (h : Schedule) → IsLegal d h → (n t : ℕ) → is_committed (accepted (take n h.entries)) t ≡ true
    → (is_committed (accepted_in h) t ≡ true) × (accesses_in h.entries t ≡ accesses_in (take n h.entries) t)
settled_first d h legal n t over =
    let front : Schedule = record h { entries = take n h.entries } in
    let whole : continued front (drop n h.entries) ≡ h = ap (λ (es : List Entry). record h { entries = es }) (take-append-drop n h.entries) in
    let s : IsSettled front t h = subst (IsSettled front t) whole (settled d front (drop n h.entries) t (subst (IsLegal d) (sym whole) legal) over) in
    (s.over, ap (map access_of) s.same)

-- and in more of them
pub settled_next : (d : DistanceFunction) (h : Schedule) → IsLegal d h → (n m : ℕ) → n ≤ m → (t : ℕ) → is_committed (accepted (take n h.entries)) t ≡ true
    → (is_committed (accepted (take m h.entries)) t ≡ true) × (accesses_in (take m h.entries) t ≡ accesses_in (take n h.entries) t)
settled_next d h legal n m le t over =
    let front : Schedule = record h { entries = take m h.entries } in
    let whole : continued front (drop m h.entries) ≡ h = ap (λ (es : List Entry). record h { entries = es }) (take-append-drop m h.entries) in
    let same : take n (take m h.entries) ≡ take n h.entries = take-take n m h.entries le in
    let s = settled_first d front (legal_front d front (drop m h.entries) (subst (IsLegal d) (sym whole) legal)) n t (subst (λ es. is_committed (accepted es) t ≡ true) (sym same) over) in
    (s.0, s.1 ∙ ap (λ es. accesses_in es t) same)
