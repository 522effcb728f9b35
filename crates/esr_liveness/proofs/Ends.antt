-- The lock holders in the way of an event after a transaction has ended.
use Rattle.std.proofs.Common.{◌≡◌, ℕ, zero, suc, Bool, true, false, not, ◌&&◌, ◌||◌, ◌==◌, List, [], ◌∷◌, ◌++◌, refl, ap, subst, None, ◌∙◌, inl, inr, filter, length, option_map, unwrap_or}
use Rattle.std.specs.List.{list_any, range_with_len, slice_get}
use Rattle.std.proofs.lemmas.Bool.{cases_Bool, false≢true}
use Rattle.esr_base.specs.declared.numbers.TxnId.{TxnId}
use Rattle.esr_history.specs.declared.event.Event.{Event}
use Rattle.esr_history.specs.declared.event.Event.TheVariants.{BeginUpdate, BeginQuery, Read, Write, Commit, Abort}
use Rattle.esr_history.specs.declared.event.Refusal.{Refusal}
use Rattle.esr_history.specs.declared.event.Refusal.TheVariants.{NoSuchTransaction, AlreadyEnded}
use Rattle.esr_history.specs.declared.event.Reply.{Reply}
use Rattle.esr_history.specs.declared.event.Reply.TheVariants.{Aborted, Committed}
use Rattle.esr_history.specs.Events.{BeginRecord, aborts, begin_record, begin_record_of, begin_records, commits, is_aborted, is_active, is_begun, is_committed, is_query, is_refusal, is_update, txn_numbers, reads, writes}
use Rattle.esr_history.specs.Machine.{Schedule, accepted_in, answered, extended, first_reason, when}
use Rattle.esr_history.proofs.LegalWellFormed.{done-accepted}
use Rattle.esr_history.proofs.Lists.{any_push, any_push_no, filter_map_push_none}
use Rattle.esr_history.proofs.WellFormed.{active_parts}
use Rattle.esr_liveness.specs.Liveness.{IsEndOf, LawOfEnds, has_locked, has_written, holders_against}

-- An end of transaction u: it begins, reads and writes nothing, and ends u alone.
pub record Ends (u : ℕ) (end : Event) : Type 0 where
  pub begins : begin_record_of end ≡ None
  pub reads_none : (t x : ℕ) → reads t x end ≡ false
  pub writes_none : (t x : ℕ) → writes t x end ≡ false
  pub ends : (c a : Bool) (w : ℕ) → (not (c || commits w end) && not (a || aborts w end)) ≡ ((not c && not a) && not (u == w))

commit_ends : (t : TxnId) → Ends t.0 (Commit t)
commit_ends t = record { begins = refl; reads_none = λ u x. refl; writes_none = λ u x. refl; ends = λ c a w. step c a (t.0 == w) }
  where
    step : (c a k : Bool) → (not (c || k) && not (a || false)) ≡ ((not c && not a) && not k)
    step true a k = refl
    step false true true = refl
    step false true false = refl
    step false false true = refl
    step false false false = refl

abort_ends : (t : TxnId) → Ends t.0 (Abort t)
abort_ends t = record { begins = refl; reads_none = λ u x. refl; writes_none = λ u x. refl; ends = λ c a w. step c a (t.0 == w) }
  where
    step : (c a k : Bool) → (not (c || false) && not (a || k)) ≡ ((not c && not a) && not k)
    step true a k = refl
    step false true true = refl
    step false true false = refl
    step false false true = refl
    step false false false = refl

and_assoc : (b c k : Bool) → (b && (c && k)) ≡ ((b && c) && k)
and_assoc true c k = refl
and_assoc false c k = refl

-- the test moves to the outermost position
write_without : (o b a k w : Bool) → (o && (b && ((a && k) && w))) ≡ ((o && (b && (a && w))) && k)
write_without false b a k w = refl
write_without true false a k w = refl
write_without true true false k w = refl
write_without true true true true true = refl
write_without true true true true false = refl
write_without true true true false true = refl
write_without true true true false false = refl

lock_without : (o b a k r w : Bool) → (o && (b && (((a && k) && r) || ((a && k) && w)))) ≡ ((o && (b && ((a && r) || (a && w)))) && k)
lock_without false b a k r w = refl
lock_without true false a k r w = refl
lock_without true true false k r w = refl
lock_without true true true true true w = refl
lock_without true true true true false true = refl
lock_without true true true true false false = refl
lock_without true true true false true w = refl
lock_without true true true false false true = refl
lock_without true true true false false false = refl

filter_both : (p k q : ℕ → Bool) (xs : List ℕ) → ((x : ℕ) → q x ≡ (p x && k x)) → filter q xs ≡ filter k (filter p xs)
filter_both p k q [] same = refl
filter_both p k q (x ∷ xs) same =
    elim (cases_Bool (p x)) [
      | inl passes ↦ elim (cases_Bool (k x)) [
        | inl keeps ↦ rw (same x, passes, keeps) (ap (λ ys. x ∷ ys) (filter_both p k q xs same))
        | inr leaves ↦ rw (same x, passes, leaves) (filter_both p k q xs same)
      ]
      | inr fails ↦ rw (same x, fails) (filter_both p k q xs same)
    ]

module _ (events : List Event) (end : Event) (u : ℕ) (is : Ends u end) where
  abbrev later : List Event
  later = events ++ end ∷ []

  same_beginnings : begin_records later ≡ begin_records events
  same_beginnings = filter_map_push_none begin_record_of events end is.begins

  same_beginning : (t : ℕ) → begin_record later t ≡ begin_record events t
  same_beginning zero = refl
  same_beginning (suc k) = ap (λ bs. slice_get bs k) same_beginnings

  active_left : (w : ℕ) → is_active later w ≡ (is_active events w && not (u == w))
  active_left w =
      rw (same_beginning w, any_push (commits w) events end, any_push (aborts w) events end, is.ends (is_committed events w) (is_aborted events w) w)
      (and_assoc (is_begun events w) (not (is_committed events w) && not (is_aborted events w)) (not (u == w)))

  same_update : (w : ℕ) → is_update later w ≡ is_update events w
  same_update w = ap (λ o. unwrap_or (option_map (λ (b : BeginRecord). not b.query) o) false) (same_beginning w)

  same_query : (w : ℕ) → is_query later w ≡ is_query events w
  same_query w = ap (λ o. unwrap_or (option_map (λ (b : BeginRecord). b.query) o) false) (same_beginning w)

  same_writes : (w x : ℕ) → list_any (writes w x) later ≡ list_any (writes w x) events
  same_writes w x = any_push_no (writes w x) events end (is.writes_none w x)

  same_reads : (w x : ℕ) → list_any (reads w x) later ≡ list_any (reads w x) events
  same_reads w x = any_push_no (reads w x) events end (is.reads_none w x)

  written_left : (t x w : ℕ) → has_written later t x w ≡ (has_written events t x w && not (u == w))
  written_left t x w =
      let other : Bool = not (w == t) in
      ap (λ b. other && (b && (is_active later w && list_any (writes w x) later))) (same_update w)
      ∙ (ap (λ a. other && (is_update events w && (a && list_any (writes w x) later))) (active_left w)
      ∙ (ap (λ m. other && (is_update events w && ((is_active events w && not (u == w)) && m))) (same_writes w x)
      ∙ write_without other (is_update events w) (is_active events w) (not (u == w)) (list_any (writes w x) events)))

  locked_left : (t x w : ℕ) → has_locked later t x w ≡ (has_locked events t x w && not (u == w))
  locked_left t x w =
      let other : Bool = not (w == t) in
      ap (λ b. other && (b && ((is_active later w && list_any (reads w x) later) || (is_active later w && list_any (writes w x) later)))) (same_update w)
      ∙ (ap (λ a. other && (is_update events w && ((a && list_any (reads w x) later) || (a && list_any (writes w x) later)))) (active_left w)
      ∙ (ap (λ r. other && (is_update events w && (((is_active events w && not (u == w)) && r) || ((is_active events w && not (u == w)) && list_any (writes w x) later)))) (same_reads w x)
      ∙ (ap (λ m. other && (is_update events w && (((is_active events w && not (u == w)) && list_any (reads w x) events) || ((is_active events w && not (u == w)) && m)))) (same_writes w x)
      ∙ lock_without other (is_update events w) (is_active events w) (not (u == w)) (list_any (reads w x) events) (list_any (writes w x) events))))

  same_numbers : txn_numbers later ≡ txn_numbers events
  same_numbers = ap (λ bs. range_with_len 1 (length bs)) same_beginnings

  -- the holders left are those before, without u
  left : (p q : ℕ → Bool) → ((w : ℕ) → q w ≡ (p w && not (u == w))) → filter q (txn_numbers later) ≡ filter (λ w. not (u == w)) (filter p (txn_numbers events))
  left p q same = ap (filter q) same_numbers ∙ filter_both p (λ w. not (u == w)) q (txn_numbers events) same

  pub holders_left : (e : Event) → holders_against later e ≡ filter (λ w. not (u == w)) (holders_against events e)
  holders_left (Read t x) =
      elim (cases_Bool (is_query events t.0)) [
        | inl passes ↦ rw (same_query t.0, passes) refl
        | inr fails ↦ rw (same_query t.0, fails) (left (has_written events t.0 x.0) (has_written later t.0 x.0) (written_left t.0 x.0))
      ]
  holders_left (Write t x v) = left (has_locked events t.0 x.0) (has_locked later t.0 x.0) (locked_left t.0 x.0)
  holders_left (BeginUpdate limit) = refl
  holders_left (BeginQuery limit strict) = refl
  holders_left (Commit t) = refl
  holders_left (Abort t) = refl

passes_both : (b a : Bool) (r s : Refusal) (reply : Reply) → b ≡ true → a ≡ true
    → answered (first_reason (when (not b) r ∷ when (not a) s ∷ [])) reply ≡ reply
passes_both true true r s reply begun active = refl
passes_both true false r s reply begun active = absurd (false≢true active)
passes_both false a r s reply begun active = absurd (false≢true begun)

after_end : (h : Schedule) (u : TxnId) (end : Event) (reply : Reply) (e : Event) → Ends u.0 end → is_refusal reply ≡ false
    → holders_against (accepted_in (extended h end reply)) e ≡ filter (λ w. not (u.0 == w)) (holders_against (accepted_in h) e)
after_end h u end reply e ends accepts =
    ap (λ events. holders_against events e) (done-accepted h end reply accepts) ∙ holders_left (accepted_in h) end u.0 ends e

frees_holders : (h : Schedule) (u : TxnId) (end : Event) (reply : Reply) (e : Event) → IsEndOf u end reply
    → holders_against (accepted_in (extended h end reply)) e ≡ filter (λ w. not (u.0 == w)) (holders_against (accepted_in h) e)
frees_holders h u (Commit t) Committed e is = subst (λ (w : TxnId). holders_against (accepted_in (extended h (Commit t) Committed)) e ≡ filter (λ v. not (w.0 == v)) (holders_against (accepted_in h) e)) is (after_end h t (Commit t) Committed e (commit_ends t) refl)
frees_holders h u (Abort t) Aborted e is = subst (λ (w : TxnId). holders_against (accepted_in (extended h (Abort t) Aborted)) e ≡ filter (λ v. not (w.0 == v)) (holders_against (accepted_in h) e)) is (after_end h t (Abort t) Aborted e (abort_ends t) refl)
frees_holders h u _ _ e is = absurd is

pub law_of_ends : LawOfEnds
law_of_ends d h u active = record {
  aborts = passes_both (is_begun (accepted_in h) u.0) (is_active (accepted_in h) u.0) NoSuchTransaction AlreadyEnded Aborted (active_parts (accepted_in h) u.0 active).0 active;
  frees = frees_holders h u;
}
