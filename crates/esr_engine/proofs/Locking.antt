-- A read for update returns the current value, and its reader holds the write lock.
use Rattle.std.proofs.Common.{◌≡◌, ℕ, ℤ, pos, List, [], ◌∷◌, ◌++◌, length, Bool, true, false, not, ◌&&◌, ◌==◌, refl, sym, ◌∙◌, ap, subst, arith, inl, inr, Option, None, Some, if◌then◌else◌, option_map, unwrap_or, nat_lt, nat_le}
use Rattle.std.specs.Prelude.{Result, Ok, Err, IfOk, OnOk}
use Rattle.std.specs.List.{list_any}
use Rattle.std.proofs.lemmas.Bool.{cases_eq, false≢true, false_from_ne_true, and_parts, and_from, or_right, eq-eqb}
use Rattle.std.proofs.lemmas.Bool.Decides.{nat_tests}
use Rattle.esr_items.specs.Values.{value_at}
use Rattle.esr_items.specs.Weights.{weighted}
use Rattle.esr_base.specs.declared.numbers.ItemId.{ItemId}
use Rattle.esr_base.specs.declared.numbers.TxnId.{TxnId}
use Rattle.esr_history.specs.declared.event.Event.{Event}
use Rattle.esr_history.specs.declared.event.Reply.{Reply}
use Rattle.esr_history.specs.declared.event.Refusal.{Refusal}
use Rattle.esr_history.specs.declared.event.Event.TheVariants.{Read, Write}
use Rattle.esr_history.specs.declared.event.Reply.TheVariants.{Value, Wrote}
use Rattle.esr_history.specs.declared.event.Refusal.TheVariants.{NoSuchItem}
use Rattle.esr_history.specs.Events.{writes, is_active, is_begun, is_committed, is_aborted, is_update, is_refusal, holds_write, committed_value, current_value}
use Rattle.esr_history.specs.Machine.{Schedule, accepted_in, extended, reply_to, refusal, reasons, writer}
use Rattle.esr_history.specs.WellFormed.{IsWellFormed}
use Rattle.esr_history.proofs.Allowed.{none_applies, write_allowed, read_allowed}
use Rattle.esr_history.proofs.LegalWellFormed.{done-accepted, follows, not_ended, when_none}
use Rattle.esr_history.proofs.Lists.{any_push, any_push_no}
use Rattle.esr_history.proofs.WellFormed.{active_parts, update_begun}
use Rattle.esr_history.proofs.Steps.{last_written_agree}
use Rattle.esr_history.proofs.Values.{current-write, stays}
use Rattle.esr_core.proofs.Held.{is_active-unchanged}
use Rattle.esr_core.proofs.Locks.{writer_is}
use Rattle.esr_engine.specs.declared.engine.EngineError.{EngineError}
use Rattle.esr_engine.specs.ForUpdate.{after, has_lock, lock_event, locked, reply_for_update, after_for_update, IsHeldValue}

settles : (begun committed aborted : Bool) → begun ≡ true → (begun && (not committed && not aborted)) ≡ false → (committed ≡ true → aborted ≡ false) → committed ≡ not aborted
settles true true aborted b none once = sym (ap not (once refl))
settles true false true b none once = refl
settles true false false b none once = absurd (false≢true (sym none))
settles false committed aborted b none once = absurd (false≢true b)

module _ (h : Schedule) (o : IsWellFormed (accepted_in h)) (x : ItemId) where
  -- if no active transaction has written an item, its committed and current values are equal
  committed_is_current : ((u : ℕ) → holds_write (accepted_in h) u x.0 ≡ false) → committed_value h.opening (accepted_in h) x.0 ≡ current_value h.opening (accepted_in h) x.0
  committed_is_current no_one = last_written_agree (is_committed (accepted_in h)) (stays (accepted_in h)) (value_at h.opening x.0) x.0 (accepted_in h) (λ u wrote.
      let idle : (is_active (accepted_in h) u && true) ≡ false = rw wrote at (no_one u) in
      settles (is_begun (accepted_in h) u) (is_committed (accepted_in h) u) (is_aborted (accepted_in h) u) (update_begun (accepted_in h) u (o.writers u x.0 wrote)) (unless (is_active (accepted_in h) u) idle) (o.once u))
    where
      unless : (b : Bool) → (b && true) ≡ false → b ≡ false
      unless true is = is
      unless false is = is

  module _ (t : TxnId) where
    -- a transaction for which `has_lock` is true holds the lock
    lock_held : has_lock h t.0 x.0 ≡ true → (is_update (accepted_in h) t.0 ≡ true) × (holds_write (accepted_in h) t.0 x.0 ≡ true)
    lock_held has =
        let found : unwrap_or (option_map (λ u. u == t.0) (writer (accepted_in h) x.0)) false ≡ true = (and_parts (nat_lt x.0 (length h.opening)) (unwrap_or (option_map (λ u. u == t.0) (writer (accepted_in h) x.0)) false) has).1 in
        and_parts (is_update (accepted_in h) t.0) (holds_write (accepted_in h) t.0 x.0) (sym (writer_is (accepted_in h) o x.0 t.0) ∙ found)

    -- if it has no lock, it holds no write on an existing item
    lock_not_held : nat_lt x.0 (length h.opening) ≡ true → has_lock h t.0 x.0 ≡ false → holds_write (accepted_in h) t.0 x.0 ≡ false
    lock_not_held inside none =
        let not_found : unwrap_or (option_map (λ u. u == t.0) (writer (accepted_in h) x.0)) false ≡ false = rw inside at none in
        false_from_ne_true (holds_write (accepted_in h) t.0 x.0) (λ held.
        let wrote : list_any (writes t.0 x.0) (accepted_in h) ≡ true = (and_parts (is_active (accepted_in h) t.0) (list_any (writes t.0 x.0) (accepted_in h)) held).1 in
        false≢true (sym not_found ∙ (writer_is (accepted_in h) o x.0 t.0 ∙ and_from (is_update (accepted_in h) t.0) (holds_write (accepted_in h) t.0 x.0) (o.writers t.0 x.0 wrote) held)))

    -- a read keeps the holder of the write lock
    read_keeps : (done' : List Event) → holds_write done' t.0 x.0 ≡ true → holds_write (done' ++ Read t x ∷ []) t.0 x.0 ≡ true
    read_keeps done' held = rw (is_active-unchanged done' (Read t x) refl (λ u. refl) (λ u. refl) t.0, any_push_no (writes t.0 x.0) done' (Read t x) refl) held

    -- a read that is accepted after a history in which its reader holds the lock
    held_read : (g : Schedule) (v : ℤ) → v ≡ current_value g.opening (accepted_in g) x.0 → g.opening ≡ h.opening → current_value h.opening (accepted_in g) x.0 ≡ current_value h.opening (accepted_in h) x.0
        → (is_active (accepted_in g) t.0 ≡ true → list_any (writes t.0 x.0) (accepted_in g) ≡ true)
        → IsHeldValue h (after g (Read t x)) t x (reply_to weighted g (Read t x))
    held_read g v is same values wrote = at (refusal weighted g (Read t x)) refl
      where
        at : (why : Option Refusal) → refusal weighted g (Read t x) ≡ why → IsHeldValue h (after g (Read t x)) t x (reply_to weighted g (Read t x))
        at (Some why) some = rw some tt
        at None none =
            let reply : reply_to weighted g (Read t x) ≡ Value (current_value g.opening (accepted_in g) x.0) = rw none refl in
            let longer : accepted_in (after g (Read t x)) ≡ accepted_in g ++ Read t x ∷ [] = ap (λ (r : Reply). accepted_in (extended g (Read t x) r)) reply ∙ done-accepted g (Read t x) (Value (current_value g.opening (accepted_in g) x.0)) refl in
            let act : is_active (accepted_in g) t.0 ≡ true = not_ended g t.0 (read_allowed weighted g t x (none_applies (reasons weighted g (Read t x)) none)).active in
            let held : holds_write (accepted_in g) t.0 x.0 ≡ true = and_from (is_active (accepted_in g) t.0) (list_any (writes t.0 x.0) (accepted_in g)) act (wrote act) in
            subst (IsHeldValue h (after g (Read t x)) t x) (sym reply)
            (ap (λ (vs : List ℤ). current_value vs (accepted_in g) x.0) same ∙ values, ap (λ (es : List Event). holds_write es t.0 x.0) longer ∙ read_keeps (accepted_in g) held)

    pub held_value : IsHeldValue h (after_for_update h t x) t x (reply_for_update h t x)
    held_value = at (has_lock h t.0 x.0) refl
      where
        at : (b : Bool) → has_lock h t.0 x.0 ≡ b → IsHeldValue h (after_for_update h t x) t x (reply_for_update h t x)
        at true has =
            rw has (held_read h (current_value h.opening (accepted_in h) x.0) refl refl refl (λ act. (and_parts (is_active (accepted_in h) t.0) (list_any (writes t.0 x.0) (accepted_in h)) (lock_held has).1).1))
        at false has = rw has (after_write (refusal weighted h (lock_event h t x)) refl)
          where
            after_write : (why : Option Refusal) → refusal weighted h (lock_event h t x) ≡ why
                → IsHeldValue h (if is_refusal (reply_to weighted h (lock_event h t x)) then after h (lock_event h t x) else after (after h (lock_event h t x)) (Read t x)) t x
                (if is_refusal (reply_to weighted h (lock_event h t x)) then reply_to weighted h (lock_event h t x) else reply_to weighted (after h (lock_event h t x)) (Read t x))
            after_write (Some why) some = rw some tt
            after_write None none =
                rw none
                (let value : ℤ = if nat_lt x.0 (length h.opening) then committed_value h.opening (accepted_in h) x.0 else pos 0 in
                let g : Schedule = extended h (Write t x value) Wrote in
                let longer : accepted_in g ≡ accepted_in h ++ Write t x value ∷ [] = done-accepted h (Write t x value) Wrote refl in
                let allowed = (write_allowed weighted h t x value (none_applies (reasons weighted h (Write t x value)) none)).uncharged in
                let outside : nat_le (length h.opening) x.0 ≡ false = when_none (nat_le (length h.opening) x.0) NoSuchItem allowed.item in
                let inside : nat_lt x.0 (length h.opening) ≡ true = grind (arith, nat_tests) in
                let act : is_active (accepted_in h) t.0 ≡ true = not_ended h t.0 allowed.active in
                let alone : (u : ℕ) → holds_write (accepted_in h) u x.0 ≡ false = λ u. elim (cases_eq u t.0) [
                  | inl e ↦ ap (λ v. holds_write (accepted_in h) v x.0) e ∙ lock_not_held inside has
                  | inr ne ↦ (follows weighted h o (Write t x value) none).alone t.0 x.0 (and_from (t.0 == t.0) (x.0 == x.0) (eq-eqb t.0 t.0 refl) (eq-eqb x.0 x.0 refl)) u ne
                ] in
                let now : current_value h.opening (accepted_in g) x.0 ≡ value = ap (λ (es : List Event). current_value h.opening es x.0) longer ∙ current-write h.opening (accepted_in h) x.0 t x value refl (active_parts (accepted_in h) t.0 act).2 in
                let settled : value ≡ committed_value h.opening (accepted_in h) x.0 = ap (λ b. if b then committed_value h.opening (accepted_in h) x.0 else pos 0) inside in
                held_read g (current_value h.opening (accepted_in g) x.0) refl refl (now ∙ (settled ∙ committed_is_current alone))
                (λ _. ap (list_any (writes t.0 x.0)) longer ∙ (any_push (writes t.0 x.0) (accepted_in h) (Write t x value) ∙ or_right (list_any (writes t.0 x.0) (accepted_in h)) (writes t.0 x.0 (Write t x value)) (and_from (t.0 == t.0) (x.0 == x.0) (eq-eqb t.0 t.0 refl) (eq-eqb x.0 x.0 refl)))))

-- ---- the steps of a read for update
module _ (h : Schedule) (t : TxnId) (x : ItemId) where
  -- the lock is held: a read
  pub held_steps : has_lock h t.0 x.0 ≡ true → (reply_for_update h t x ≡ reply_to weighted h (Read t x)) × (after_for_update h t x ≡ after h (Read t x))
  held_steps has = (rw has refl, rw has refl)

  -- the write is accepted: a read after it
  pub taken_steps : has_lock h t.0 x.0 ≡ false → reply_to weighted h (lock_event h t x) ≡ Wrote
      → (locked h t x ≡ extended h (lock_event h t x) Wrote) × (reply_for_update h t x ≡ reply_to weighted (extended h (lock_event h t x) Wrote) (Read t x)) × (after_for_update h t x ≡ after (extended h (lock_event h t x) Wrote) (Read t x))
  taken_steps has wrote = (rw (has, wrote) refl, rw (has, wrote) refl, rw (has, wrote) refl)

-- the contract of a read for update with an `Ok` result
pub record Finished (h : Schedule) (t : TxnId) (x : ItemId) (r : Result Reply EngineError) (new : Schedule) : Type 0 where
  pub reply : IfOk r (λ a. a ≡ reply_for_update h t x)
  pub added : OnOk r (new ≡ after_for_update h t x)
  pub held : IfOk r (IsHeldValue h new t x)

pub finish : (h : Schedule) → IsWellFormed (accepted_in h) → (t : TxnId) (x : ItemId) (r : Result Reply EngineError) (new g : Schedule) → IfOk r (λ a. a ≡ reply_to weighted g (Read t x)) → IfOk r (λ a. new ≡ extended g (Read t x) a)
    → reply_for_update h t x ≡ reply_to weighted g (Read t x) → after_for_update h t x ≡ after g (Read t x) → Finished h t x r new
finish h o t x (Err e) new g replied grew reply added = record { reply = tt; added = tt; held = tt }
finish h o t x (Ok a) new g replied grew reply added =
    let same : a ≡ reply_for_update h t x = replied ∙ sym reply in
    let ends : new ≡ after_for_update h t x = grew ∙ (ap (extended g (Read t x)) replied ∙ sym added) in
    record { reply = same; added = ends; held = subst (IsHeldValue h new t x) (sym same) (subst (λ (k : Schedule). IsHeldValue h k t x (reply_for_update h t x)) (sym ends) (held_value h o x t)) }
