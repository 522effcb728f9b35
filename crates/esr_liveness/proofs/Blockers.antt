-- Each reason that names a transaction names an active one.
use Rattle.std.proofs.Common.{◌≡◌, ℕ, ℤ, Bool, true, false, not, if◌then◌else◌, ◌&&◌, ◌||◌, List, [], ◌∷◌, refl, sym, ap, subst, Option, None, Some, option_map, ◌∙◌, inl, inr}
use Rattle.std.specs.Prelude.{length, nat_le, nat_lt}
use Rattle.std.specs.List.{AllByRecursion, find, list_any}
use Rattle.std.proofs.lemmas.Bool.{and_parts, cases_Bool, not-false}
use Rattle.std.proofs.lemmas.Option.{same_Some}
use Rattle.esr_items.specs.Values.{is_value}
use Rattle.esr_base.specs.declared.limits.TheConstants.{MAX_READS}
use Rattle.esr_base.specs.declared.numbers.ItemId.{ItemId}
use Rattle.esr_base.specs.declared.numbers.TxnId.{TxnId}
use Rattle.esr_history.specs.declared.event.Event.TheVariants.{BeginUpdate, BeginQuery, Read, Write, Commit, Abort}
use Rattle.esr_history.specs.declared.event.Refusal.{Refusal}
use Rattle.esr_history.specs.declared.event.Refusal.TheVariants.{NoSuchTransaction, AlreadyEnded, NoSuchItem, QueryMayNotWrite, ValueOutOfRange, LimitOutOfRange, TooManyReads, TooManyTransactions, BlockedByLock, BlockedByImport, BlockedByExport}
use Rattle.esr_history.specs.declared.event.Reply.{Reply}
use Rattle.esr_history.specs.Events.{total_read_count, begin_records, is_active, is_begun, is_query, is_update, holds_read, holds_write, txn_numbers, reads, writes}
use Rattle.esr_history.specs.Machine.{DistanceFunction, Schedule, Charge, accepted_in, acceptance, answered, blocked_by, charge_of_read, charge_of_write, value_distance, due_in, export_full, first_reason, import_full, read_blocked, reasons, when, write_blocked, writer}
use Rattle.esr_history.specs.Refusals.{refusal_blocker}
use Rattle.esr_history.proofs.Lists.{Each-filter_map, found_satisfies}
use Rattle.esr_base.specs.declared.limits.TheConstants.{MAX_LIMIT, MAX_TRANSACTIONS}
use Rattle.esr_liveness.specs.Liveness.{LawOfBlockers, blocker_in, has_locked, has_written}
use Rattle.esr_liveness.proofs.Reasons.{Names, blocked_by_reason, find_each, names_none, none_names}

no_blocker : (u : TxnId) → None ≡ Some u → ⊥
no_blocker u e = cc

-- a reason without a blocker either is the reply, or does not apply
passed : (P : Type 0) (b : Bool) (why : Refusal) (rs : List (Option Refusal)) (reply : Reply) (u : TxnId)
    → refusal_blocker why ≡ None → (b ≡ false → blocker_in (answered (first_reason rs) reply) ≡ Some u → P)
    → blocker_in (answered (first_reason (when b why ∷ rs)) reply) ≡ Some u → P
passed P true why rs reply u plain rest is = absurd (no_blocker u (sym plain ∙ is))
passed P false why rs reply u plain rest is = rest refl is

-- the owner of a found element, as the reason names it
names_found : {X : Type 0} (P : TxnId → Type 0) (f : X → Refusal) (owner : X → TxnId)
    → ((x : X) → refusal_blocker (f x) ≡ Some (owner x)) → (o : Option X) → ((x : X) → o ≡ Some x → P (owner x))
    → Names P (option_map f o)
names_found P f owner named None has = none_names P
names_found P f owner named (Some x) has =
    λ why u is names. subst P (same_Some (owner x) u (sym (named x) ∙ (ap refusal_blocker (same_Some (f x) why is) ∙ names))) (has x refl)

given_if : (b : Bool) (c e : Charge) → (if b then Some c else None) ≡ Some e → (b ≡ true) × (c ≡ e)
given_if true c e is = (refl, same_Some c e is)
given_if false c e is = absurd (cc)

module _ (d : DistanceFunction) (h : Schedule) where
  abbrev Active : ℕ → Type 0
  Active u = is_active (accepted_in h) u ≡ true

  abbrev IsOpen : TxnId → Type 0
  IsOpen u = Active u.0

  -- both parties of a charge are active
  abbrev AreOpen : Charge → Type 0
  AreOpen c = Active c.query × Active c.update

  read_charges : (q x : ℕ) → Active q → (o : Option ℕ) → ((u : ℕ) → o ≡ Some u → Active u)
      → AllByRecursion AreOpen (charge_of_read (value_distance d h) h.opening (accepted_in h) q x o)
  read_charges q x active None has = tt
  read_charges q x active (Some u) has = ((active, has u refl), tt)

  write_charges : (u x : ℕ) (v : ℤ) → Active u → (q : ℕ) (c : Charge)
      → charge_of_write (value_distance d h) h.opening (accepted_in h) u x v q ≡ Some c → AreOpen c
  write_charges u x v active q c is =
      let given = given_if (is_query (accepted_in h) q && holds_read (accepted_in h) q x) _ c is in
      let reader = and_parts (is_query (accepted_in h) q) (holds_read (accepted_in h) q x) given.0 in
      subst AreOpen given.1 ((and_parts (is_active (accepted_in h) q) (list_any (reads q x) (accepted_in h)) reader.1).0, active)

  held_write : (u x : ℕ) → (is_update (accepted_in h) u && holds_write (accepted_in h) u x) ≡ true → Active u
  held_write u x holds =
      (and_parts (is_active (accepted_in h) u) (list_any (writes u x) (accepted_in h))
      (and_parts (is_update (accepted_in h) u) (holds_write (accepted_in h) u x) holds).1).0

  due_of_read : (t : TxnId) (x : ItemId) → Active t.0 → AllByRecursion AreOpen (due_in d h (Read t x))
  due_of_read t x active =
      elim (cases_Bool (is_query (accepted_in h) t.0)) [
        | inl passes ↦ rw passes (read_charges t.0 x.0 active (writer (accepted_in h) x.0) (λ u found. held_write u x.0 (found_satisfies (λ w. is_update (accepted_in h) w && holds_write (accepted_in h) w x.0) (txn_numbers (accepted_in h)) u found)))
        | inr fails ↦ rw fails tt
      ]

  due_of_write : (t : TxnId) (x : ItemId) (v : ℤ) → Active t.0 → AllByRecursion AreOpen (due_in d h (Write t x v))
  due_of_write t x v active =
      elim (cases_Bool (is_update (accepted_in h) t.0)) [
        | inl passes ↦ rw passes (Each-filter_map AreOpen (charge_of_write (value_distance d h) h.opening (accepted_in h) t.0 x.0 v) (write_charges t.0 x.0 v active) (txn_numbers (accepted_in h)))
        | inr fails ↦ rw fails tt
      ]

  names_import : (cs : List Charge) → AllByRecursion AreOpen cs → Names IsOpen (import_full d h cs)
  names_import cs all =
      names_found IsOpen (λ (c : Charge). BlockedByImport (record { 0 = c.query })) (λ c. record { 0 = c.query }) (λ c. refl) (find _ cs)
      (λ c found. (find_each AreOpen _ cs c all found).0)

  names_export : (cs : List Charge) → AllByRecursion AreOpen cs → Names IsOpen (export_full d h cs)
  names_export cs all =
      names_found IsOpen (λ (c : Charge). BlockedByExport (record { 0 = c.update })) (λ c. record { 0 = c.update }) (λ c. refl) (find _ cs)
      (λ c found. (find_each AreOpen _ cs c all found).1)

  names_holder : (p : ℕ → Bool) → ((u : ℕ) → p u ≡ true → Active u) → Names IsOpen (blocked_by (find p (txn_numbers (accepted_in h))))
  names_holder p has =
      names_found IsOpen (λ (u : ℕ). BlockedByLock (record { 0 = u })) (λ u. record { 0 = u }) (λ u. refl) (find p (txn_numbers (accepted_in h)))
      (λ u found. has u (found_satisfies p (txn_numbers (accepted_in h)) u found))

  names_reader : (t x : ℕ) → Names IsOpen (read_blocked h t x)
  names_reader t x =
      elim (cases_Bool (is_query (accepted_in h) t)) [
        | inl passes ↦ rw passes (none_names IsOpen)
        | inr fails ↦ rw fails (names_holder (has_written (accepted_in h) t x) (λ u holds. held_write u x (and_parts _ _ holds).1))
      ]

  held_lock : (u x : ℕ) → (is_update (accepted_in h) u && (holds_read (accepted_in h) u x || holds_write (accepted_in h) u x)) ≡ true → Active u
  held_lock u x holds =
      either (is_active (accepted_in h) u) (list_any (reads u x) (accepted_in h)) (list_any (writes u x) (accepted_in h))
      (and_parts (is_update (accepted_in h) u) (holds_read (accepted_in h) u x || holds_write (accepted_in h) u x) holds).1
    where
      either : (a r w : Bool) → ((a && r) || (a && w)) ≡ true → a ≡ true
      either true r w is = refl
      either false r w is = is

  names_writer : (t x : ℕ) → Names IsOpen (write_blocked h t x)
  names_writer t x = names_holder (has_locked (accepted_in h) t x) (λ u holds. held_lock u x (and_parts _ _ holds).1)

  -- an event of a transaction that has not ended passes its first two reasons
  acts : (t u : TxnId) (rs : List (Option Refusal)) (reply : Reply) → blocker_in reply ≡ None
      → (Active t.0 → AllByRecursion (Names IsOpen) rs)
      → blocker_in (answered (first_reason (when (not (is_begun (accepted_in h) t.0)) NoSuchTransaction ∷ (when (not (is_active (accepted_in h) t.0)) AlreadyEnded ∷ rs))) reply) ≡ Some u
      → IsOpen u
  acts t u rs reply plain all is =
      passed (IsOpen u) (not (is_begun (accepted_in h) t.0)) NoSuchTransaction _ reply u refl
      (λ _. passed (IsOpen u) (not (is_active (accepted_in h) t.0)) AlreadyEnded rs reply u refl
      (λ active. blocked_by_reason IsOpen rs reply (all (not-false (is_active (accepted_in h) t.0) active)) plain u)) is

pub law_of_blockers : LawOfBlockers
law_of_blockers d h (BeginUpdate limit) u is =
    blocked_by_reason (IsOpen d h) (reasons d h (BeginUpdate limit)) (acceptance h (BeginUpdate limit))
    (names_none (IsOpen d h) (nat_lt MAX_LIMIT limit) LimitOutOfRange refl, (names_none (IsOpen d h) (nat_le MAX_TRANSACTIONS (length (begin_records (accepted_in h)))) TooManyTransactions refl, tt)) refl u is
law_of_blockers d h (BeginQuery limit strict) u is =
    blocked_by_reason (IsOpen d h) (reasons d h (BeginQuery limit strict)) (acceptance h (BeginQuery limit strict))
    (names_none (IsOpen d h) (nat_lt MAX_LIMIT limit) LimitOutOfRange refl, (names_none (IsOpen d h) (nat_le MAX_TRANSACTIONS (length (begin_records (accepted_in h)))) TooManyTransactions refl, tt)) refl u is
law_of_blockers d h (Read t x) u is =
    acts d h t u _ (acceptance h (Read t x)) refl
    (λ active. (
      names_none (IsOpen d h) (nat_le (length h.opening) x.0) NoSuchItem refl,
      (
        names_none (IsOpen d h) (is_query (accepted_in h) t.0 && nat_le MAX_READS (total_read_count (accepted_in h) t.0)) TooManyReads refl,
        (
          names_reader d h t.0 x.0,
          (
            names_import d h (due_in d h (Read t x)) (due_of_read d h t x active),
            (names_export d h (due_in d h (Read t x)) (due_of_read d h t x active), tt),
          ),
        ),
      ),
    )) is
law_of_blockers d h (Write t x v) u is =
    acts d h t u _ (acceptance h (Write t x v)) refl
    (λ active. (
      names_none (IsOpen d h) (nat_le (length h.opening) x.0) NoSuchItem refl,
      (
        names_none (IsOpen d h) (is_query (accepted_in h) t.0) QueryMayNotWrite refl,
        (
          names_none (IsOpen d h) (not (is_value v)) ValueOutOfRange refl,
          (
            names_writer d h t.0 x.0,
            (
              names_import d h (due_in d h (Write t x v)) (due_of_write d h t x v active),
              (names_export d h (due_in d h (Write t x v)) (due_of_write d h t x v active), tt),
            ),
          ),
        ),
      ),
    )) is
law_of_blockers d h (Commit t) u is = acts d h t u [] (acceptance h (Commit t)) refl (λ active. tt) is
law_of_blockers d h (Abort t) u is = acts d h t u [] (acceptance h (Abort t)) refl (λ active. tt) is
