-- While an update is alone, no lock is in its way, and nothing is charged.
use Rattle.std.proofs.Common.{◌≡◌, ℕ, ℤ, Bool, true, false, not, if◌then◌else◌, ◌&&◌, ◌||◌, ◌==◌, List, [], ◌∷◌, refl, sym, ap, subst, Option, None, Some, option_map, unwrap_or, true≢false, ◌∙◌, inl, inr}
use Rattle.std.specs.List.{filter_map}
use Rattle.std.proofs.lemmas.Bool.{cases_Bool, eqb-true, eq-eqb, false≢true, not-true}
use Rattle.esr_base.specs.declared.numbers.ItemId.{ItemId}
use Rattle.esr_base.specs.declared.numbers.TxnId.{TxnId}
use Rattle.esr_history.specs.declared.event.Event.TheVariants.{BeginUpdate, BeginQuery, Read, Write, Commit, Abort}
use Rattle.esr_history.specs.declared.event.Refusal.{Refusal}
use Rattle.esr_history.specs.declared.event.Refusal.TheVariants.{NoSuchTransaction, AlreadyEnded, NoSuchItem, QueryMayNotWrite, ValueOutOfRange, TooManyReads}
use Rattle.esr_items.specs.Values.{is_value}
use Rattle.esr_base.specs.declared.limits.TheConstants.{MAX_READS}
use Rattle.esr_history.specs.Events.{BeginRecord, total_read_count, begin_record, is_active, is_begun, is_query, is_update, txn_numbers, reads, writes}
use Rattle.esr_history.specs.Machine.{DistanceFunction, Schedule, accepted_in, acceptance, blocked_by, charge_of_write, value_distance, due_in, export_full, import_full, read_blocked, reasons, reply_to, write_blocked}
use Rattle.std.specs.List.{list_any}
use Rattle.std.specs.Prelude.{length, nat_le}
use Rattle.esr_liveness.specs.Liveness.{IsAlone, LawOfLoneUpdates, blocker_in, has_locked, has_written}
use Rattle.esr_liveness.proofs.Reasons.{Names, find_fails, names_none, none_names, unblocked}

filter_map_none : {X Y : Type 0} (f : X → Option Y) (xs : List X) → ((x : X) → f x ≡ None) → filter_map f xs ≡ []
filter_map_none f [] none = refl
filter_map_none f (x ∷ xs) none = rw (none x) (filter_map_none f xs none)

update_no_query : (o : Option BeginRecord) → unwrap_or (option_map (λ b. not b.query) o) false ≡ true
    → unwrap_or (option_map (λ b. b.query) o) false ≡ false
update_no_query None is = absurd (false≢true is)
update_no_query (Some b) is = not-true b.query is

-- a lock of another transaction that is not active
no_write : (other update active wrote : Bool) → (other ≡ true → active ≡ false) → (other && (update && (active && wrote))) ≡ false
no_write false update active wrote ended = refl
no_write true false active wrote ended = refl
no_write true true active wrote ended = rw (ended refl) refl

no_lock : (other update active read wrote : Bool) → (other ≡ true → active ≡ false)
    → (other && (update && ((active && read) || (active && wrote)))) ≡ false
no_lock false update active read wrote ended = refl
no_lock true false active read wrote ended = refl
no_lock true true active read wrote ended = rw (ended refl) refl

-- a read lock of a query that is another transaction and not active, or is not a query
no_charge : {X : Type 0} (query active read : Bool) (c : Option X) → (active ≡ true → query ≡ false)
    → (if query && (active && read) then c else None) ≡ None
no_charge false active read c lone = refl
no_charge true false read c lone = refl
no_charge true true read c lone = absurd (true≢false (lone refl))

module _ (d : DistanceFunction) (h : Schedule) (t : TxnId) (x : ItemId) (update : is_update (accepted_in h) t.0 ≡ true) (alone : IsAlone h t.0) where
  not_query : is_query (accepted_in h) t.0 ≡ false
  not_query = update_no_query (begin_record (accepted_in h) t.0) update

  inactive : (u : ℕ) → not (u == t.0) ≡ true → is_active (accepted_in h) u ≡ false
  inactive u other =
      elim (cases_Bool (is_active (accepted_in h) u)) [
        | inl active ↦ absurd (true≢false (sym (eq-eqb u t.0 (alone u active)) ∙ not-true (u == t.0) other))
        | inr not_active ↦ not_active
      ]

  unread : read_blocked h t.0 x.0 ≡ None
  unread =
      rw not_query
      (ap blocked_by
      (find_fails (has_written (accepted_in h) t.0 x.0) (txn_numbers (accepted_in h))
      (λ u. no_write (not (u == t.0)) (is_update (accepted_in h) u) (is_active (accepted_in h) u) (list_any (writes u x.0) (accepted_in h)) (inactive u))))

  unwritten : write_blocked h t.0 x.0 ≡ None
  unwritten =
      ap blocked_by
      (find_fails (has_locked (accepted_in h) t.0 x.0) (txn_numbers (accepted_in h))
      (λ u. no_lock (not (u == t.0)) (is_update (accepted_in h) u) (is_active (accepted_in h) u) (list_any (reads u x.0) (accepted_in h)) (list_any (writes u x.0) (accepted_in h)) (inactive u)))

  read_free : due_in d h (Read t x) ≡ []
  read_free = rw not_query refl

  write_free : (v : ℤ) → due_in d h (Write t x v) ≡ []
  write_free v =
      rw update
      (filter_map_none (charge_of_write (value_distance d h) h.opening (accepted_in h) t.0 x.0 v) (txn_numbers (accepted_in h))
      (λ q. no_charge (is_query (accepted_in h) q) (is_active (accepted_in h) q) (list_any (reads q x.0) (accepted_in h)) _ (λ active. subst (λ u. is_query (accepted_in h) u ≡ false) (sym (alone q active)) not_query)))

  no_one : (r : Option Refusal) → r ≡ None → Names (λ u. ⊥) r
  no_one r is = subst (Names (λ u. ⊥)) (sym is) (none_names (λ u. ⊥))

  pub lone_read : blocker_in (reply_to d h (Read t x)) ≡ None
  lone_read =
      unblocked (reasons d h (Read t x)) (acceptance h (Read t x)) (
        names_none (λ u. ⊥) (not (is_begun (accepted_in h) t.0)) NoSuchTransaction refl,
        (
          names_none (λ u. ⊥) (not (is_active (accepted_in h) t.0)) AlreadyEnded refl,
          (
            names_none (λ u. ⊥) (nat_le (length h.opening) x.0) NoSuchItem refl,
            (
              names_none (λ u. ⊥) (is_query (accepted_in h) t.0 && nat_le MAX_READS (total_read_count (accepted_in h) t.0)) TooManyReads refl,
              (
                no_one (read_blocked h t.0 x.0) unread,
                (
                  no_one (import_full d h (due_in d h (Read t x))) (ap (import_full d h) read_free),
                  (
                    no_one (export_full d h (due_in d h (Read t x))) (ap (export_full d h) read_free),
                    tt,
                  ),
                ),
              ),
            ),
          ),
        ),
      ) refl

  pub lone_write : (v : ℤ) → blocker_in (reply_to d h (Write t x v)) ≡ None
  lone_write v =
      unblocked (reasons d h (Write t x v)) (acceptance h (Write t x v)) (
        names_none (λ u. ⊥) (not (is_begun (accepted_in h) t.0)) NoSuchTransaction refl,
        (
          names_none (λ u. ⊥) (not (is_active (accepted_in h) t.0)) AlreadyEnded refl,
          (
            names_none (λ u. ⊥) (nat_le (length h.opening) x.0) NoSuchItem refl,
            (
              names_none (λ u. ⊥) (is_query (accepted_in h) t.0) QueryMayNotWrite refl,
              (
                names_none (λ u. ⊥) (not (is_value v)) ValueOutOfRange refl,
                (
                  no_one (write_blocked h t.0 x.0) unwritten,
                  (
                    no_one (import_full d h (due_in d h (Write t x v))) (ap (import_full d h) (write_free v)),
                    (
                      no_one (export_full d h (due_in d h (Write t x v))) (ap (export_full d h) (write_free v)),
                      tt,
                    ),
                  ),
                ),
              ),
            ),
          ),
        ),
      ) refl

pub law_of_lone_updates : LawOfLoneUpdates
law_of_lone_updates d h (BeginUpdate limit) t named update alone = absurd (false≢true named)
law_of_lone_updates d h (BeginQuery limit strict) t named update alone = absurd (false≢true named)
law_of_lone_updates d h (Read u x) t named update alone =
    let same : u.0 ≡ t = eqb-true u.0 t named in
    lone_read d h u x (subst (λ w. is_update (accepted_in h) w ≡ true) (sym same) update) (subst (IsAlone h) (sym same) alone)
law_of_lone_updates d h (Write u x v) t named update alone =
    let same : u.0 ≡ t = eqb-true u.0 t named in
    lone_write d h u x (subst (λ w. is_update (accepted_in h) w ≡ true) (sym same) update) (subst (IsAlone h) (sym same) alone) v
law_of_lone_updates d h (Commit u) t named update alone =
    unblocked (reasons d h (Commit u)) (acceptance h (Commit u)) (
      names_none (λ w. ⊥) (not (is_begun (accepted_in h) u.0)) NoSuchTransaction refl,
      (
        names_none (λ w. ⊥) (not (is_active (accepted_in h) u.0)) AlreadyEnded refl,
        tt,
      ),
    ) refl
law_of_lone_updates d h (Abort u) t named update alone =
    unblocked (reasons d h (Abort u)) (acceptance h (Abort u)) (
      names_none (λ w. ⊥) (not (is_begun (accepted_in h) u.0)) NoSuchTransaction refl,
      (
        names_none (λ w. ⊥) (not (is_active (accepted_in h) u.0)) AlreadyEnded refl,
        tt,
      ),
    ) refl
