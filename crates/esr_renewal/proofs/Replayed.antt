-- The events of a history that carries another: begins, operations of updates, and reads of queries.
use Rattle.std.proofs.Common.{◌≡◌, ℕ, ℤ, ◌+◌, ◌-◌, Bool, true, false, not, cond, ◌&&◌, ◌||◌, ◌==◌, List, [], ◌∷◌, ◌++◌, refl, sym, ◌∙◌, ap, subst, inl, inr, ⊎_elim, arith, count_by, Option, None, Some, is_some, unwrap_or, add-one, map, option_map, if◌then◌else◌, nat_lt}
use Rattle.std.specs.List.{filter_map, list_any, cons_option, slice_get}
use Rattle.std.proofs.lemmas.Bool.{true≢false}
use Rattle.std.proofs.lemmas.List.Elements.{filter_map-append}
use Rattle.std.proofs.lemmas.List.Folds.{list_any-append}
use Rattle.std.proofs.lemmas.List.Sums.{sum_by-cons}
use Rattle.std.proofs.lemmas.Option.{slice_get-map}
use Rattle.esr_history.specs.Events.{BeginRecord, begin_record_of, begin_records, begin_record, limit_of, is_query, is_update, is_active, is_committed, is_aborted, commits, aborts, reads, reads_any, writes, written}
use Rattle.esr_history.specs.Machine.{DistanceFunction, Schedule, accepted_in}
use Rattle.esr_history.specs.Queries.{is_strict}
use Rattle.esr_history.specs.ReportBounds.{is_active_query}
use Rattle.esr_history.proofs.Membership.{In}
use Rattle.esr_history.proofs.TraceAgreement.{any_of}
use Rattle.esr_core.specs.States.{begin_event}
use Rattle.esr_core.specs.Carried.{active_numbers, new_number, settled, carried_begin}
use Rattle.esr_core.proofs.Begins.{begin_record_as, begin_is, begin_writes}
use Rattle.esr_renewal.specs.Types.{TxnId, ItemId, Event, BeginUpdate, BeginQuery, Read, Write, Commit, Abort}
use Rattle.esr_renewal.proofs.Renumbered.{at_place}

-- Lists that two functions yield in turn.

pub compose : {X Y Z : Type 0} (f : X → Option Y) (g : Y → Option Z) (k : X → Option Z) → ((x : X) → f x ≡ None → k x ≡ None) → ((x : X) (y : Y) → f x ≡ Some y → k x ≡ g y)
    → (xs : List X) → filter_map g (filter_map f xs) ≡ filter_map k xs
compose f g k none some [] = refl
compose {X} {Y} {Z} f g k none some (x ∷ xs) = at (f x) refl ∙ ap (cons_option (k x)) (compose f g k none some xs)
  where
    at : (o : Option Y) → f x ≡ o → filter_map g (cons_option o (filter_map f xs)) ≡ cons_option (k x) (filter_map g (filter_map f xs))
    at None is = ap (λ c. cons_option c (filter_map g (filter_map f xs))) (sym (none x is))
    at (Some y) is = ap (λ c. cons_option c (filter_map g (filter_map f xs))) (sym (some x y is))

pub all_none : {X Y Z : Type 0} (f : X → Option Y) (g : Y → Option Z) → ((x : X) (y : Y) → f x ≡ Some y → g y ≡ None) → (xs : List X) → filter_map g (filter_map f xs) ≡ []
all_none {X} {Y} {Z} f g none xs = compose f g nothing (λ x is. refl) (λ x y is. sym (none x y is)) xs ∙ empty xs
  where
    nothing : X → Option Z
    nothing x = None

    empty : (xs : List X) → filter_map nothing xs ≡ []
    empty [] = refl
    empty (x ∷ xs) = empty xs

pub any_empty : {X Y : Type 0} (f : X → Option Y) (p : Y → Bool) → ((x : X) (y : Y) → f x ≡ Some y → p y ≡ false) → (xs : List X) → list_any p (filter_map f xs) ≡ false
any_empty f p fails [] = refl
any_empty {X} {Y} f p fails (x ∷ xs) = at (f x) refl (any_empty f p fails xs)
  where
    at : (o : Option Y) → f x ≡ o → list_any p (filter_map f xs) ≡ false → list_any p (cons_option o (filter_map f xs)) ≡ false
    at None is rest = rest
    at (Some y) is rest = ap (λ b. b || list_any p (filter_map f xs)) (fails x y is) ∙ rest

pub In-filter_map : {X Y : Type 0} (f : X → Option Y) (xs : List X) (y : Y) → In y (filter_map f xs) → (x : X) × In x xs × (f x ≡ Some y)
In-filter_map f [] y i = absurd i
In-filter_map {X} {Y} f (x ∷ xs) y i = at (f x) refl (λ j. In-filter_map f xs y j) i
  where
    at : (o : Option Y) → f x ≡ o → (In y (filter_map f xs) → (z : X) × In z xs × (f z ≡ Some y)) → In y (cons_option o (filter_map f xs)) → (z : X) × In z (x ∷ xs) × (f z ≡ Some y)
    at None is rest j = let r = rest j in (r.0, inr r.1, r.2)
    at (Some w) is rest j = ⊎_elim (λ e. (x, inl refl, is ∙ ap (λ v. Some v) e)) (λ k. let r = rest k in (r.0, inr r.1, r.2)) j

pub count_given : {X Y : Type 0} (f : X → Option Y) (p : X → Bool) (q : Y → Bool) → ((x : X) → p x ≡ any_of q (f x)) → (xs : List X) → count_by p xs ≡ count_by q (filter_map f xs)
count_given f p q same [] = refl
count_given {X} {Y} f p q same (x ∷ xs) =
    sum_by-cons (λ z. cond (p z) 1 0) x xs ∙ (ap (λ n. cond (p x) 1 0 + n) (count_given f p q same xs) ∙ at (f x) (same x))
  where
    at : (o : Option Y) → p x ≡ any_of q o → cond (p x) 1 0 + count_by q (filter_map f xs) ≡ count_by q (cons_option o (filter_map f xs))
    at None is = rw is (omega arith)
    at (Some y) is = rw is (sym (sum_by-cons (λ z. cond (q z) 1 0) y (filter_map f xs)))

pub any_if : (b : Bool) (z : Event) (q : Event → Bool) → any_of q (if b then Some z else None) ≡ (if b then q z else false)
any_if true z q = refl
any_if false z q = refl

pub and_false : (b : Bool) → (b && false) ≡ false
and_false true = refl
and_false false = refl

pub kinds : (o : Option BeginRecord) → is_some o ≡ true → unwrap_or (option_map (λ b. not b.query) o) false ≡ not (unwrap_or (option_map (λ b. b.query) o) false)
kinds None is = absurd (true≢false (sym is))
kinds (Some b) is = refl

module _ (d : DistanceFunction) (h : Schedule) where
  -- an active update
  abbrev pub runs : ℕ → Bool
  runs t = is_update (accepted_in h) t && is_active (accepted_in h) t

  abbrev pub operation_again : Event → Option Event
  operation_again (Read t x) = if runs t.0 then Some (Read (new_number h t.0) x) else None
  operation_again (Write t x v) = if runs t.0 then Some (Write (new_number h t.0) x v) else None
  operation_again _ = None

  abbrev pub read_again : Event → Option Event
  read_again (Read t x) = if is_active_query h t.0 then Some (Read (new_number h t.0) x) else None
  read_again _ = None

  abbrev pub begins_again : List ℕ → List Event
  begins_again ts = map (λ t. (carried_begin d h t).event) ts

  -- the active transactions begin, then operations of updates follow, then reads of queries
  abbrev pub events_again : List ℕ → List Event → List Event → List Event
  events_again ts us rs = begins_again ts ++ (filter_map operation_again us ++ filter_map read_again rs)

  abbrev pub begun_again : ℕ → BeginRecord
  begun_again t = begin_record_as (is_query (accepted_in h) t) (limit_of (accepted_in h) t - settled d h t) (is_strict (accepted_in h) t)

  pub operation_case : (P : Event → Event → Type 0) → ((t : TxnId) (x : ItemId) → runs t.0 ≡ true → P (Read t x) (Read (new_number h t.0) x))
      → ((t : TxnId) (x : ItemId) (v : ℤ) → runs t.0 ≡ true → P (Write t x v) (Write (new_number h t.0) x v)) → (e f : Event) → operation_again e ≡ Some f → P e f
  operation_case P r w (Read t x) f is = at (runs t.0) refl is
    where
      at : (b : Bool) → runs t.0 ≡ b → (if b then Some (Read (new_number h t.0) x) else None) ≡ Some f → P (Read t x) f
      at true own is' = subst (P (Read t x)) (cc) (r t x own)
      at false own is' = absurd (cc)
  operation_case P r w (Write t x v) f is = at (runs t.0) refl is
    where
      at : (b : Bool) → runs t.0 ≡ b → (if b then Some (Write (new_number h t.0) x v) else None) ≡ Some f → P (Write t x v) f
      at true own is' = subst (P (Write t x v)) (cc) (w t x v own)
      at false own is' = absurd (cc)
  operation_case P r w (BeginUpdate l) f is = absurd (cc)
  operation_case P r w (BeginQuery l s) f is = absurd (cc)
  operation_case P r w (Commit t) f is = absurd (cc)
  operation_case P r w (Abort t) f is = absurd (cc)

  pub read_case : (P : Event → Event → Type 0) → ((t : TxnId) (x : ItemId) → is_active_query h t.0 ≡ true → P (Read t x) (Read (new_number h t.0) x)) → (e f : Event) → read_again e ≡ Some f → P e f
  read_case P r (Read t x) f is = at (is_active_query h t.0) refl is
    where
      at : (b : Bool) → is_active_query h t.0 ≡ b → (if b then Some (Read (new_number h t.0) x) else None) ≡ Some f → P (Read t x) f
      at true own is' = subst (P (Read t x)) (cc) (r t x own)
      at false own is' = absurd (cc)
  read_case P r (Write t x v) f is = absurd (cc)
  read_case P r (BeginUpdate l) f is = absurd (cc)
  read_case P r (BeginQuery l s) f is = absurd (cc)
  read_case P r (Commit t) f is = absurd (cc)
  read_case P r (Abort t) f is = absurd (cc)

  -- the begins
  begins_none : (p : Event → Bool) → ((q s : Bool) (l : ℕ) → p (begin_event q l s) ≡ false) → (ts : List ℕ) → list_any p (begins_again ts) ≡ false
  begins_none p fails [] = refl
  begins_none p fails (t ∷ ts) =
      ap (λ b. b || list_any p (begins_again ts)) (fails (is_query (accepted_in h) t) (is_strict (accepted_in h) t) (limit_of (accepted_in h) t - settled d h t)) ∙ begins_none p fails ts

  pub begins_are : (ts : List ℕ) → begin_records (begins_again ts) ≡ map begun_again ts
  begins_are [] = refl
  begins_are (t ∷ ts) =
      ap (λ o. cons_option o (begin_records (begins_again ts))) (begin_is (is_query (accepted_in h) t) (limit_of (accepted_in h) t - settled d h t) (is_strict (accepted_in h) t)).begins
      ∙ ap (λ bs. begun_again t ∷ bs) (begins_are ts)

  begins_write : (p : ℕ → Bool) (x : ℕ) (ts : List ℕ) → filter_map (written p x) (begins_again ts) ≡ []
  begins_write p x [] = refl
  begins_write p x (t ∷ ts) =
      ap (λ o. cons_option o (filter_map (written p x) (begins_again ts))) (begin_writes (is_query (accepted_in h) t) (limit_of (accepted_in h) t - settled d h t) (is_strict (accepted_in h) t) x p)
      ∙ begins_write p x ts

  pub begins_count : (p : Event → Bool) → ((q s : Bool) (l : ℕ) → p (begin_event q l s) ≡ false) → (ts : List ℕ) → count_by p (begins_again ts) ≡ 0
  begins_count p fails [] = refl
  begins_count p fails (t ∷ ts) =
      let k = sum_by-cons (λ e. cond (p e) 1 0) (carried_begin d h t).event (begins_again ts) in
      let rest : count_by p (begins_again ts) ≡ 0 = begins_count p fails ts in
      k ∙ rw (fails (is_query (accepted_in h) t) (is_strict (accepted_in h) t) (limit_of (accepted_in h) t - settled d h t)) (omega (arith, rest))

  pub records : (ts : List ℕ) (us rs : List Event) → begin_records (events_again ts us rs) ≡ map begun_again ts
  records ts us rs =
      filter_map-append begin_record_of (begins_again ts) (filter_map operation_again us ++ filter_map read_again rs)
      ∙ (rw (
        filter_map-append begin_record_of (filter_map operation_again us) (filter_map read_again rs),
        all_none operation_again begin_record_of (operation_case (λ e f. begin_record_of f ≡ None) (λ t x own. refl) (λ t x v own. refl)) us,
        all_none read_again begin_record_of (read_case (λ e f. begin_record_of f ≡ None) (λ t x own. refl)) rs,
      )
      (append_nil (begin_records (begins_again ts)) ∙ begins_are ts))
    where
      append_nil : (bs : List BeginRecord) → bs ++ [] ≡ bs
      append_nil [] = refl
      append_nil (b ∷ bs) = ap (λ l. b ∷ l) (append_nil bs)

  pub any_parts : (p : Event → Bool) (ts : List ℕ) (us rs : List Event) → ((q s : Bool) (l : ℕ) → p (begin_event q l s) ≡ false)
      → list_any p (events_again ts us rs) ≡ (list_any p (filter_map operation_again us) || list_any p (filter_map read_again rs))
  any_parts p ts us rs fails =
      list_any-append p (begins_again ts) (filter_map operation_again us ++ filter_map read_again rs)
      ∙ (ap (λ b. b || list_any p (filter_map operation_again us ++ filter_map read_again rs)) (begins_none p fails ts)
      ∙ list_any-append p (filter_map operation_again us) (filter_map read_again rs))

  no_commit_at : (u : ℕ) (q s : Bool) (l : ℕ) → commits u (begin_event q l s) ≡ false
  no_commit_at u true s l = refl
  no_commit_at u false s l = refl

  no_abort_at : (u : ℕ) (q s : Bool) (l : ℕ) → aborts u (begin_event q l s) ≡ false
  no_abort_at u true s l = refl
  no_abort_at u false s l = refl

  pub no_write_at : (u x : ℕ) (q s : Bool) (l : ℕ) → writes u x (begin_event q l s) ≡ false
  no_write_at u x true s l = refl
  no_write_at u x false s l = refl

  pub no_read_at : (u x : ℕ) (q s : Bool) (l : ℕ) → reads u x (begin_event q l s) ≡ false
  no_read_at u x true s l = refl
  no_read_at u x false s l = refl

  pub no_reads_at : (u : ℕ) (q s : Bool) (l : ℕ) → reads_any u (begin_event q l s) ≡ false
  no_reads_at u true s l = refl
  no_reads_at u false s l = refl

  pub none_committed : (ts : List ℕ) (us rs : List Event) (u : ℕ) → is_committed (events_again ts us rs) u ≡ false
  none_committed ts us rs u =
      any_parts (commits u) ts us rs (no_commit_at u)
      ∙ rw (
        any_empty operation_again (commits u) (operation_case (λ e f. commits u f ≡ false) (λ t x own. refl) (λ t x v own. refl)) us,
        any_empty read_again (commits u) (read_case (λ e f. commits u f ≡ false) (λ t x own. refl)) rs,
      ) refl

  pub none_aborted : (ts : List ℕ) (us rs : List Event) (u : ℕ) → is_aborted (events_again ts us rs) u ≡ false
  none_aborted ts us rs u =
      any_parts (aborts u) ts us rs (no_abort_at u)
      ∙ rw (
        any_empty operation_again (aborts u) (operation_case (λ e f. aborts u f ≡ false) (λ t x own. refl) (λ t x v own. refl)) us,
        any_empty read_again (aborts u) (read_case (λ e f. aborts u f ≡ false) (λ t x own. refl)) rs,
      ) refl

  -- the writes are those of active updates
  pub writes_again : (p : ℕ → Bool) (x : ℕ) (ts : List ℕ) (us rs : List Event)
      → filter_map (written p x) (events_again ts us rs) ≡ filter_map (written (λ s. runs s && p (new_number h s).0) x) us
  writes_again p x ts us rs =
      filter_map-append (written p x) (begins_again ts) (filter_map operation_again us ++ filter_map read_again rs)
      ∙ rw (
        begins_write p x ts,
        filter_map-append (written p x) (filter_map operation_again us) (filter_map read_again rs),
        all_none read_again (written p x) (read_case (λ e f. written p x f ≡ None) (λ t y own. refl)) rs,
      )
      (append_nil (filter_map (written p x) (filter_map operation_again us))
      ∙ compose operation_again (written p x) (written (λ s. runs s && p (new_number h s).0) x) lost
      (operation_case (λ e f. written (λ s. runs s && p (new_number h s).0) x e ≡ written p x f) (λ t y own. refl) (λ t y v own. rw own refl)) us)
    where
      append_nil : (bs : List ℤ) → bs ++ [] ≡ bs
      append_nil [] = refl
      append_nil (b ∷ bs) = ap (λ l. b ∷ l) (append_nil bs)

      lost : (e : Event) → operation_again e ≡ None → written (λ s. runs s && p (new_number h s).0) x e ≡ None
      lost (Write t y v) is = at (runs t.0) refl is
        where
          at : (b : Bool) → runs t.0 ≡ b → (if b then Some (Write (new_number h t.0) y v) else None) ≡ None → written (λ s. runs s && p (new_number h s).0) x (Write t y v) ≡ None
          at true own is' = absurd (cc)
          at false own is' = rw (own, and_false (y.0 == x)) refl
      lost (Read t y) is = refl
      lost (BeginUpdate l) is = refl
      lost (BeginQuery l s) is = refl
      lost (Commit t) is = refl
      lost (Abort t) is = refl

  -- An active transaction, by its new number.
  module _ (us rs : List Event) where
    abbrev pub again : List Event
    again = events_again (active_numbers h) us rs

    pub begun_as : (t : ℕ) → is_active (accepted_in h) t ≡ true → begin_record again (new_number h t).0 ≡ Some (begun_again t)
    begun_as t act =
        let place : ℕ = count_by (λ u. nat_lt u t) (active_numbers h) in
        ap (begin_record again) (add-one place)
        ∙ (ap (λ bs. slice_get bs place) (records (active_numbers h) us rs)
        ∙ (slice_get-map begun_again (active_numbers h) place ∙ ap (option_map begun_again) (at_place h t act)))
