-- The entries of a history that carries another, by the entries of that one.
use Rattle.std.proofs.Common.{◌≡◌, ℕ, Bool, true, false, not, cond, ◌||◌, List, [], ◌∷◌, ◌++◌, refl, sym, ◌∙◌, ap, subst, inl, Option, None, Some, if◌then◌else◌, map, filter, append-nil, append_assoc}
use Rattle.std.specs.List.{filter_map, cons_option}
use Rattle.std.proofs.lemmas.Bool.{true≢false, and_parts}
use Rattle.std.proofs.lemmas.List.{map-append}
use Rattle.std.proofs.lemmas.List.Elements.{filter-append, filter_map-append}
use Rattle.esr_history.specs.Events.{is_refusal, accepted, is_update, is_active, current_value}
use Rattle.esr_history.specs.Machine.{DistanceFunction, Schedule, accepted_in, empty_schedule, extended, reply_to, reasons, acceptance, answered, first_reason, IsLegal, IsLegalAfter}
use Rattle.esr_history.specs.Legal.{continued}
use Rattle.esr_history.specs.Operations.{Operation, operations, operations_in, operation_of}
use Rattle.esr_history.specs.ReportBounds.{is_active_query}
use Rattle.esr_history.proofs.Allowed.{NoneApplies}
use Rattle.esr_history.proofs.Fitting.{accepts}
use Rattle.esr_history.proofs.Laws.{operations-append}
use Rattle.esr_history.proofs.Locking.{Locked, locks}
use Rattle.esr_history.proofs.Membership.{In, Pairs, Pairs-across}
use Rattle.esr_history.proofs.Onward.{legal_parts}
use Rattle.esr_history.proofs.TraceAgreement.{trace, active_trace}
use Rattle.esr_history.proofs.TraceOfHistory.{legal_reached}
use Rattle.esr_history.proofs.Versions.{conflict_of}
use Rattle.esr_core.specs.Carried.{active_numbers, new_number, carried_begin, carried_operation, carried_read, carried_entries, carried}
use Rattle.esr_renewal.specs.Types.{Event, BeginUpdate, BeginQuery, Read, Write, Commit, Abort, Entry, Refusal, Value}
use Rattle.esr_renewal.proofs.Replayed.{runs, operation_again, read_again, begins_again, events_again}

pub accepted_parts : (xs ys : List Entry) → accepted (xs ++ ys) ≡ accepted xs ++ accepted ys
accepted_parts xs ys =
    ap (map (λ (e : Entry). e.event)) (filter-append (λ (e : Entry). not (is_refusal e.reply)) xs ys)
    ∙ map-append (λ (e : Entry). e.event) (filter (λ (e : Entry). not (is_refusal e.reply)) xs) (filter (λ (e : Entry). not (is_refusal e.reply)) ys)

pub accepted_first : (e : Entry) (es : List Entry) → is_refusal e.reply ≡ false → accepted (e ∷ es) ≡ e.event ∷ accepted es
accepted_first e es is = rw is refl

-- none of the reasons applies, so none is the first that does
pub first_none : (rs : List (Option Refusal)) → NoneApplies rs → first_reason rs ≡ None
first_none [] none = refl
first_none (None ∷ rs) none = first_none rs none.1
first_none (Some why ∷ rs) none = absurd (cc (none.0))

pub accepted_reply : (d : DistanceFunction) (h : Schedule) (e : Event) → NoneApplies (reasons d h e) → acceptance h e ≡ reply_to d h e
accepted_reply d h e none = ap (λ w. answered w (acceptance h e)) (sym (first_none (reasons d h e) none))

-- Legal histories, by parts.
module _ (d : DistanceFunction) where
  pub legal_append : (before : Schedule) (xs ys : List Entry) → IsLegalAfter d before xs → IsLegalAfter d (continued before xs) ys → IsLegalAfter d before (xs ++ ys)
  legal_append before [] ys first second = subst (λ (es : List Entry). IsLegalAfter d (record before { entries = es }) ys) (append-nil before.entries) second
  legal_append before (x ∷ xs) ys first second = (
    first.0,
    legal_append (extended before x.event x.reply) xs ys first.1
        (subst (λ (es : List Entry). IsLegalAfter d (record before { entries = es }) ys) (sym (append_assoc before.entries (x ∷ []) xs)) second),
  )

  pub legal_each : {X : Type 0} (f : X → Option Entry) (b : Schedule) (all : List X)
      → ((ys : List X) (x : X) (zs : List X) (e : Entry) → all ≡ ys ++ x ∷ zs → f x ≡ Some e → e.reply ≡ reply_to d (continued b (filter_map f ys)) e.event)
      → (ys zs : List X) → all ≡ ys ++ zs → IsLegalAfter d (continued b (filter_map f ys)) (filter_map f zs)
  legal_each f b all each ys [] is = tt
  legal_each {X} f b all each ys (x ∷ zs) is = at (f x) refl (legal_each f b all each (ys ++ x ∷ []) zs (is ∙ sym (append_assoc ys (x ∷ []) zs)))
    where
      at : (o : Option Entry) → f x ≡ o → IsLegalAfter d (continued b (filter_map f (ys ++ x ∷ []))) (filter_map f zs) → IsLegalAfter d (continued b (filter_map f ys)) (cons_option o (filter_map f zs))
      at None none rest =
          let same : filter_map f (ys ++ x ∷ []) ≡ filter_map f ys = filter_map-append f ys (x ∷ []) ∙ (ap (λ o. filter_map f ys ++ cons_option o []) none ∙ append-nil (filter_map f ys)) in
          subst (λ (es : List Entry). IsLegalAfter d (continued b es) (filter_map f zs)) same rest
      at (Some e) some rest =
          let more : b.entries ++ filter_map f (ys ++ x ∷ []) ≡ (b.entries ++ filter_map f ys) ++ e ∷ [] =
          ap (λ l. b.entries ++ l) (filter_map-append f ys (x ∷ []) ∙ ap (λ o. filter_map f ys ++ cons_option o []) some) ∙ sym (append_assoc b.entries (filter_map f ys) (e ∷ [])) in
          (each ys x zs e is some, subst (λ (es : List Entry). IsLegalAfter d (record b { entries = es }) (filter_map f zs)) more rest)

-- An accepted entry of a legal history, with those before it.
module _ (d : DistanceFunction) (h : Schedule) (legal : IsLegal d h) (before after : List Entry) (e : Entry) (split : h.entries ≡ before ++ e ∷ after) (ok : is_refusal e.reply ≡ false) where
  abbrev pub front : Schedule
  front = record h { entries = before }

  pub replied : e.reply ≡ reply_to d front e.event
  replied = (legal_parts d (empty_schedule h) before (e ∷ after) (subst (λ (es : List Entry). IsLegalAfter d (empty_schedule h) es) split legal)).1.0

  pub allowed : NoneApplies (reasons d front e.event)
  allowed = (accepts d front e.event e.reply replied ok).0

  pub accepted_as : e.reply ≡ acceptance front e.event
  accepted_as = replied ∙ sym (accepted_reply d front e.event allowed)

  pub events_split : accepted_in h ≡ accepted before ++ e.event ∷ accepted after
  events_split = ap accepted split ∙ (accepted_parts before (e ∷ after) ∙ ap (λ l. accepted before ++ l) (accepted_first e after ok))

  -- Two active updates have no conflicting operations.
  pub exclude : (o b : Operation) → operation_of e ≡ Some b → In o (operations_in before) → runs d h o.txn ≡ true → runs d h b.txn ≡ true → o.item ≡ b.item → (o.writes || b.writes) ≡ true → (o.txn ≡ b.txn → ⊥) → ⊥
  exclude o b is i first second item writes apart =
      let all : operations h ≡ operations_in before ++ b ∷ operations_in after =
      ap operations_in split ∙ (operations-append before (e ∷ after) ∙ ap (λ l. operations_in before ++ l) (rw ok (ap (λ p. cons_option p (operations_in after)) is))) in
      let pairs : Pairs (Locked (trace h)) (operations_in before ++ b ∷ operations_in after) = subst (Pairs (Locked (trace h))) all (locks (legal_reached d h legal)) in
      let p = and_parts (is_update (accepted_in h) o.txn) (is_active (accepted_in h) o.txn) first in
      let q = and_parts (is_update (accepted_in h) b.txn) (is_active (accepted_in h) b.txn) second in
      let ended = Pairs-across (Locked (trace h)) (operations_in before) (b ∷ operations_in after) o b pairs i (inl refl) (conflict_of o b apart item writes) p.0 q.0 in
      true≢false (sym ended ∙ (active_trace h o.txn p.1).open_ended)

module _ (d : DistanceFunction) (h : Schedule) where
  -- what each active number and each entry yields
  abbrev pub begin_entry : ℕ → Option Entry
  begin_entry t = Some (carried_begin d h t)

  abbrev pub operation_entry : Entry → Option Entry
  operation_entry e = if is_refusal e.reply then None else carried_operation h e.reply e.event

  abbrev pub read_entry : Entry → Option Entry
  read_entry e = if is_refusal e.reply then None else carried_read h e.event

  begins_as : (ts : List ℕ) → map (carried_begin d h) ts ≡ filter_map begin_entry ts
  begins_as [] = refl
  begins_as (t ∷ ts) = ap (λ es. carried_begin d h t ∷ es) (begins_as ts)

  operations_as : (es : List Entry) → filter_map (λ (e : Entry). carried_operation h e.reply e.event) (filter (λ (e : Entry). not (is_refusal e.reply)) es) ≡ filter_map operation_entry es
  operations_as [] = refl
  operations_as (e ∷ es) = at (is_refusal e.reply) (operations_as es)
    where
      at : (b : Bool) → filter_map (λ (e : Entry). carried_operation h e.reply e.event) (filter (λ (e : Entry). not (is_refusal e.reply)) es) ≡ filter_map operation_entry es
          → filter_map (λ (e : Entry). carried_operation h e.reply e.event) (cond (not b) (e ∷ filter (λ (e : Entry). not (is_refusal e.reply)) es) (filter (λ (e : Entry). not (is_refusal e.reply)) es))
          ≡ cons_option (if b then None else carried_operation h e.reply e.event) (filter_map operation_entry es)
      at true rest = rest
      at false rest = ap (cons_option (carried_operation h e.reply e.event)) rest

  reads_as : (es : List Entry) → filter_map (carried_read h) (accepted es) ≡ filter_map read_entry es
  reads_as [] = refl
  reads_as (e ∷ es) = at (is_refusal e.reply) (reads_as es)
    where
      at : (b : Bool) → filter_map (carried_read h) (accepted es) ≡ filter_map read_entry es
          → filter_map (carried_read h) (map (λ (e : Entry). e.event) (cond (not b) (e ∷ filter (λ (e : Entry). not (is_refusal e.reply)) es) (filter (λ (e : Entry). not (is_refusal e.reply)) es)))
          ≡ cons_option (if b then None else carried_read h e.event) (filter_map read_entry es)
      at true rest = rest
      at false rest = ap (cons_option (carried_read h e.event)) rest

  pub entries_as : carried_entries d h ≡ filter_map begin_entry (active_numbers h) ++ (filter_map operation_entry h.entries ++ filter_map read_entry h.entries)
  entries_as = rw (begins_as (active_numbers h), operations_as h.entries, reads_as h.entries) refl

  -- their events
  pub begins_accepted : (ts : List ℕ) → accepted (filter_map begin_entry ts) ≡ begins_again d h ts
  begins_accepted [] = refl
  begins_accepted (t ∷ ts) = ap (λ es. (carried_begin d h t).event ∷ es) (begins_accepted ts)

  pub operations_accepted : (es : List Entry) → accepted (filter_map operation_entry es) ≡ filter_map (operation_again d h) (accepted es)
  operations_accepted [] = refl
  operations_accepted (e ∷ es) = at (is_refusal e.reply) refl (operations_accepted es)
    where
      yielded : (v : Event) → is_refusal e.reply ≡ false → accepted (filter_map operation_entry es) ≡ filter_map (operation_again d h) (accepted es)
          → accepted (cons_option (carried_operation h e.reply v) (filter_map operation_entry es)) ≡ filter_map (operation_again d h) (v ∷ accepted es)
      yielded (Read t x) ok rest = own (runs d h t.0)
        where
          own : (b : Bool) → accepted (cons_option (if b then Some (record { event = Read (new_number h t.0) x; reply = e.reply }) else None) (filter_map operation_entry es))
              ≡ cons_option (if b then Some (Read (new_number h t.0) x) else None) (filter_map (operation_again d h) (accepted es))
          own true = accepted_first (record { event = Read (new_number h t.0) x; reply = e.reply }) (filter_map operation_entry es) ok ∙ ap (λ l. Read (new_number h t.0) x ∷ l) rest
          own false = rest
      yielded (Write t x v) ok rest = own (runs d h t.0)
        where
          own : (b : Bool) → accepted (cons_option (if b then Some (record { event = Write (new_number h t.0) x v; reply = e.reply }) else None) (filter_map operation_entry es))
              ≡ cons_option (if b then Some (Write (new_number h t.0) x v) else None) (filter_map (operation_again d h) (accepted es))
          own true = accepted_first (record { event = Write (new_number h t.0) x v; reply = e.reply }) (filter_map operation_entry es) ok ∙ ap (λ l. Write (new_number h t.0) x v ∷ l) rest
          own false = rest
      yielded (BeginUpdate l) ok rest = rest
      yielded (BeginQuery l s) ok rest = rest
      yielded (Commit t) ok rest = rest
      yielded (Abort t) ok rest = rest

      at : (b : Bool) → is_refusal e.reply ≡ b → accepted (filter_map operation_entry es) ≡ filter_map (operation_again d h) (accepted es)
          → accepted (filter_map operation_entry (e ∷ es)) ≡ filter_map (operation_again d h) (accepted (e ∷ es))
      at true is rest = rw is rest
      at false is rest = rw is (yielded e.event is rest)

  pub reads_accepted : (es : List Entry) → accepted (filter_map read_entry es) ≡ filter_map (read_again d h) (accepted es)
  reads_accepted [] = refl
  reads_accepted (e ∷ es) = at (is_refusal e.reply) refl (reads_accepted es)
    where
      yielded : (v : Event) → accepted (filter_map read_entry es) ≡ filter_map (read_again d h) (accepted es)
          → accepted (cons_option (carried_read h v) (filter_map read_entry es)) ≡ filter_map (read_again d h) (v ∷ accepted es)
      yielded (Read t x) rest = own (is_active_query h t.0)
        where
          own : (b : Bool) → accepted (cons_option (if b then Some (record { event = Read (new_number h t.0) x; reply = Value (current_value h.opening (accepted_in h) x.0) }) else None) (filter_map read_entry es))
              ≡ cons_option (if b then Some (Read (new_number h t.0) x) else None) (filter_map (read_again d h) (accepted es))
          own true = ap (λ l. Read (new_number h t.0) x ∷ l) rest
          own false = rest
      yielded (Write t x v) rest = rest
      yielded (BeginUpdate l) rest = rest
      yielded (BeginQuery l s) rest = rest
      yielded (Commit t) rest = rest
      yielded (Abort t) rest = rest

      at : (b : Bool) → is_refusal e.reply ≡ b → accepted (filter_map read_entry es) ≡ filter_map (read_again d h) (accepted es)
          → accepted (filter_map read_entry (e ∷ es)) ≡ filter_map (read_again d h) (accepted (e ∷ es))
      at true is rest = rw is rest
      at false is rest = rw is (yielded e.event rest)

  pub carried_events : accepted_in (carried d h) ≡ events_again d h (active_numbers h) (accepted_in h) (accepted_in h)
  carried_events =
      ap accepted entries_as
      ∙ (accepted_parts (filter_map begin_entry (active_numbers h)) (filter_map operation_entry h.entries ++ filter_map read_entry h.entries)
      ∙ rw (accepted_parts (filter_map operation_entry h.entries) (filter_map read_entry h.entries), begins_accepted (active_numbers h), operations_accepted h.entries, reads_accepted h.entries) refl)
