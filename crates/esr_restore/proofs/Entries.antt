-- The lines of the entries: each event that was accepted or blocked is executed again, and gets the same reply.
use Rattle.std.proofs.Common.{◌≡◌, ℕ, ◌+◌, ◌-◌, ◌*◌, ◌<◌, ◌≤◌, ℤ, pos, List, [], ◌∷◌, ◌++◌, Bool, true, false, not, cond, nat_le, ne_eqb, Option, Some, None, Ok, inl, inr, refl, ◌∙◌, ap, sym, subst, arith, length, get_or, take, filter, flat_map, append_assoc, append-nil}
use Rattle.std.specs.List.{cons_option}
use Rattle.std.proofs.Math.Path.{fun_ext}
use Rattle.std.proofs.lemmas.Bool.{cases_Bool, cases_lt, not-false, leb-false}
use Rattle.std.proofs.lemmas.List.{take_more, get_or_past, length-append}
use Rattle.std.proofs.lemmas.List.Elements.{filter_map-append}
use Rattle.std.proofs.lemmas.List.FromFn.{get_or-map-range_with_len, length-map-range_with_len}
use Rattle.esr_base.specs.declared.limits.TheConstants.{MAX_ENTRIES}
use Rattle.esr_base.specs.declared.numbers.ItemId.{ItemId}
use Rattle.esr_base.specs.declared.numbers.TxnId.{TxnId}
use Rattle.esr_items.specs.Values.{gap}
use Rattle.esr_items.specs.Weights.{weight_of, weight_or_one, weighted}
use Rattle.esr_history.specs.declared.event.Event.{Event}
use Rattle.esr_history.specs.declared.event.Event.TheVariants.{BeginUpdate, BeginQuery, Read, Write, Commit, Abort}
use Rattle.esr_history.specs.declared.event.Reply.{Reply}
use Rattle.esr_history.specs.declared.event.Reply.TheVariants.{Begun, Value, Wrote, Committed, Aborted, Refused}
use Rattle.esr_history.specs.declared.event.Refusal.{Refusal}
use Rattle.esr_history.specs.declared.event.Refusal.TheVariants.{NoSuchTransaction, AlreadyEnded, NoSuchItem}
use Rattle.esr_history.specs.declared.event.Entry.{Entry}
use Rattle.esr_history.specs.Events.{is_refusal, begin_record_of, begin_records, accepted, is_active, is_begun}
use Rattle.esr_history.specs.Machine.{Schedule, accepted_in, extended, first_reason, acceptance, answered, reply_to, reasons, refusal, IsLegalAfter}
use Rattle.esr_history.proofs.LegalWellFormed.{begun_in_range, done-accepted, done-refused}
use Rattle.esr_grammar.specs.Command.{Command, IsCommand}
use Rattle.esr_report.specs.Names.{position_of, is_bound, all_distinct, name_of_transaction}
use Rattle.esr_report.specs.Lines.{Named, reply_line}
use Rattle.esr_script.specs.Text.{ScriptState, ask, begin, bound, execute, item_called, transaction_called}
use Rattle.esr_dump.specs.Lines.{command_of, entry_text, is_kept, line_of, name_of_item, number_begun}
use Rattle.esr_dump.specs.RoundTrip.{AreNames}
use Rattle.esr_dump.proofs.RoundTrip as dumped
use Rattle.esr_restore.specs.Restores.{IsRunnable}
use Rattle.esr_restore.proofs.Prefixes.{bound_at, not_bound}
use Rattle.esr_restore.proofs.Steps.{Leads, leads_by_line, leads_nowhere, leads_on}
use Rattle.esr_restore.proofs.Items as declared

-- ---- replies depend on the opening values, the accepted events and the distance

by_distance : (x : Schedule) (e : Event) → reply_to weighted x e ≡ reply_to (λ ws. weighted x.weights) x e
by_distance x (BeginUpdate limit) = refl
by_distance x (BeginQuery limit strict) = refl
by_distance x (Read t z) = refl
by_distance x (Write t z v) = refl
by_distance x (Commit t) = refl
by_distance x (Abort t) = refl

by_events : (f : ℕ → ℤ → ℤ → ℕ) (x y : Schedule) (e : Event) → x.opening ≡ y.opening → accepted_in x ≡ accepted_in y → reply_to (λ ws. f) x e ≡ reply_to (λ ws. f) y e
by_events f x y (BeginUpdate limit) opens events = rw events refl
by_events f x y (BeginQuery limit strict) opens events = rw events refl
by_events f x y (Read t z) opens events = rw (opens, events) refl
by_events f x y (Write t z v) opens events = rw (opens, events) refl
by_events f x y (Commit t) opens events = rw events refl
by_events f x y (Abort t) opens events = rw events refl

same_reply : (x y : Schedule) (e : Event) → x.opening ≡ y.opening → weighted x.weights ≡ weighted y.weights → accepted_in x ≡ accepted_in y → reply_to weighted x e ≡ reply_to weighted y e
same_reply x y e opens distances events =
    by_distance x e ∙ ap (λ (f : ℕ → ℤ → ℤ → ℕ). reply_to (λ ws. f) x e) distances ∙ by_events (weighted y.weights) x y e opens events ∙ sym (by_distance y e)

-- ---- only an accepted begin binds a name

begins_none : (before : Schedule) (e : Event) (r : Reply) → is_refusal r ≡ false → begin_record_of e ≡ None → begin_records (accepted_in (extended before e r)) ≡ begin_records (accepted_in before)
begins_none before e r is none =
    ap begin_records (done-accepted before e r is) ∙ (filter_map-append begin_record_of (accepted_in before) (e ∷ [])
    ∙ (ap (λ (o : Option _). begin_records (accepted_in before) ++ cons_option o []) none ∙ append-nil (begin_records (accepted_in before))))

same_begins : (before : Schedule) (e : Event) (r : Reply) → begin_record_of e ≡ None → begin_records (accepted_in (extended before e r)) ≡ begin_records (accepted_in before)
same_begins before e (Refused why) none = ap begin_records (done-refused before e why)
same_begins before e (Begun t) none = begins_none before e (Begun t) refl none
same_begins before e (Value v) none = begins_none before e (Value v) refl none
same_begins before e Wrote none = begins_none before e Wrote refl none
same_begins before e Committed none = begins_none before e Committed refl none
same_begins before e Aborted none = begins_none before e Aborted refl none

binds_none : (names : List (List ℕ)) (name : List ℕ) (o : Option Refusal) (r : Reply) → bound names name r ≡ names → bound names name (answered o r) ≡ names
binds_none names name None r none = none
binds_none names name (Some why) r none = refl

none_bound : (names : List (List ℕ)) (name : List ℕ) (h : Schedule) (e : Event) → begin_record_of e ≡ None → bound names name (reply_to weighted h e) ≡ names
none_bound names name h (Read t x) none = binds_none names name (refusal weighted h (Read t x)) _ refl
none_bound names name h (Write t x v) none = binds_none names name (refusal weighted h (Write t x v)) _ refl
none_bound names name h (Commit t) none = binds_none names name (refusal weighted h (Commit t)) _ refl
none_bound names name h (Abort t) none = binds_none names name (refusal weighted h (Abort t)) _ refl
none_bound names name h (BeginUpdate limit) none = absurd (cc)
none_bound names name h (BeginQuery limit strict) none = absurd (cc)

module _ (items transactions : List (List ℕ)) (h : Schedule) (names : AreNames items transactions h) (distinct : all_distinct items ≡ true) (distinct_too : all_distinct transactions ≡ true) (fits : IsRunnable h) where
  abbrev weights : List ℕ
  weights = declared.first_weights items transactions h names distinct distinct_too fits (length h.opening)

  weight_is : (w : ℕ) → weight_or_one (weight_or_one w) ≡ weight_or_one w
  weight_is w = rw (declared.is_weight_one w) refl

  pub same_weight : (x : ℕ) → weight_of weights x ≡ weight_of h.weights x
  same_weight x = elim (cases_lt x (length h.opening)) [
    | inl below ↦ ap weight_or_one (get_or-map-range_with_len (weight_of h.weights) 0 (length h.opening) x x 1 (omega arith) (omega arith)) ∙ weight_is (get_or h.weights x 1)
    | inr past ↦
        ap weight_or_one (get_or_past weights x 1 (omega (arith, length-map-range_with_len (weight_of h.weights) 0 (length h.opening)))
        ∙ sym (get_or_past h.weights x 1 (omega (arith, fits.weights))))
  ]

  same_distance : weighted weights ≡ weighted h.weights
  same_distance =
      let by : (ℕ → ℕ) → ℕ → ℤ → ℤ → ℕ = λ f x a b. f x * gap a b in
      let same : (λ (x : ℕ). weight_of weights x) ≡ (λ (x : ℕ). weight_of h.weights x) = fun_ext same_weight in
      ap by same

  -- The state after the events before: by these names, and with the same accepted events.
  pub record IsAt (s : ScriptState) (before : Schedule) : Type 0 where
    pub items_are : s.items ≡ take (length h.opening) items
    pub opening_is : s.history.opening ≡ h.opening
    pub weights_are : s.history.weights ≡ weights
    pub events_are : accepted_in s.history ≡ accepted_in before
    pub transactions_are : s.transactions ≡ take (length (begin_records (accepted_in before))) transactions

  module _ (s : ScriptState) (before : Schedule) (at : IsAt s before) (opens : before.opening ≡ h.opening) (weighs : before.weights ≡ h.weights)
      (count_within_max : length (begin_records (accepted_in before)) ≤ length (begin_records (accepted_in h))) (room : length s.history.entries < MAX_ENTRIES) where
    reply_is : (e : Event) → reply_to weighted s.history e ≡ reply_to weighted before e
    reply_is e =
        same_reply s.history before e (at.opening_is ∙ sym opens) (ap weighted at.weights_are ∙ same_distance ∙ ap weighted (sym weighs)) at.events_are

    -- an event that the machine is given leads to this state
    abbrev next_to : List ℕ → Event → ScriptState
    next_to name e = record s {
      closed = true;
      transactions = bound s.transactions name (reply_to weighted before e);
      history = extended s.history e (reply_to weighted before e);
    }

    asked : (named : Named) (e : Event) → (text : List ℕ) × (ask s named e ≡ Ok (next_to named.txn e, text))
    asked named e = (
      reply_line (bound s.transactions named.txn (reply_to weighted before e)) named (reply_to weighted before e),
      rw (ne_eqb (length s.history.entries) MAX_ENTRIES (λ is. omega (arith, is, room)), reply_is e) refl,
    )

    -- after an event that is not a begin the same names are bound
    at_plain : (name : List ℕ) (e : Event) → begin_record_of e ≡ None → IsAt (next_to name e) (extended before e (reply_to weighted before e))
    at_plain name e none =
        let r : Reply = reply_to weighted before e in
        record {
          items_are = at.items_are;
          opening_is = at.opening_is;
          weights_are = at.weights_are;
          events_are = dumped.done_more s.history before e r at.events_are;
          transactions_are = none_bound s.transactions name before e none ∙ at.transactions_are
              ∙ ap (λ (m : List _). take (length m) transactions) (sym (same_begins before e r none));
        }

    -- a transaction that has begun is found by its name, and an item by its own
    found_transaction : (t : TxnId) → not (is_begun (accepted_in before) t.0) ≡ false → transaction_called s (name_of_transaction transactions t.0) ≡ t
    found_transaction t begun =
        let n = begun_in_range (accepted_in before) t.0 (not-false (is_begun (accepted_in before) t.0) begun) in
        let place : position_of s.transactions (name_of_transaction transactions t.0) ≡ Some (t.0 - 1) =
        ap (λ (bs : List (List ℕ)). position_of bs (name_of_transaction transactions t.0)) at.transactions_are
        ∙ bound_at transactions distinct_too (length (begin_records (accepted_in before))) (t.0 - 1) (omega (arith, n.0, n.1)) (omega (arith, count_within_max, names.all_transactions)) in
        let same : t.0 - 1 + 1 ≡ t.0 = omega (arith, n.0) in
        rw place (ap (λ (n : ℕ). record { 0 = n }) same)

    found_item : (x : ItemId) → nat_le (length before.opening) x.0 ≡ false → item_called s (name_of_item items x.0) ≡ x
    found_item x within =
        let inside : x.0 < length h.opening = omega (arith, leb-false (length before.opening) x.0 within, ap length opens) in
        let place : position_of s.items (name_of_item items x.0) ≡ Some x.0 =
        ap (λ (bs : List (List ℕ)). position_of bs (name_of_item items x.0)) at.items_are
        ∙ bound_at items distinct (length h.opening) x.0 inside names.all_items in
        rw place refl

    -- An event that is kept is executed by its command: the state is that after its reply.
    abbrev IsExecuted : Event → Type 0
    IsExecuted e =
        (next : ScriptState) × (text : List ℕ) × (execute s (command_of items transactions (reply_to weighted before e) e) ≡ Ok (next, text))
        × IsAt next (extended before e (reply_to weighted before e)) × (next.history ≡ extended s.history e (reply_to weighted before e))

    step_of_begin : (e : Event) (b : _) (limit : ℕ) → begin_record_of e ≡ Some b
        → reply_to weighted before e ≡ answered (first_reason (reasons weighted before (BeginUpdate limit))) (acceptance before (BeginUpdate limit))
        → is_kept (reply_to weighted before e) ≡ true → length (begin_records (accepted_in (extended before e (reply_to weighted before e)))) ≤ length (begin_records (accepted_in h))
        → (next : ScriptState) × (text : List ℕ) × (begin s (name_of_transaction transactions (number_begun (reply_to weighted before e))) e ≡ Ok (next, text))
        × IsAt next (extended before e (reply_to weighted before e)) × (next.history ≡ extended s.history e (reply_to weighted before e))
    step_of_begin e b limit begins is stays bounded_after =
        let m : ℕ = length (begin_records (accepted_in before)) in
        let r : Reply = reply_to weighted before e in
        let kept = dumped.begun_kept items transactions h names distinct distinct_too before opens count_within_max e b limit r begins is stays bounded_after in
        let accepted_now : accepted_in (extended before e r) ≡ accepted_in before ++ e ∷ [] = done-accepted before e r (ap is_refusal kept.0) in
        let count : length (begin_records (accepted_in (extended before e r))) ≡ m + 1 =
        ap (λ (es : List Event). length (begin_records es)) accepted_now ∙ dumped.begins items transactions h names distinct distinct_too before opens count_within_max e b begins in
        let inside : m < length transactions = omega (arith, count, bounded_after, names.all_transactions) in
        let number : number_begun r ≡ m + 1 = ap number_begun kept.0 in
        let name_is : name_of_transaction transactions (number_begun r) ≡ get_or transactions m [] = ap (λ (n : ℕ). get_or transactions n []) (omega (arith, number)) in
        let new : is_bound s.transactions (name_of_transaction transactions (number_begun r)) ≡ false =
        ap (λ (bs : List (List ℕ)). is_bound bs (name_of_transaction transactions (number_begun r))) at.transactions_are
        ∙ (ap (is_bound (take m transactions)) name_is ∙ not_bound transactions distinct_too m inside) in
        let asks = asked (record { txn = name_of_transaction transactions (number_begun r); item = []; value = pos 0 }) e in (
          next_to (name_of_transaction transactions (number_begun r)) e,
          asks.0,
          rw new asks.1,
          record {
            items_are = at.items_are;
            opening_is = at.opening_is;
            weights_are = at.weights_are;
            events_are = dumped.done_more s.history before e r at.events_are;
            transactions_are =
                ap (bound s.transactions (name_of_transaction transactions (number_begun r))) kept.0
                ∙ (ap (λ (bs : List (List ℕ)). bs ++ name_of_transaction transactions (number_begun r) ∷ []) at.transactions_are
                ∙ (ap (λ (n : List ℕ). take m transactions ++ n ∷ []) name_is ∙ (sym (take_more transactions m [] inside) ∙ ap (λ (n : ℕ). take n transactions) (sym count))));
          },
          refl,
        )

    step : (e : Event) → is_kept (reply_to weighted before e) ≡ true → length (begin_records (accepted_in (extended before e (reply_to weighted before e)))) ≤ length (begin_records (accepted_in h)) → IsExecuted e
    step (BeginUpdate limit) stays bounded_after = step_of_begin (BeginUpdate limit) _ limit refl refl stays bounded_after
    step (BeginQuery limit true) stays bounded_after = step_of_begin (BeginQuery limit true) _ limit refl refl stays bounded_after
    step (BeginQuery limit false) stays bounded_after = step_of_begin (BeginQuery limit false) _ limit refl refl stays bounded_after
    step (Read t x) stays bounded_after =
        let a = dumped.passed (not (is_begun (accepted_in before) t.0)) NoSuchTransaction _ _ refl stays in
        let b = dumped.passed (not (is_active (accepted_in before) t.0)) AlreadyEnded _ _ refl a.1 in
        let c = dumped.passed (nat_le (length before.opening) x.0) NoSuchItem _ _ refl b.1 in
        let name = name_of_transaction transactions t.0 in
        let asks = asked (record { txn = name; item = name_of_item items x.0; value = pos 0 }) (Read t x) in
        let named : Named = record { txn = name; item = name_of_item items x.0; value = pos 0 } in (
          next_to name (Read t x),
          asks.0,
          ap (λ (u : TxnId). ask s named (Read u (item_called s (name_of_item items x.0)))) (found_transaction t a.0) ∙ (ap (λ (y : ItemId). ask s named (Read t y)) (found_item x c.0) ∙ asks.1),
          at_plain name (Read t x) refl,
          refl,
        )
    step (Write t x v) stays bounded_after =
        let a = dumped.passed (not (is_begun (accepted_in before) t.0)) NoSuchTransaction _ _ refl stays in
        let b = dumped.passed (not (is_active (accepted_in before) t.0)) AlreadyEnded _ _ refl a.1 in
        let c = dumped.passed (nat_le (length before.opening) x.0) NoSuchItem _ _ refl b.1 in
        let name = name_of_transaction transactions t.0 in
        let asks = asked (record { txn = name; item = name_of_item items x.0; value = v }) (Write t x v) in
        let named : Named = record { txn = name; item = name_of_item items x.0; value = v } in (
          next_to name (Write t x v),
          asks.0,
          ap (λ (u : TxnId). ask s named (Write u (item_called s (name_of_item items x.0)) v)) (found_transaction t a.0) ∙ (ap (λ (y : ItemId). ask s named (Write t y v)) (found_item x c.0) ∙ asks.1),
          at_plain name (Write t x v) refl,
          refl,
        )
    step (Commit t) stays bounded_after =
        let a = dumped.passed (not (is_begun (accepted_in before) t.0)) NoSuchTransaction _ _ refl stays in
        let name = name_of_transaction transactions t.0 in
        let asks = asked (record { txn = name; item = []; value = pos 0 }) (Commit t) in
        let named : Named = record { txn = name; item = []; value = pos 0 } in
        (next_to name (Commit t), asks.0, ap (λ (u : TxnId). ask s named (Commit u)) (found_transaction t a.0) ∙ asks.1, at_plain name (Commit t) refl, refl)
    step (Abort t) stays bounded_after =
        let a = dumped.passed (not (is_begun (accepted_in before) t.0)) NoSuchTransaction _ _ refl stays in
        let name = name_of_transaction transactions t.0 in
        let asks = asked (record { txn = name; item = []; value = pos 0 }) (Abort t) in
        let named : Named = record { txn = name; item = []; value = pos 0 } in
        (next_to name (Abort t), asks.0, ap (λ (u : TxnId). ask s named (Abort u)) (found_transaction t a.0) ∙ asks.1, at_plain name (Abort t) refl, refl)

  -- The lines of the later entries lead to a state whose history gains those that are kept.
  pub record Ends (s : ScriptState) (later : List Entry) : Type 0 where
    pub next : ScriptState
    pub count : ℕ
    pub count_within_max : count ≤ length later
    pub leads : Leads s (flat_map (entry_text items transactions) later) count next
    pub history : next.history ≡ record s.history { entries = s.history.entries ++ filter (λ (e : Entry). is_kept e.reply) later }

  pub entries_run : (s : ScriptState) (before : Schedule) (later : List Entry) → IsAt s before → before.opening ≡ h.opening → before.weights ≡ h.weights → IsLegalAfter weighted before later
      → length (begin_records (accepted (before.entries ++ later))) ≤ length (begin_records (accepted_in h)) → length s.history.entries + length later ≤ MAX_ENTRIES
      → Ends s later
  entries_run s before [] at opens weighs legal count_within_max room = record {
    next = s;
    count = 0;
    count_within_max = omega arith;
    leads = leads_nowhere s;
    history = ap (λ (es : List Entry). record s.history { entries = es }) (sym (append-nil s.history.entries));
  }
  entries_run s before (e ∷ later) at opens weighs legal count_within_max room =
      let next : Schedule = extended before e.event e.reply in
      let more : List ℕ = flat_map (entry_text items transactions) later in
      let later_kept : List Entry = filter (λ (n : Entry). is_kept n.reply) later in
      let with_entries : List Entry → Schedule = λ es. record s.history { entries = es } in
      let joined : next.entries ++ later ≡ before.entries ++ e ∷ later = append_assoc before.entries (e ∷ []) later in
      let bounded_next : length (begin_records (accepted (next.entries ++ later))) ≤ length (begin_records (accepted_in h)) =
      subst (λ (es : List Entry). length (begin_records (accepted es)) ≤ length (begin_records (accepted_in h))) (sym joined) count_within_max in
      let bounded_before : length (begin_records (accepted_in before)) ≤ length (begin_records (accepted_in h)) = omega (arith, count_within_max, dumped.fewer before.entries (e ∷ later)) in
      let bounded_after : length (begin_records (accepted_in next)) ≤ length (begin_records (accepted_in h)) = omega (arith, bounded_next, dumped.fewer next.entries later) in
      elim (cases_Bool (is_kept e.reply)) [
        | inl stays ↦
            let replied : e.reply ≡ reply_to weighted before e.event = legal.0 in
            let does = step s before at opens weighs bounded_before (omega (arith, room)) e.event (ap is_kept (sym replied) ∙ stays)
            (subst (λ (o : Reply). length (begin_records (accepted_in (extended before e.event o))) ≤ length (begin_records (accepted_in h))) replied bounded_after) in
            let command : Command = command_of items transactions e.reply e.event in
            let spelled : IsCommand command = (dumped.asks items transactions h names distinct distinct_too before opens bounded_before e.event e.reply replied stays bounded_after).0 in
            let line : entry_text items transactions e ≡ line_of command = rw stays refl in
            let executes : execute s command ≡ Ok (does.0, does.1) = ap (λ (o : Reply). execute s (command_of items transactions o e.event)) replied ∙ does.2 in
            let history : does.0.history ≡ extended s.history e.event e.reply = does.4 ∙ ap (extended s.history e.event) (sym replied) in
            let entries : does.0.history.entries ≡ s.history.entries ++ e ∷ [] = ap (λ (g : Schedule). g.entries) history in
            let at_next : IsAt does.0 next = subst (λ (o : Reply). IsAt does.0 (extended before e.event o)) (sym replied) does.3 in
            let rest : Ends does.0 later = entries_run does.0 next later at_next opens weighs legal.1 bounded_next (omega (arith, room, ap length entries, length-append s.history.entries (e ∷ []))) in
            let gains : Schedule → Schedule = λ g. record g { entries = g.entries ++ later_kept } in
            let kept : (e ∷ later_kept) ≡ filter (λ (n : Entry). is_kept n.reply) (e ∷ later) = ap (λ (b : Bool). cond b (e ∷ later_kept) later_kept) (sym stays) in
            record {
              next = rest.next;
              count = 1 + rest.count;
              count_within_max = omega (arith, rest.count_within_max);
              leads = subst (λ (t : List ℕ). Leads s (t ++ more) (1 + rest.count) rest.next) (sym line)
                  (leads_on s does.0 rest.next (line_of command) more 1 rest.count (leads_by_line s does.0 command does.1 spelled executes) rest.leads);
              history = rest.history ∙ (ap gains history ∙ (ap with_entries (append_assoc s.history.entries (e ∷ []) later_kept) ∙ ap (λ (es : List Entry). with_entries (s.history.entries ++ es)) kept));
            }
        | inr lost ↦
            let why = dumped.lost_refusal e.reply lost in
            let same : accepted_in next ≡ accepted_in before = ap (λ (o : Reply). accepted_in (extended before e.event o)) why.1 ∙ done-refused before e.event why.0 in
            let at_next : IsAt s next = record {
              items_are = at.items_are;
              opening_is = at.opening_is;
              weights_are = at.weights_are;
              events_are = at.events_are ∙ sym same;
              transactions_are = at.transactions_are ∙ ap (λ (es : List Event). take (length (begin_records es)) transactions) (sym same);
            } in
            let rest : Ends s later = entries_run s next later at_next opens weighs legal.1 bounded_next (omega (arith, room)) in
            let line : [] ≡ entry_text items transactions e = ap (λ (b : Bool). cond b (line_of (command_of items transactions e.reply e.event)) []) (sym lost) in
            record {
              next = rest.next;
              count = rest.count;
              count_within_max = omega (arith, rest.count_within_max);
              leads = subst (λ (t : List ℕ). Leads s (t ++ more) rest.count rest.next) line rest.leads;
              history = rest.history ∙ ap (λ (b : Bool). with_entries (s.history.entries ++ cond b (e ∷ later_kept) later_kept)) (sym lost);
            }
      ]
