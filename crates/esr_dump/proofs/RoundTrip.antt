-- The script of a history declares its items and requests its entries.
use Rattle.std.proofs.Common.{◌≡◌, ℕ, zero, suc, ◌+◌, ◌-◌, ◌<◌, ◌≤◌, ◌^◌, ℤ, List, [], ◌∷◌, ◌++◌, Bool, true, false, not, cond, nat_eq, nat_le, nat_lt, bytes_eq, Option, Some, None, is_some, inl, inr, refl, unsigned_abs, ◌∙◌, ap, ap₂, sym, subst, arith, length, get_or, map, filter, flat_map, slice_index_or, eqb, eqb-true, lt-ltb, append_assoc, append-nil, if◌then◌else◌, Result, Ok, Err, IfOk, option_map}
use Rattle.std.specs.List.{All, cons_option, filter_map, position_or_len, range_with_len}
use Rattle.std.proofs.lemmas.Bool.{true≢false, cases_Bool, not-false, not-true, leb-false, leb-true, ltb-false, and_parts, false_from_ne_true}
use Rattle.std.proofs.lemmas.Int.{ints}
use Rattle.std.proofs.lemmas.List.{map-append, length-append}
use Rattle.std.proofs.lemmas.List.Elements.{filter-append, filter_map-append}
use Rattle.std.proofs.lemmas.List.Sums.{position_or_len_is}
use Rattle.std.proofs.lemmas.Slice.Eq.{bytes_eq-Decides}
use Rattle.esr_items.specs.Values.{IsValue, is_value, value_at}
use Rattle.esr_items.specs.Weights.{weight_of, weighted, weight-upper_bound}
use Rattle.esr_base.specs.declared.numbers.ItemId.{ItemId}
use Rattle.esr_base.specs.declared.numbers.TxnId.{TxnId}
use Rattle.esr_history.specs.declared.event.Event.{Event}
use Rattle.esr_history.specs.declared.event.Event.TheVariants.{BeginUpdate, BeginQuery, Read, Write, Commit, Abort}
use Rattle.esr_history.specs.declared.event.Reply.{Reply}
use Rattle.esr_history.specs.declared.event.Reply.TheVariants.{Begun, Value, Wrote, Committed, Aborted, Refused}
use Rattle.esr_history.specs.declared.event.Refusal.{Refusal}
use Rattle.esr_history.specs.declared.event.Refusal.TheVariants.{NoSuchTransaction, AlreadyEnded, NoSuchItem, QueryMayNotWrite, ValueOutOfRange, LimitOutOfRange, TooManyTransactions}
use Rattle.esr_history.specs.declared.event.Entry.{Entry}
use Rattle.esr_history.specs.Events.{is_refusal, begin_record_of, begin_records, accepted, is_active, is_begun, is_query}
use Rattle.esr_history.specs.Machine.{DistanceFunction, Schedule, empty_schedule, accepted_in, extended, when, first_reason, answered, reply_to, IsLegal, IsLegalAfter}
use Rattle.esr_history.proofs.LegalWellFormed.{begun_in_range, done-accepted, done-refused}
use Rattle.esr_grammar.specs.Command.{Command, IsName, IsCommand, IsInt}
use Rattle.esr_report.specs.Names.{position_of, all_distinct, name_of_transaction}
use Rattle.esr_dump.specs.Lines.{command_of, declaration, entry_text, is_kept, item_text, items_text, line_of, name_of_item, script}
use Rattle.esr_dump.specs.RoundTrip.{AreNames, RoundTrips, declared, declared_by, event_of, found_in, item_called, kept, transaction_called}
use Rattle.esr_dump.proofs.Feeds.{found_next}
use Rattle.esr_dump.proofs.Tables.{twice}

-- ---- a name is found at its position

itself : (name : List ℕ) → bytes_eq name name ≡ true
itself name = (bytes_eq-Decides name name).1 refl

pub own_place : (names : List (List ℕ)) (i : ℕ) → all_distinct names ≡ true → i < length names → position_of names (get_or names i []) ≡ Some i
own_place names i apart within =
    let name = get_or names i [] in
    let at : position_or_len (bytes_eq name) names ≡ i =
    position_or_len_is (bytes_eq name) names i [] (omega arith)
    (λ (k : ℕ) (l : k < i). false_from_ne_true (bytes_eq name (get_or names k [])) (λ same. true≢false (sym apart ∙ twice names k i [] l within same)))
    (λ l. itself name) in
    rw at (rw (lt-ltb i (length names) within) refl)

-- ---- lists

some_map : {X Y : Type 0} (f : X → Y) (xs : List X) → filter_map (λ x. Some (f x)) xs ≡ map f xs
some_map f [] = refl
some_map f (x ∷ xs) = ap (λ l. f x ∷ l) (some_map f xs)

abbrev no_one : (X Y : Type 0) → X → Option Y
no_one X Y x = None

none_map : (X Y : Type 0) (xs : List X) → filter_map (no_one X Y) xs ≡ []
none_map X Y [] = refl
none_map X Y (x ∷ xs) = none_map X Y xs

consed : {X : Type 0} (o : Option X) (xs ys : List X) → cons_option o (xs ++ ys) ≡ cons_option o xs ++ ys
consed None xs ys = refl
consed (Some x) xs ys = refl

pub accepted_both : (xs ys : List Entry) → accepted (xs ++ ys) ≡ accepted xs ++ accepted ys
accepted_both xs ys =
    let p : Entry → Bool = λ e. not (is_refusal e.reply) in
    ap (map (λ (e : Entry). e.event)) (filter-append p xs ys) ∙ map-append (λ (e : Entry). e.event) (filter p xs) (filter p ys)

pub fewer : (xs ys : List Entry) → length (begin_records (accepted xs)) ≤ length (begin_records (accepted (xs ++ ys)))
fewer xs ys =
    let all : begin_records (accepted (xs ++ ys)) ≡ begin_records (accepted xs) ++ begin_records (accepted ys) =
    ap begin_records (accepted_both xs ys) ∙ filter_map-append begin_record_of (accepted xs) (accepted ys) in
    omega (arith, ap length all ∙ length-append (begin_records (accepted xs)) (begin_records (accepted ys)))

-- ---- a kept entry passed every check whose refusals are not kept

pub passed : (b : Bool) (why : Refusal) (rs : List (Option Refusal)) (r : Reply) → is_kept (Refused why) ≡ false
    → is_kept (answered (first_reason (when b why ∷ rs)) r) ≡ true → (b ≡ false) × (is_kept (answered (first_reason rs) r) ≡ true)
passed true why rs r lost stays = absurd (true≢false (sym stays ∙ lost))
passed false why rs r lost stays = (refl, stays)

pub none_left : (b c : Bool) (v w : Refusal) (r : Reply) → b ≡ false → c ≡ false → answered (first_reason (when b v ∷ when c w ∷ [])) r ≡ r
none_left b c v w r bf cf = rw (bf, cf) refl

small : (v : ℤ) → is_value v ≡ true → IsInt v
small v is = omega (arith, ints, leb-true (unsigned_abs v) 1000000000000 is)

declaration_reads_back : (name : List ℕ) (v : ℤ) (w : ℕ) → IsName name → IsValue v → w ≤ 1000 → IsCommand (declaration name v w)
declaration_reads_back name v w named valued light = elim (cases_Bool (eqb w 1)) [
  | inl one ↦ rw one (named, omega (arith, ints, valued))
  | inr more ↦ rw more (named, omega (arith, ints, valued), omega (arith, light))
]

declaration_declares : (name : List ℕ) (v : ℤ) (w : ℕ) → declared_by (declaration name v w) ≡ Some (name, v, w)
declaration_declares name v w = elim (cases_Bool (eqb w 1)) [
  | inl one ↦ rw one (ap (λ (n : ℕ). Some (name, v, n)) (sym (eqb-true w 1 one)))
  | inr more ↦ rw more refl
]

declaration_requests : (items transactions : List (List ℕ)) (name : List ℕ) (v : ℤ) (w : ℕ) → event_of items transactions (declaration name v w) ≡ None
declaration_requests items transactions name v w = elim (cases_Bool (eqb w 1)) [
  | inl one ↦ rw one refl
  | inr more ↦ rw more refl
]

-- ---- an entry refused for another reason changed nothing

pub lost_refusal : (r : Reply) → is_kept r ≡ false → (why : Refusal) × (r ≡ Refused why)
lost_refusal (Refused why) lost = (why, refl)
lost_refusal _ lost = absurd (cc)

same_reply : (d : DistanceFunction) (x y : Schedule) (e : Event) → x.opening ≡ y.opening → x.weights ≡ y.weights → accepted_in x ≡ accepted_in y → reply_to d x e ≡ reply_to d y e
same_reply d x y (BeginUpdate limit) opens weights events = rw events refl
same_reply d x y (BeginQuery limit strict) opens weights events = rw events refl
same_reply d x y (Read t z) opens weights events = rw (opens, weights, events) refl
same_reply d x y (Write t z v) opens weights events = rw (opens, weights, events) refl
same_reply d x y (Commit t) opens weights events = rw events refl
same_reply d x y (Abort t) opens weights events = rw events refl

pub done_more : (x y : Schedule) (e : Event) (r : Reply) → accepted_in x ≡ accepted_in y → accepted_in (extended x e r) ≡ accepted_in (extended y e r)
done_more x y e r same =
    let one : List Entry = record { event = e; reply = r } ∷ [] in
    accepted_both x.entries one ∙ (ap (λ (es : List Event). es ++ accepted one) same ∙ sym (accepted_both y.entries one))

pub kept_legal : (d : DistanceFunction) (before g : Schedule) (later : List Entry) → IsLegalAfter d before later → before.opening ≡ g.opening → before.weights ≡ g.weights → accepted_in before ≡ accepted_in g
    → IsLegalAfter d g (filter (λ (e : Entry). is_kept e.reply) later)
kept_legal d before g [] legal opens weights events = tt
kept_legal d before g (e ∷ later) legal opens weights events = elim (cases_Bool (is_kept e.reply)) [
  | inl stays ↦
      let rest = kept_legal d (extended before e.event e.reply) (extended g e.event e.reply) later legal.1 opens weights (done_more before g e.event e.reply events) in
      subst (λ b. IsLegalAfter d g (cond b (e ∷ filter (λ (n : Entry). is_kept n.reply) later) (filter (λ (n : Entry). is_kept n.reply) later))) (sym stays)
      (legal.0 ∙ same_reply d before g e.event opens weights events, rest)
  | inr lost ↦
      let why = lost_refusal e.reply lost in
      let same : accepted_in (extended before e.event e.reply) ≡ accepted_in before = ap (λ (r : Reply). accepted_in (extended before e.event r)) why.1 ∙ done-refused before e.event why.0 in
      let rest = kept_legal d (extended before e.event e.reply) g later legal.1 opens weights (same ∙ events) in
      subst (λ b. IsLegalAfter d g (cond b (e ∷ filter (λ (n : Entry). is_kept n.reply) later) (filter (λ (n : Entry). is_kept n.reply) later))) (sym lost) rest
]

module _ (items transactions : List (List ℕ)) (h : Schedule) (names : AreNames items transactions h) (apart : all_distinct items ≡ true) (apart_too : all_distinct transactions ≡ true) where
  item_fact : (x : ItemId) → x.0 < length h.opening → IsName (name_of_item items x.0) × (item_called items (name_of_item items x.0) ≡ Some x)
  item_fact x within =
      let inside : x.0 < length items = omega (arith, within, names.all_items) in
      (names.items_spelled x.0 [] inside, rw (own_place items x.0 apart inside) refl)

  transaction_fact : (t : TxnId) → 1 ≤ t.0 → t.0 ≤ length (begin_records (accepted_in h))
      → IsName (name_of_transaction transactions t.0) × (transaction_called transactions (name_of_transaction transactions t.0) ≡ Some t)
  transaction_fact t first last =
      let inside : t.0 - 1 < length transactions = omega (arith, first, last, names.all_transactions) in
      let same : t.0 - 1 + 1 ≡ t.0 = omega (arith, first) in
      (names.transactions_spelled (t.0 - 1) [] inside, rw (own_place transactions (t.0 - 1) apart_too inside) (ap (λ (n : ℕ). Some (record { 0 = n })) same))

  module _ (before : Schedule) (opens : before.opening ≡ h.opening) (some : length (begin_records (accepted_in before)) ≤ length (begin_records (accepted_in h))) where
    begun_fact : (t : TxnId) → not (is_begun (accepted_in before) t.0) ≡ false
        → IsName (name_of_transaction transactions t.0) × (transaction_called transactions (name_of_transaction transactions t.0) ≡ Some t)
    begun_fact t begun =
        let n = begun_in_range (accepted_in before) t.0 (not-false (is_begun (accepted_in before) t.0) begun) in
        transaction_fact t n.0 (omega (arith, n.1, some))

    there : (x : ItemId) → nat_le (length before.opening) x.0 ≡ false → IsName (name_of_item items x.0) × (item_called items (name_of_item items x.0) ≡ Some x)
    there x is = item_fact x (omega (arith, leb-false (length before.opening) x.0 is, ap length opens))

    -- the command of a kept event has a text, and requests it
    abbrev pub Requests : Event → Reply → Type 0
    Requests e r = IsCommand (command_of items transactions r e) × (event_of items transactions (command_of items transactions r e) ≡ Some e)

    new_name : (e : Event) (r : Reply) (n : ℕ) → r ≡ Begun (record { 0 = n + 1 }) → n ≡ length (begin_records (accepted_in before)) → length (begin_records (accepted_in before ++ e ∷ [])) ≡ n + 1
        → length (begin_records (accepted_in (extended before e r))) ≤ length (begin_records (accepted_in h))
        → IsName (name_of_transaction transactions (n + 1))
    new_name e r n is count more count_within_max =
        let after : accepted_in (extended before e r) ≡ accepted_in before ++ e ∷ [] = done-accepted before e r (ap is_refusal is) in
        let number : TxnId = record { 0 = n + 1 } in
        (transaction_fact number (omega arith) (omega (arith, count_within_max, ap (λ (es : List Event). length (begin_records es)) after, more))).0

    pub begins : (e : Event) (b : _) → begin_record_of e ≡ Some b → length (begin_records (accepted_in before ++ e ∷ [])) ≡ length (begin_records (accepted_in before)) + 1
    begins e b is =
        ap length (filter_map-append begin_record_of (accepted_in before) (e ∷ []) ∙ ap (λ o. begin_records (accepted_in before) ++ cons_option o []) is)
        ∙ length-append (begin_records (accepted_in before)) (b ∷ [])

    -- a kept begin got the next number, whose name is valid, and its limit is in range
    pub begun_kept : (e : Event) (b : _) (limit : ℕ) (r : Reply) → begin_record_of e ≡ Some b
        → r ≡ answered (first_reason (when (nat_lt 1000000000000000000 limit) LimitOutOfRange ∷ when (nat_le 65535 (length (begin_records (accepted_in before)))) TooManyTransactions ∷ [])) (Begun (record { 0 = length (begin_records (accepted_in before)) + 1 }))
        → is_kept r ≡ true → length (begin_records (accepted_in (extended before e r))) ≤ length (begin_records (accepted_in h))
        → (r ≡ Begun (record { 0 = length (begin_records (accepted_in before)) + 1 })) × (IsName (name_of_transaction transactions (length (begin_records (accepted_in before)) + 1)) × (limit < 10 ^ 19))
    begun_kept e b limit r begins_so is stays count_within_max =
        let low = passed (nat_lt 1000000000000000000 limit) LimitOutOfRange _ _ refl (ap is_kept (sym is) ∙ stays) in
        let below_max = passed (nat_le 65535 (length (begin_records (accepted_in before)))) TooManyTransactions _ _ refl low.1 in
        let begun = is ∙ none_left _ _ LimitOutOfRange TooManyTransactions _ low.0 below_max.0 in
        let name = new_name e r (length (begin_records (accepted_in before))) begun refl (begins e b begins_so) count_within_max in
        (begun, (name, omega (arith, ltb-false 1000000000000000000 limit low.0)))

    pub asks : (e : Event) (r : Reply) → r ≡ reply_to weighted before e → is_kept r ≡ true
        → length (begin_records (accepted_in (extended before e r))) ≤ length (begin_records (accepted_in h)) → Requests e r
    asks (BeginUpdate limit) r is stays count_within_max =
        let kept = begun_kept (BeginUpdate limit) _ limit r refl is stays count_within_max in rw kept.0 (kept.1, refl)
    asks (BeginQuery limit true) r is stays count_within_max =
        let kept = begun_kept (BeginQuery limit true) _ limit r refl is stays count_within_max in rw kept.0 (kept.1, refl)
    asks (BeginQuery limit false) r is stays count_within_max =
        let kept = begun_kept (BeginQuery limit false) _ limit r refl is stays count_within_max in rw kept.0 (kept.1, refl)
    asks (Read t x) r is stays count_within_max =
        let a = passed (not (is_begun (accepted_in before) t.0)) NoSuchTransaction _ _ refl (ap is_kept (sym is) ∙ stays) in
        let b = passed (not (is_active (accepted_in before) t.0)) AlreadyEnded _ _ refl a.1 in
        let c = passed (nat_le (length before.opening) x.0) NoSuchItem _ _ refl b.1 in
        let tf = begun_fact t a.0 in let xf = there x c.0 in
        ((tf.0, xf.0), rw (tf.1, xf.1) refl)
    asks (Write t x v) r is stays count_within_max =
        let a = passed (not (is_begun (accepted_in before) t.0)) NoSuchTransaction _ _ refl (ap is_kept (sym is) ∙ stays) in
        let b = passed (not (is_active (accepted_in before) t.0)) AlreadyEnded _ _ refl a.1 in
        let c = passed (nat_le (length before.opening) x.0) NoSuchItem _ _ refl b.1 in
        let d = passed (is_query (accepted_in before) t.0) QueryMayNotWrite _ _ refl c.1 in
        let e = passed (not (is_value v)) ValueOutOfRange _ _ refl d.1 in
        let tf = begun_fact t a.0 in let xf = there x c.0 in
        ((tf.0, xf.0, small v (not-false (is_value v) e.0)), rw (tf.1, xf.1) refl)
    asks (Commit t) r is stays count_within_max =
        let a = passed (not (is_begun (accepted_in before) t.0)) NoSuchTransaction _ _ refl (ap is_kept (sym is) ∙ stays) in
        let tf = begun_fact t a.0 in
        (tf.0, rw tf.1 refl)
    asks (Abort t) r is stays count_within_max =
        let a = passed (not (is_begun (accepted_in before) t.0)) NoSuchTransaction _ _ refl (ap is_kept (sym is) ∙ stays) in
        let tf = begun_fact t a.0 in
        (tf.0, rw tf.1 refl)

  -- ---- the events of the lines of the entries

  module _ {X : Type 0} (of : Command → Option X) (q : Entry → Option X)
      (means : (before : Schedule) (e : Entry) → e.reply ≡ reply_to weighted before e.event → is_kept e.reply ≡ true → before.opening ≡ h.opening
      → length (begin_records (accepted_in before)) ≤ length (begin_records (accepted_in h)) → length (begin_records (accepted_in (extended before e.event e.reply))) ≤ length (begin_records (accepted_in h))
      → of (command_of items transactions e.reply e.event) ≡ q e) where
    entries_found : (before : Schedule) (later : List Entry) → IsLegalAfter weighted before later → before.opening ≡ h.opening
        → length (begin_records (accepted (before.entries ++ later))) ≤ length (begin_records (accepted_in h))
        → found_in of (flat_map (entry_text items transactions) later) ≡ filter_map q (filter (λ (e : Entry). is_kept e.reply) later)
    entries_found before [] legal opens count_within_max = refl
    entries_found before (e ∷ later) legal opens count_within_max =
        let next : Schedule = extended before e.event e.reply in
        let joined_up : next.entries ++ later ≡ before.entries ++ e ∷ later = append_assoc before.entries (e ∷ []) later in
        let bounded_next : length (begin_records (accepted (next.entries ++ later))) ≤ length (begin_records (accepted_in h)) =
        subst (λ (es : List Entry). length (begin_records (accepted es)) ≤ length (begin_records (accepted_in h))) (sym joined_up) count_within_max in
        let bounded_before : length (begin_records (accepted_in before)) ≤ length (begin_records (accepted_in h)) = omega (arith, count_within_max, fewer before.entries (e ∷ later)) in
        let bounded_after : length (begin_records (accepted_in next)) ≤ length (begin_records (accepted_in h)) = omega (arith, bounded_next, fewer next.entries later) in
        let rest = entries_found next later legal.1 opens bounded_next in
        elim (cases_Bool (is_kept e.reply)) [
          | inl stays ↦
              let c = command_of items transactions e.reply e.event in
              let described : IsCommand c = (asks before opens bounded_before e.event e.reply legal.0 stays bounded_after).0 in
              let line : entry_text items transactions e ≡ line_of c = rw stays refl in
              let own : of c ≡ q e = means before e legal.0 stays opens bounded_before bounded_after in
              ap (λ l. found_in of (l ++ flat_map (entry_text items transactions) later)) line
              ∙ (found_next of c (flat_map (entry_text items transactions) later) described
              ∙ (ap (λ o. cons_option o (found_in of (flat_map (entry_text items transactions) later))) own
              ∙ (ap (λ l. cons_option (q e) l) rest
              ∙ sym (ap (filter_map q) (ap (λ b. cond b (e ∷ filter (λ (n : Entry). is_kept n.reply) later) (filter (λ (n : Entry). is_kept n.reply) later)) stays)))))
          | inr lost ↦
              ap (λ b. found_in of (cond b (line_of (command_of items transactions e.reply e.event)) [] ++ flat_map (entry_text items transactions) later)) lost
              ∙ (rest ∙ sym (ap (filter_map q) (ap (λ b. cond b (e ∷ filter (λ (n : Entry). is_kept n.reply) later) (filter (λ (n : Entry). is_kept n.reply) later)) lost)))
        ]

  declares_none : (r : Reply) (e : Event) → declared_by (command_of items transactions r e) ≡ None
  declares_none r (BeginQuery limit true) = refl
  declares_none r (BeginQuery limit false) = refl
  declares_none r (BeginUpdate limit) = refl
  declares_none r (Read t x) = refl
  declares_none r (Write t x v) = refl
  declares_none r (Commit t) = refl
  declares_none r (Abort t) = refl

  -- ---- the declarations of the lines of the items

  pub item_reads_back : (x : ℕ) → x < length h.opening → IsValue (value_at h.opening x)
      → IsCommand (declaration (name_of_item items x) (value_at h.opening x) (weight_of h.weights x))
  item_reads_back x within valued =
      let name = (item_fact (record { 0 = x }) within).0 in
      let light : weight_of h.weights x ≤ 1000 = weight-upper_bound (slice_index_or h.weights x 1) in
      declaration_reads_back (name_of_item items x) (value_at h.opening x) (weight_of h.weights x) name valued light

  module _ {X : Type 0} (of : Command → Option X) (q : ℕ → Option X) (valued : All IsValue h.opening)
      (means : (x : ℕ) → of (declaration (name_of_item items x) (value_at h.opening x) (weight_of h.weights x)) ≡ q x) (rest : List ℕ) where
    items_found : (a k : ℕ) → a + k ≤ length h.opening
        → found_in of (flat_map (item_text items h) (range_with_len a k) ++ rest) ≡ filter_map q (range_with_len a k) ++ found_in of rest
    items_found a zero fits = refl
    items_found a (suc k) fits =
        let more = flat_map (item_text items h) (range_with_len (a + 1) k) in
        let described = item_reads_back a (omega arith) (valued a _ (omega arith)) in
        ap (found_in of) (append_assoc (item_text items h a) more rest)
        ∙ (found_next of (declaration (name_of_item items a) (value_at h.opening a) (weight_of h.weights a)) (more ++ rest) described
        ∙ (ap (λ o. cons_option o (found_in of (more ++ rest))) (means a)
        ∙ (ap (cons_option (q a)) (items_found (a + 1) k (omega arith)) ∙ consed (q a) (filter_map q (range_with_len (a + 1) k)) (found_in of rest))))

  pub round_trips : All IsValue h.opening → IsLegal weighted h → RoundTrips items transactions h (script items transactions h)
  round_trips valued legal =
      let n = length h.opening in
      let remainder = flat_map (entry_text items transactions) h.entries in
      let kept_entries = filter (λ (e : Entry). is_kept e.reply) h.entries in
      record {
        items_declared =
            items_found declared_by (λ x. Some (declared items h x)) valued (λ x. declaration_declares (name_of_item items x) (value_at h.opening x) (weight_of h.weights x)) remainder 0 n (omega arith)
            ∙ (ap₂ (λ (xs ys : List (List ℕ × ℤ × ℕ)). xs ++ ys) (some_map (declared items h) (range_with_len 0 n))
            (entries_found declared_by (λ e. None) (λ b e is stays opens count_within_max after. declares_none e.reply e.event) (empty_schedule h) h.entries legal refl (omega arith) ∙ none_map Entry (List ℕ × ℤ × ℕ) kept_entries)
            ∙ append-nil (map (declared items h) (range_with_len 0 n)));
        events_asked =
            items_found (event_of items transactions) (λ x. None) valued (λ x. declaration_requests items transactions (name_of_item items x) (value_at h.opening x) (weight_of h.weights x)) remainder 0 n (omega arith)
            ∙ (ap (λ l. l ++ found_in (event_of items transactions) remainder) (none_map ℕ Event (range_with_len 0 n))
            ∙ (entries_found (event_of items transactions) (λ e. Some e.event) (λ b e is stays opens count_within_max after. (asks b opens count_within_max e.event e.reply is stays after).1) (empty_schedule h) h.entries legal refl (omega arith)
            ∙ some_map (λ (e : Entry). e.event) kept_entries));
        same_answers = kept_legal weighted (empty_schedule h) (empty_schedule h) h.entries legal refl refl refl;
      }

-- a property of the text holds of the bytes
pub carried : {V E : Type 0} (bytes : V → List ℕ) (P : List ℕ → Type 0) (text : List ℕ) (r : Result V E) → IfOk r (λ v. bytes v ≡ text) → P text → IfOk r (λ v. P (bytes v))
carried bytes P text (Ok v) is p = subst P (sym is) p
carried bytes P text (Err e) is p = tt
