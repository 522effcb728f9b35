-- The parts of a renewal that carries the active transactions over.
use Rattle.std.proofs.Common.{inl, subst, ◌≡◌, ℕ, ℤ, zero, suc, ◌+◌, ◌-◌, ◌<◌, ◌≤◌, Bool, true, false, not, cond, ◌==◌, nat_lt, nat_le, List, [], ◌∷◌, ◌++◌, take, drop, length, map, filter, sum_by, count_by, refl, sym, ◌∙◌, ap, arith, Option, None, Some, IfSome, slice_get, get_or, append-nil, if◌then◌else◌, append_assoc, add-one}
use Rattle.std.specs.List.{filter_map, cons_option, range_with_len}
use Rattle.std.proofs.lemmas.Bool.{leb-false}
use Rattle.std.proofs.lemmas.List.{map-append, length-map, map_more, get_or-map}
use Rattle.std.proofs.lemmas.List.Elements.{filter_map-append, filter-append}
use Rattle.std.proofs.lemmas.List.Sums.{sum_by-cons, sum_by-append, count_by-le-length, length-filter}
use Rattle.std.proofs.lemmas.List.FromFn.{length-range_with_len}
use Rattle.std.proofs.lemmas.Option.{same_Some}
use Rattle.std.proofs.Math.Seq.{take-length}
use Rattle.esr_base.specs.declared.numbers.TxnId.{TxnId}
use Rattle.esr_base.specs.declared.numbers.ItemId.{ItemId}
use Rattle.esr_items.specs.Weights.{weighted}
use Rattle.esr_history.specs.declared.event.Event.{Event}
use Rattle.esr_history.specs.declared.event.Event.TheVariants.{BeginUpdate, BeginQuery, Read, Write, Commit, Abort}
use Rattle.esr_history.specs.declared.event.Entry.{Entry}
use Rattle.esr_history.specs.declared.event.Refusal.TheVariants.{NoSuchItem}
use Rattle.esr_history.specs.BackLinks.{accepted_item}
use Rattle.esr_core.specs.States.{begin_event}
use Rattle.esr_history.specs.declared.event.Reply.{Reply}
use Rattle.esr_history.specs.declared.event.Reply.TheVariants.{Begun}
use Rattle.esr_history.specs.declared.event.BeginKind.{BeginKind}
use Rattle.esr_history.specs.declared.event.BeginKind.TheVariants.{Update, Query}
use Rattle.esr_history.specs.Queries.{is_strict}
use Rattle.esr_history.specs.Events.{accepted, begin_records, limit_of, is_active, is_query, is_refusal, txn_numbers, committed_value, current_value}
use Rattle.esr_history.specs.Machine.{Charge, DistanceFunction, IsLegal, Schedule, accepted_in, no_item, reasons, writer}
use Rattle.esr_history.specs.ReportBounds.{is_active_query}
use Rattle.esr_history.proofs.Charges.{range-push}
use Rattle.esr_history.proofs.Membership.{In, In-append_right, In-of_filter}
use Rattle.esr_history.proofs.Allowed.{NoneApplies, read_allowed, write_allowed}
use Rattle.esr_history.proofs.LegalWellFormed.{when_none}
use Rattle.esr_history.proofs.WithinRanges.{legal_begins}
use Rattle.esr_core.specs.Carried.{active_numbers, carried_begin, carried_entries, new_number, open_charges, settled}
use Rattle.esr_renewal.proofs.Amounts.{sum_same}
use Rattle.esr_renewal.proofs.CarriedEntries.{allowed, entries_as}
use Rattle.esr_renewal.proofs.OpenSums.{open_sum, imports_to, exports_of}
use Rattle.esr_renewal.proofs.Renumbered.{split_at}
use Rattle.esr_engine.proofs.ActiveOperations.{filtered, filtered_sum, no_amount, no_entry}
use Rattle.esr_engine.specs.Accounts.{charged_to}
use Rattle.esr_engine.specs.declared.carrying.ActiveTxn.{ActiveTxn}
use Rattle.esr_engine.specs.declared.carrying.CarriedTxn.{CarriedTxn}
use Rattle.esr_engine.specs.Carrying.{active_as, active_in, active_operations, amount_to, carried_as, carried_entry, carried_in, is_of_active, open_amount, open_of, operation_entry, read_entry, uncommitted_distance}

-- ---- lists

pub parts_at : {X : Type 0} (es : List X) (i : ℕ) (e : X) → slice_get es i ≡ Some e → es ≡ take i es ++ e ∷ drop (suc i) es
parts_at [] i e is = absurd (cc)
parts_at (x ∷ es) zero e is = ap (λ y. y ∷ es) (same_Some x e is)
parts_at (x ∷ es) (suc i) e is = ap (λ l. x ∷ l) (parts_at es i e is)

one_more : {X : Type 0} (es : List X) (i : ℕ) (e : X) → slice_get es i ≡ Some e → take (suc i) es ≡ take i es ++ e ∷ []
one_more [] i e is = absurd (cc)
one_more (x ∷ es) zero e is = ap (λ y. y ∷ []) (same_Some x e is)
one_more (x ∷ es) (suc i) e is = ap (λ l. x ∷ l) (one_more es i e is)

pub take_next : {X : Type 0} (es : List X) (i : ℕ) (e : X) → slice_get es i ≡ Some e → take (i + 1) es ≡ take i es ++ e ∷ []
take_next es i e is = ap (λ n. take n es) (add-one i) ∙ one_more es i e is

pub yields_next : {X Y : Type 0} (f : X → Option Y) (es : List X) (i : ℕ) (e : X) → slice_get es i ≡ Some e
    → filter_map f (take (i + 1) es) ≡ filter_map f (take i es) ++ cons_option (f e) []
yields_next f es i e is = ap (filter_map f) (take_next es i e is) ∙ filter_map-append f (take i es) (e ∷ [])

pub sum_next : {X : Type 0} (f : X → ℕ) (es : List X) (i : ℕ) (e : X) → slice_get es i ≡ Some e
    → sum_by f (take (i + 1) es) ≡ sum_by f (take i es) + f e
sum_next f es i e is =
    let a = sum_by-append f (take i es) (e ∷ []) in
    let b = sum_by-cons f e [] in
    ap (sum_by f) (take_next es i e is) ∙ omega (arith, a, b)

-- ---- entries

-- an accepted operation is on an item that exists
accepted_exists : (d : DistanceFunction) (h : Schedule) → IsLegal d h → (before after : List Entry) (e : Entry) → h.entries ≡ before ++ e ∷ after → IfSome (accepted_item e) (λ x. x < length h.opening)
accepted_exists d h legal before after e split = at (is_refusal e.reply) refl
  where
    below : (k : Schedule) (x : ℕ) → no_item k x ≡ None → x < length k.opening
    below k x none = leb-false (length k.opening) x (when_none (nat_le (length k.opening) x) NoSuchItem none)

    one : (v : Event) → NoneApplies (reasons d (record h { entries = before }) v) → IfSome (accepted_item (record { event = v; reply = e.reply })) (λ x. x < length h.opening)
    one v none = at (is_refusal e.reply) v none
      where
        at : (b : Bool) (v : Event) → NoneApplies (reasons d (record h { entries = before }) v)
            → IfSome (if b then None else Rattle.esr_history.specs.BackLinks.item_of v) (λ x. x < length h.opening)
        at true v none = tt
        at false (Read t x) none = below (record h { entries = before }) x.0 (read_allowed d (record h { entries = before }) t x none).item
        at false (Write t x v) none = below (record h { entries = before }) x.0 (write_allowed d (record h { entries = before }) t x v none).uncharged.item
        at false (BeginUpdate l) none = tt
        at false (BeginQuery l s) none = tt
        at false (Commit t) none = tt
        at false (Abort t) none = tt

    at : (b : Bool) → is_refusal e.reply ≡ b → IfSome (accepted_item e) (λ x. x < length h.opening)
    at true refused = rw refused tt
    at false ok = one e.event (allowed d h legal before after e split ok)

pub item_exists : (d : DistanceFunction) (h : Schedule) → IsLegal d h → (i : ℕ) (e : Entry) → slice_get h.entries i ≡ Some e → IfSome (accepted_item e) (λ x. x < length h.opening)
item_exists d h legal i e is = accepted_exists d h legal (take i h.entries) (drop (suc i) h.entries) e (parts_at h.entries i e is)

pub operation_exists : (d : DistanceFunction) (h : Schedule) → IsLegal d h → (operations : List Entry) → operations ≡ active_operations h → (i : ℕ) (e : Entry) → slice_get operations i ≡ Some e → IfSome (accepted_item e) (λ x. x < length h.opening)
operation_exists d h legal operations are i e is =
    let here : active_operations h ≡ take i (active_operations h) ++ e ∷ drop (suc i) (active_operations h) = parts_at (active_operations h) i e (ap (λ l. slice_get l i) (sym are) ∙ is) in
    let member : In e (active_operations h) = subst (In e) (sym here) (In-append_right (take i (active_operations h)) (e ∷ drop (suc i) (active_operations h)) e (inl refl)) in
    let split = split_at h.entries e (In-of_filter (is_of_active h) h.entries e member).0 in
    accepted_exists d h legal split.before split.after e split.is

-- ---- numbers

count_active : (h : Schedule) (t : ℕ) (us : List ℕ) → count_by (λ (a : ActiveTxn). nat_lt a.txn.0 t) (map (active_as h) us) ≡ count_by (λ u. nat_lt u t) us
count_active h t [] = refl
count_active h t (u ∷ us) =
    let a = sum_by-cons (λ (a : ActiveTxn). cond (nat_lt a.txn.0 t) 1 0) (active_as h u) (map (active_as h) us) in
    let b = sum_by-cons (λ u. cond (nat_lt u t) 1 0) u us in
    let rest = count_active h t us in
    omega (arith, a, b, rest)

few_active : (h : Schedule) → IsLegal weighted h → length (active_numbers h) ≤ 65535
few_active h legal =
    let a = length-filter (is_active (accepted_in h)) (txn_numbers (accepted_in h)) in
    let b = count_by-le-length (is_active (accepted_in h)) (txn_numbers (accepted_in h)) in
    let c = length-range_with_len 1 (length (begin_records (accepted_in h))) in
    let l = legal_begins weighted h legal in
    omega (arith, a, b, c, l)

pub record IsNumbered (h : Schedule) (t n : ℕ) : Type 0 where
  pub number : record { 0 = n + 1 } ≡ new_number h t
  pub bound : n ≤ 65535

pub numbered : (h : Schedule) → IsLegal weighted h → (active : List ActiveTxn) → active ≡ active_in h → (t n : ℕ) → n ≡ count_by (λ (a : ActiveTxn). nat_lt a.txn.0 t) active → IsNumbered h t n
numbered h legal active is t n count =
    let same : n ≡ count_by (λ u. nat_lt u t) (active_numbers h) = count ∙ (ap (count_by (λ (a : ActiveTxn). nat_lt a.txn.0 t)) is ∙ count_active h t (active_numbers h)) in
    let few = few_active h legal in
    let most = count_by-le-length (λ u. nat_lt u t) (active_numbers h) in
    record { number = ap (λ (k : ℕ). record { 0 = k + 1 }) same; bound = omega (arith, same, few, most) }

-- ---- amounts

pub distance_is : (h k m : Schedule) (w : List ℕ) (x : ℕ) (a b : ℤ) (n : ℕ) → n ≡ weighted w x a b → w ≡ k.weights → k ≡ h → m ≡ h
    → a ≡ current_value m.opening (accepted_in m) x → b ≡ committed_value m.opening (accepted_in m) x → n ≡ uncommitted_distance weighted h x
distance_is h k m w x a b n is weights first second current committed =
    is ∙ (ap (λ v. weighted v x a b) (weights ∙ ap (λ (s : Schedule). s.weights) first)
    ∙ (ap (λ v. weighted h.weights x v b) (current ∙ ap (λ (s : Schedule). current_value s.opening (accepted_in s) x) second)
    ∙ ap (λ v. weighted h.weights x (current_value h.opening (accepted_in h) x) v) (committed ∙ ap (λ (s : Schedule). committed_value s.opening (accepted_in s) x) second)))

pub one_amount : (query : Bool) (q u n t : ℕ) (b : Bool) → b ≡ (if query then q == t else u == t) → amount_to query (record { query = q; update = u; amount = n } ∷ []) t ≡ (if b then n else 0)
one_amount true q u n t b is = let a = sum_by-cons (λ (c : Charge). if c.query == t then c.amount else 0) (record { query = q; update = u; amount = n }) [] in rw is (omega (arith, a))
one_amount false q u n t b is = let a = sum_by-cons (λ (c : Charge). if c.update == t then c.amount else 0) (record { query = q; update = u; amount = n }) [] in rw is (omega (arith, a))

-- the amount of a read of an active query, by the update that has written its item
pub open_is : (h : Schedule) (query : Bool) (t : ℕ) (e : Entry) (q : TxnId) (x : ItemId) → is_refusal e.reply ≡ false → e.event ≡ Read q x → is_active_query h q.0 ≡ true
    → (u : ℕ) → writer (accepted_in h) x.0 ≡ Some u → (b : Bool) → b ≡ (if query then q.0 == t else u == t) → (if b then uncommitted_distance weighted h x.0 else 0) ≡ open_amount weighted h query t e
open_is h query t e q x ok event own u holder b is =
    sym (rw (ok, event, own, holder) (one_amount query q.0 u (uncommitted_distance weighted h x.0) t b is))

sum_accepted : (f : Event → ℕ) (es : List Entry) → sum_by f (accepted es) ≡ sum_by (λ (e : Entry). if is_refusal e.reply then 0 else f e.event) es
sum_accepted f [] = refl
sum_accepted f (e ∷ es) = at (is_refusal e.reply) (sum_accepted f es) ∙ sym (sum_by-cons (λ (e : Entry). if is_refusal e.reply then 0 else f e.event) e es)
  where
    at : (b : Bool) → sum_by f (accepted es) ≡ sum_by (λ (e : Entry). if is_refusal e.reply then 0 else f e.event) es
        → sum_by f (map (λ (e : Entry). e.event) (cond (not b) (e ∷ filter (λ (n : Entry). not (is_refusal n.reply)) es) (filter (λ (n : Entry). not (is_refusal n.reply)) es)))
        ≡ (if b then 0 else f e.event) + sum_by (λ (e : Entry). if is_refusal e.reply then 0 else f e.event) es
    at true rest = omega (arith, rest)
    at false rest = let a = sum_by-cons f e.event (accepted es) in omega (arith, a, rest)

module _ (h : Schedule) where
  same_open : (f : Charge → ℕ) (e : Event) → sum_by f (Rattle.esr_renewal.proofs.OpenSums.open_of weighted h e) ≡ sum_by f (open_of weighted h e)
  same_open f (Read q x) = refl
  same_open f (Write q x v) = refl
  same_open f (BeginUpdate l) = refl
  same_open f (BeginQuery l s) = refl
  same_open f (Commit q) = refl
  same_open f (Abort q) = refl

  open_total : (f : Charge → ℕ) → sum_by f (open_charges weighted h) ≡ sum_by (λ (e : Entry). if is_refusal e.reply then 0 else sum_by f (open_of weighted h e.event)) h.entries
  open_total f =
      open_sum weighted h f
      ∙ (sum_same (λ e. sum_by f (Rattle.esr_renewal.proofs.OpenSums.open_of weighted h e)) (λ e. sum_by f (open_of weighted h e)) (accepted_in h) (λ e i. same_open f e)
      ∙ sum_accepted (λ e. sum_by f (open_of weighted h e)) h.entries)

  pub settled_is : (query : Bool) (t : ℕ) → query ≡ is_query (accepted_in h) t → charged_to weighted h query t - sum_by (open_amount weighted h query t) h.entries ≡ settled weighted h t
  settled_is true t is = rw (← is) (ap (λ n. charged_to weighted h true t - n) (sym (open_total (imports_to weighted h t))))
  settled_is false t is = rw (← is) (ap (λ n. charged_to weighted h false t - n) (sym (open_total (exports_of weighted h t))))

  pub settled_end : (operations : List Entry) → operations ≡ active_operations h → (query : Bool) (t n s : ℕ)
      → s ≡ charged_to weighted h query t - sum_by (open_amount weighted h query t) (take n operations) → n ≡ length operations → query ≡ is_query (accepted_in h) t → s ≡ settled weighted h t
  settled_end operations are query t n s is all kind =
      is ∙ (ap (λ (es : List Entry). charged_to weighted h query t - sum_by (open_amount weighted h query t) es) (ap (λ k. take k operations) all ∙ (take-length operations ∙ are))
      ∙ (ap (λ k. charged_to weighted h query t - k) (filtered_sum (is_of_active h) (open_amount weighted h query t) (no_amount h query t) h.entries) ∙ settled_is query t kind))

  pub settled_next : (operations : List Entry) (query : Bool) (t i : ℕ) (e : Entry) (s r : ℕ) → slice_get operations i ≡ Some e
      → s ≡ charged_to weighted h query t - sum_by (open_amount weighted h query t) (take i operations)
      → r ≡ s - open_amount weighted h query t e → r ≡ charged_to weighted h query t - sum_by (open_amount weighted h query t) (take (i + 1) operations)
  settled_next operations query t i e s r at is next =
      let more = sum_next (open_amount weighted h query t) operations i e at in
      omega (arith, is, next, more)

-- ---- all entries

begins_as : {X Y : Type 0} (f : X → Y) (ts : List X) → map f ts ≡ filter_map (λ t. Some (f t)) ts
begins_as f [] = refl
begins_as f (t ∷ ts) = ap (λ l. f t ∷ l) (begins_as f ts)

all_entries : (h : Schedule) → (map (carried_begin weighted h) (active_numbers h) ++ filter_map (operation_entry h) h.entries) ++ filter_map (read_entry h) h.entries ≡ carried_entries weighted h
all_entries h =
    append_assoc (map (carried_begin weighted h) (active_numbers h)) (filter_map (operation_entry h) h.entries) (filter_map (read_entry h) h.entries)
    ∙ (ap (λ l. l ++ (filter_map (operation_entry h) h.entries ++ filter_map (read_entry h) h.entries)) (begins_as (carried_begin weighted h) (active_numbers h))
    ∙ sym (entries_as weighted h))

pub entries_are : (h : Schedule) (operations : List Entry) → operations ≡ active_operations h
    → (map (carried_begin weighted h) (active_numbers h) ++ filter_map (carried_entry h Update) operations) ++ filter_map (carried_entry h Query) operations ≡ carried_entries weighted h
entries_are h operations are =
    ap (λ l. (map (carried_begin weighted h) (active_numbers h) ++ l) ++ filter_map (carried_entry h Query) operations) (of_kind Update)
    ∙ (ap (λ l. (map (carried_begin weighted h) (active_numbers h) ++ filter_map (carried_entry h Update) h.entries) ++ l) (of_kind Query)
    ∙ all_entries h)
  where
    of_kind : (kind : BeginKind) → filter_map (carried_entry h kind) operations ≡ filter_map (carried_entry h kind) h.entries
    of_kind kind = ap (filter_map (carried_entry h kind)) are ∙ filtered (is_of_active h) (carried_entry h kind) (no_entry h kind) h.entries

-- ---- the active transactions

active_more : (h : Schedule) (n : ℕ) → filter (is_active (accepted_in h)) (range_with_len 1 (n + 1)) ≡ filter (is_active (accepted_in h)) (range_with_len 1 n) ++ cond (is_active (accepted_in h) (1 + n)) ((1 + n) ∷ []) []
active_more h n = ap (filter (is_active (accepted_in h))) (range-push 1 n) ∙ filter-append (is_active (accepted_in h)) (range_with_len 1 n) ((1 + n) ∷ [])

pub active_push : (h : Schedule) (n : ℕ) → is_active (accepted_in h) (n + 1) ≡ true
    → map (active_as h) (filter (is_active (accepted_in h)) (range_with_len 1 (n + 1))) ≡ map (active_as h) (filter (is_active (accepted_in h)) (range_with_len 1 n)) ++ active_as h (n + 1) ∷ []
active_push h n act =
    let one : 1 + n ≡ n + 1 = omega arith in
    let act' : is_active (accepted_in h) (1 + n) ≡ true = ap (is_active (accepted_in h)) one ∙ act in
    ap (map (active_as h)) (active_more h n ∙ ap (λ b. filter (is_active (accepted_in h)) (range_with_len 1 n) ++ cond b ((1 + n) ∷ []) []) act')
    ∙ (map-append (active_as h) (filter (is_active (accepted_in h)) (range_with_len 1 n)) ((1 + n) ∷ [])
    ∙ ap (λ k. map (active_as h) (filter (is_active (accepted_in h)) (range_with_len 1 n)) ++ active_as h k ∷ []) one)

pub active_skip : (h : Schedule) (n : ℕ) → is_active (accepted_in h) (n + 1) ≡ false
    → map (active_as h) (filter (is_active (accepted_in h)) (range_with_len 1 (n + 1))) ≡ map (active_as h) (filter (is_active (accepted_in h)) (range_with_len 1 n))
active_skip h n act =
    let one : 1 + n ≡ n + 1 = omega arith in
    let act' : is_active (accepted_in h) (1 + n) ≡ false = ap (is_active (accepted_in h)) one ∙ act in
    ap (map (active_as h)) (active_more h n ∙ (ap (λ b. filter (is_active (accepted_in h)) (range_with_len 1 n) ++ cond b ((1 + n) ∷ []) []) act' ∙ append-nil (filter (is_active (accepted_in h)) (range_with_len 1 n))))

-- ---- the lists that are pushed

pub pushed : {X Y : Type 0} (f : X → Option Y) (es : List X) (i : ℕ) (e : X) (first old new : List Y) (y : Y) → slice_get es i ≡ Some e → Some y ≡ f e → old ≡ first ++ filter_map f (take i es) → new ≡ old ++ y ∷ []
    → new ≡ first ++ filter_map f (take (i + 1) es)
pushed f es i e first old new y at some is grown =
    grown ∙ (ap (λ l. l ++ y ∷ []) is ∙ (append_assoc first (filter_map f (take i es)) (y ∷ []) ∙ ap (λ l. first ++ l) (sym (yields_next f es i e at ∙ ap (λ o. filter_map f (take i es) ++ cons_option o []) (sym some)))))

pub passed : {X Y : Type 0} (f : X → Option Y) (es : List X) (i : ℕ) (e : X) (first old : List Y) → slice_get es i ≡ Some e → None ≡ f e → old ≡ first ++ filter_map f (take i es)
    → old ≡ first ++ filter_map f (take (i + 1) es)
passed f es i e first old at none is =
    is ∙ ap (λ l. first ++ l) (sym (yields_next f es i e at ∙ (ap (λ o. filter_map f (take i es) ++ cons_option o []) (sym none) ∙ append-nil (filter_map f (take i es)))))

abbrev pub no_active : ActiveTxn
no_active = record { txn = record { 0 = 0 }; query = false; limit = 0; strict = false }

abbrev pub no_carried : CarriedTxn
no_carried = record { old = record { 0 = 0 }; new = record { 0 = 0 }; settled = 0 }

module _ (h : Schedule) (active : List ActiveTxn) (is : active ≡ active_in h) (i : ℕ) (inside : i < length active) where
  below : i < length (active_numbers h)
  below = let a = ap length is in let b = length-map (active_numbers h) (active_as h) in omega (arith, a, b, inside)

  number : ℕ
  number = get_or (active_numbers h) i 0

  pub active_at : get_or active i no_active ≡ active_as h (get_or (active_numbers h) i 0)
  active_at = ap (λ l. get_or l i no_active) is ∙ get_or-map (active_as h) (active_numbers h) i 0 no_active below

  pub query_at : (get_or active i no_active).query ≡ is_query (accepted_in h) (get_or active i no_active).txn.0
  query_at = rw active_at refl

  pub carried_next : (old new : List CarriedTxn) (n : TxnId) (s : ℕ) → n ≡ new_number h (get_or active i no_active).txn.0 → s ≡ settled weighted h (get_or active i no_active).txn.0
      → old ≡ map (carried_as weighted h) (take i (active_numbers h)) → new ≡ old ++ record { old = (get_or active i no_active).txn; new = n; settled = s } ∷ []
      → new ≡ map (carried_as weighted h) (take (i + 1) (active_numbers h))
  carried_next old new n s by amount before grown =
      let t : ℕ = get_or (active_numbers h) i 0 in
      let number_is : n ≡ new_number h t = by ∙ ap (λ (a : ActiveTxn). new_number h a.txn.0) active_at in
      let settled_is : s ≡ settled weighted h t = amount ∙ ap (λ (a : ActiveTxn). settled weighted h a.txn.0) active_at in
      grown ∙ (ap (λ l. l ++ record { old = (get_or active i no_active).txn; new = n; settled = s } ∷ []) before
      ∙ (ap (λ (a : ActiveTxn). map (carried_as weighted h) (take i (active_numbers h)) ++ record { old = a.txn; new = n; settled = s } ∷ []) active_at
      ∙ (ap (λ (m : TxnId). map (carried_as weighted h) (take i (active_numbers h)) ++ record { old = record { 0 = t }; new = m; settled = s } ∷ []) number_is
      ∙ (ap (λ (m : ℕ). map (carried_as weighted h) (take i (active_numbers h)) ++ record { old = record { 0 = t }; new = new_number h t; settled = m } ∷ []) settled_is
      ∙ sym (map_more (carried_as weighted h) (active_numbers h) i 0 below)))))

  pub begin_next : (carried : List CarriedTxn) → carried ≡ carried_in weighted h → (old new : List Entry) (e : Entry)
      → e.event ≡ begin_event (get_or active i no_active).query ((get_or active i no_active).limit - (get_or carried i no_carried).settled) (get_or active i no_active).strict
      → e.reply ≡ Begun (get_or carried i no_carried).new
      → old ≡ map (carried_begin weighted h) (take i (active_numbers h)) → new ≡ old ++ e ∷ [] → new ≡ map (carried_begin weighted h) (take (i + 1) (active_numbers h))
  begin_next carried from old new e event reply before grown =
      let t : ℕ = get_or (active_numbers h) i 0 in
      let at : get_or carried i no_carried ≡ carried_as weighted h t = ap (λ l. get_or l i no_carried) from ∙ get_or-map (carried_as weighted h) (active_numbers h) i 0 no_carried below in
      let event_is : e.event ≡ (carried_begin weighted h t).event =
      event ∙ (ap (λ (a : ActiveTxn). begin_event a.query (a.limit - (get_or carried i no_carried).settled) a.strict) active_at
      ∙ ap (λ (c : CarriedTxn). begin_event (is_query (accepted_in h) t) (limit_of (accepted_in h) t - c.settled) (is_strict (accepted_in h) t)) at) in
      let reply_is : e.reply ≡ (carried_begin weighted h t).reply = reply ∙ ap (λ (c : CarriedTxn). Begun c.new) at in
      let same : e ≡ carried_begin weighted h t = ap (λ (v : Event). record { event = v; reply = e.reply }) event_is ∙ ap (λ (r : Reply). record { event = (carried_begin weighted h t).event; reply = r }) reply_is in
      grown ∙ (ap (λ l. l ++ e ∷ []) before ∙ (ap (λ x. map (carried_begin weighted h) (take i (active_numbers h)) ++ x ∷ []) same
      ∙ sym (map_more (carried_begin weighted h) (active_numbers h) i 0 below)))
