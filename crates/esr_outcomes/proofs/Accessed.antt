-- The values that updates leave.
use Rattle.std.proofs.Common.{◌≡◌, ℕ, zero, suc, ℤ, pos, ◌+◌, ◌<◌, ◌≤◌, Bool, true, false, ◌&&◌, eqb, cond, if◌then◌else◌, List, [], ◌∷◌, ◌++◌, length, get_or, set, take, map, filter, flat_map, refl, sym, ◌∙◌, ap, subst, arith, ⊎_elim, Option, Some, None, All, append-nil, get_or-set_same, get_or-set_other, length-set}
use Rattle.std.specs.List.{filter_map, cons_option, AllByRecursion}
use Rattle.std.proofs.lemmas.Bool.{cases_eq, cases_lt, eq-eqb, ne_eqb}
use Rattle.std.proofs.lemmas.Grind.{flat_map-append}
use Rattle.std.proofs.lemmas.List.{map-append, set_past, take_more}
use Rattle.std.proofs.lemmas.List.Elements.{filter_map-append, recursion_from_All, All-from_recursion}
use Rattle.esr_items.specs.Values.{value_at, IsValue}
use Rattle.esr_base.specs.declared.numbers.TxnId.{TxnId}
use Rattle.esr_history.specs.declared.event.Event.{Event}
use Rattle.esr_history.specs.declared.event.Event.TheVariants.{BeginUpdate, BeginQuery, Read, Write, Commit, Abort}
use Rattle.esr_history.specs.declared.event.Reply.{Reply}
use Rattle.esr_history.specs.declared.event.Entry.{Entry}
use Rattle.esr_history.specs.Events.{written, last_value}
use Rattle.esr_history.specs.Machine.{DistanceFunction, Schedule, IsLegal}
use Rattle.esr_history.specs.Operations.{Operation, operation_by, operation_of, operations}
use Rattle.esr_history.specs.Ranges.{IsWithinRanges}
use Rattle.esr_history.specs.Serial.{state, values_by}
use Rattle.esr_history.proofs.WithinRanges.{legal_within_ranges}
use Rattle.esr_order.proofs.Entries.{accepts}
use Rattle.esr_audit.proofs.ProblemRanges.{state_in_range}
use Rattle.esr_order.specs.declared.accesses.Access.{Access}
use Rattle.esr_order.specs.Scans.{access_of, accesses_in}
use Rattle.esr_outcomes.specs.ValuesAfter.{apply_access, apply_accesses}

abbrev pub by : ℕ → Operation → Bool
by t o = eqb o.txn t

-- the accesses of t among some operations
abbrev pub accesses_by : ℕ → List Operation → List Access
accesses_by t os = map access_of (filter (by t) os)

-- ---- values

-- the value that an access writes to item x
abbrev pub put_in : ℕ → Access → Option ℤ
put_in x a = if a.writes && (eqb a.item.0 x) then Some a.value else None

written_next : (x t : ℕ) (ev : Event) (r : Reply) (os : List Operation) (R : List ℤ) → filter_map (put_in x) (accesses_by t os) ≡ R
    → filter_map (put_in x) (accesses_by t (cons_option (operation_by ev r) os)) ≡ cons_option (written (λ u. eqb u t) x ev) R
written_next x t (BeginUpdate l) r os R rest = rest
written_next x t (BeginQuery l s) r os R rest = rest
written_next x t (Read u y) r os R rest = grind (arith, eqb u.0 t, map, cond, filter (by t) os)
written_next x t (Write u y v) r os R rest = grind (arith, eqb u.0 t, map, cond, filter (by t) os, eqb y.0 x)
written_next x t (Commit u) r os R rest = rest
written_next x t (Abort u) r os R rest = rest

written_by : (x t : ℕ) (es : List Entry) → filter_map (put_in x) (accesses_by t (filter_map operation_of es)) ≡ filter_map (written (λ u. eqb u t) x) (map (λ (e : Entry). e.event) es)
written_by x t [] = refl
written_by x t (e ∷ es) = written_next x t e.event e.reply (filter_map operation_of es) (filter_map (written (λ u. eqb u t) x) (map (λ (e : Entry). e.event) es)) (written_by x t es)

-- the values that t wrote to item x
pub values_put : (h : Schedule) (x t : ℕ) → filter_map (put_in x) (accesses_in h.entries t) ≡ values_by h x t
values_put h x t = written_by x t (filter accepts h.entries)

pub values_put_all : (h : Schedule) (x : ℕ) (us : List ℕ) → filter_map (put_in x) (flat_map (accesses_in h.entries) us) ≡ flat_map (values_by h x) us
values_put_all h x [] = refl
values_put_all h x (u ∷ us) =
    grind (arith, filter_map-append, flat_map (accesses_in h.entries) us, values_put h x u, values_put_all h x us)

pub put_length : (vs : List ℤ) (a : Access) → length (apply_access vs a) ≡ length vs
put_length vs a = grind (arith, set vs a.item.0 a.value, length-set)

pub put_all_length : (vs : List ℤ) (xs : List Access) → length (apply_accesses vs xs) ≡ length vs
put_all_length vs [] = refl
put_all_length vs (a ∷ xs) = put_all_length (apply_access vs a) xs ∙ put_length vs a

-- the value of item x after some accesses is the last that they write there
pub put_all_value : (xs : List Access) (vs : List ℤ) (x : ℕ) → x < length vs → value_at (apply_accesses vs xs) x ≡ last_value (value_at vs x) (filter_map (put_in x) xs)
put_all_value [] vs x l = refl
put_all_value (a ∷ xs) vs x l =
    let same : length (apply_access vs a) ≡ length vs = put_length vs a in
    put_all_value xs (apply_access vs a) x (omega (arith, same, l)) ∙ one a.writes a.item.0 a.value
  where
    R : List ℤ
    R = filter_map (put_in x) xs

    one : (w : Bool) (i : ℕ) (v : ℤ) → last_value (value_at (if w then set vs i v else vs) x) R ≡ last_value (value_at vs x) (cons_option (if w && (eqb i x) then Some v else None) R)
    one false i v = refl
    one true i v =
        grind (arith, ⊎_elim, set, get_or-set_same vs x v (pos 0) l, pos 0, eq-eqb, get_or-set_other, ne_eqb, cases_eq i x)

pub put_append : (vs : List ℤ) (xs bs : List Access) → apply_accesses vs (xs ++ bs) ≡ apply_accesses (apply_accesses vs xs) bs
put_append vs [] bs = refl
put_append vs (a ∷ xs) bs = put_append (apply_access vs a) xs bs

pub put_more : (vs : List ℤ) (xs : List Access) (k : ℕ) (d : Access) → k < length xs → apply_accesses vs (take (k + 1) xs) ≡ apply_access (apply_accesses vs (take k xs)) (get_or xs k d)
put_more vs xs k d l = ap (apply_accesses vs) (take_more xs k d l) ∙ put_append vs (take k xs) (get_or xs k d ∷ [])

-- the effect of one more update's accesses
pub put_update : (h : Schedule) (us : List TxnId) (k : ℕ) (d : TxnId) → k < length us
    → apply_accesses (apply_accesses h.opening (flat_map (accesses_in h.entries) (map (λ (t : TxnId). t.0) (take k us)))) (accesses_in h.entries (get_or us k d).0)
    ≡ apply_accesses h.opening (flat_map (accesses_in h.entries) (map (λ (t : TxnId). t.0) (take (k + 1) us)))
put_update h us k d l =
    let A : ℕ → List Access = accesses_in h.entries in let u : TxnId = get_or us k d in
    let before : List ℕ = map (λ (t : TxnId). t.0) (take k us) in
    sym (put_append h.opening (flat_map A before) (A u.0))
    ∙ ap (apply_accesses h.opening)
    (ap (λ l. flat_map A before ++ l) (sym (append-nil (A u.0)))
    ∙ (sym (flat_map-append A before (u.0 ∷ []))
    ∙ ap (flat_map A) (sym (map-append (λ (t : TxnId). t.0) (take k us) (u ∷ [])) ∙ ap (map (λ (t : TxnId). t.0)) (sym (take_more us k d l)))))

-- the effect of one more access
pub put_one : (vs : List ℤ) (a : Access) → a.writes ≡ true → set vs a.item.0 a.value ≡ apply_access vs a
put_one vs a w = sym (ap (λ (b : Bool). if b then set vs a.item.0 a.value else vs) w)

pub put_none : (vs : List ℤ) (a : Access) → (a.writes ≡ true → length vs ≤ a.item.0) → vs ≡ apply_access vs a
put_none vs a past = at a.writes refl
  where
    at : (w : Bool) → a.writes ≡ w → vs ≡ (if w then set vs a.item.0 a.value else vs)
    at true is = sym (set_past vs a.item.0 a.value (past is))
    at false is = refl

-- the values after some updates
pub left_by : (h : Schedule) (us : List ℕ) (x : ℕ) → x < length h.opening → value_at (apply_accesses h.opening (flat_map (accesses_in h.entries) us)) x ≡ state h us x
left_by h us x l = put_all_value (flat_map (accesses_in h.entries) us) h.opening x l ∙ ap (last_value (value_at h.opening x)) (values_put_all h x us)

-- ---- ranges

-- a value of one of n items
abbrev pub IsInside : ℕ → ℕ → ℤ → Type 0
IsInside n x v = IsValue v × (x < n)

inside_of : (n t : ℕ) (os : List Operation) → AllByRecursion (λ (o : Operation). IsInside n o.item o.value) os → AllByRecursion (λ (a : Access). IsInside n a.item.0 a.value) (accesses_by t os)
inside_of n t [] all = tt
inside_of n t (o ∷ os) all = at (eqb o.txn t) (inside_of n t os all.1)
  where
    at : (own : Bool) → AllByRecursion (λ (a : Access). IsInside n a.item.0 a.value) (accesses_by t os)
        → AllByRecursion (λ (a : Access). IsInside n a.item.0 a.value) (map access_of (cond own (o ∷ filter (by t) os) (filter (by t) os)))
    at true rest = (all.0, rest)
    at false rest = rest

both : {X : Type 0} (P Q : X → Type 0) (xs : List X) → AllByRecursion P xs → AllByRecursion Q xs → AllByRecursion (λ x. P x × Q x) xs
both P Q [] p q = tt
both P Q (x ∷ xs) p q = ((p.0, q.0), both P Q xs p.1 q.1)

module _ (d : DistanceFunction) (h : Schedule) (opened : All IsValue h.opening) (legal : IsLegal d h) where
  -- accesses are of values of items that there are
  pub accesses_inside : (t : ℕ) → AllByRecursion (λ (a : Access). IsInside (length h.opening) a.item.0 a.value) (accesses_in h.entries t)
  accesses_inside t =
      let range : IsWithinRanges h = legal_within_ranges d h opened legal in
      inside_of (length h.opening) t (operations h)
      (both (λ (o : Operation). IsValue o.value) (λ (o : Operation). o.item < length h.opening) (operations h)
      (recursion_from_All (λ (o : Operation). IsValue o.value) (operations h) range.values) (recursion_from_All (λ (o : Operation). o.item < length h.opening) (operations h) range.items))

  pub accesses_valued : (t : ℕ) → All (λ (a : Access). IsValue a.value) (accesses_in h.entries t)
  accesses_valued t = grind (arith, All-from_recursion, accesses_inside t)

  -- the values after updates are in range
  pub left_in_range : (us : List ℕ) (x : ℕ) → IsValue (value_at (apply_accesses h.opening (flat_map (accesses_in h.entries) us)) x)
  left_in_range us x = ⊎_elim
      (λ l. subst IsValue (sym (left_by h us x l)) (state_in_range h (legal_within_ranges d h opened legal) opened us x))
      (λ past.
      let long : length (apply_accesses h.opening (flat_map (accesses_in h.entries) us)) ≡ length h.opening = put_all_length h.opening (flat_map (accesses_in h.entries) us) in
      beyond (apply_accesses h.opening (flat_map (accesses_in h.entries) us)) x (omega (arith, long, past)))
      (cases_lt x (length h.opening))
    where
      beyond : (vs : List ℤ) (x : ℕ) → length vs ≤ x → IsValue (value_at vs x)
      beyond [] x l = omega arith
      beyond (v ∷ vs) zero l = absurd (omega (arith, l))
      beyond (v ∷ vs) (suc x) l = beyond vs x (omega (arith, l))
