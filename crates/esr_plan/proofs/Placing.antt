-- The places of a block's begins, and the names in its calls, after one more call.
use Rattle.std.proofs.Common.{◌≡◌, ℕ, zero, suc, ◌+◌, ◌-◌, ◌<◌, ◌≤◌, inl, inr, List, [], ◌∷◌, ◌++◌, Bool, true, false, cond, nat_lt, length, take, get_or, Option, Some, None, refl, ap, sym, subst, ◌∙◌, arith, ltb-true, ltb-false, one-add, if◌then◌else◌, slice_get, option_map, unwrap_or, bytes_eq, IfSome}
use Rattle.std.specs.List.{position, position_or_len}
use Rattle.std.proofs.lemmas.Bool.Decides.{nat_tests}
use Rattle.std.proofs.lemmas.List.{take-append-le, take_all, take_more, get_or_append_left, get_or_at, length_push}
use Rattle.std.proofs.lemmas.Slice.Eq.{bytes_eq-Decides}
use Rattle.std.proofs.lemmas.Bool.{cases_Bool}
use Rattle.std.proofs.lemmas.Option.{cond_some, unwrap_or-slice_get}
use Rattle.esr_history.proofs.Ascending.{le_ltb, lt_ltb}
use Rattle.esr_report.specs.Names.{position_of}
use Rattle.esr_plan.specs.Plan.{new_name}
use Rattle.esr_plan.specs.Blocks.{begins}
use Rattle.esr_plan.specs.declared.call.Call.TheVariants.{Begin, Read, Write, Commit, Abort}
use Rattle.esr_plan.specs.Calls.{command_of, place_of, IsResolved, AreResolved, Call}
use Rattle.esr_plan.specs.Drafts.{place_since, ArePlaces}

-- ---- the first place that passes a test

one_more : (n m : ℕ) → nat_lt (1 + n) (1 + m) ≡ nat_lt n m
one_more n m = elim (cases_Bool (nat_lt n m)) [
  | inl t ↦ grind (arith, nat_tests)
  | inr f ↦ grind (arith, nat_tests)
]

up : (b : Bool) (n : ℕ) → cond b (Some (1 + n)) None ≡ option_map suc (cond b (Some n) None)
up true n = ap Some (one-add n)
up false n = refl

zero_lt : (n : ℕ) → nat_lt 0 (suc n) ≡ true
zero_lt n = grind (arith, nat_tests)

abbrev or_last : Option ℕ → Bool → ℕ → Option ℕ
or_last (Some place) passes len = Some place
or_last None passes len = cond passes (Some len) None

or_last-up : (o : Option ℕ) (passes : Bool) (n : ℕ) → option_map suc (or_last o passes n) ≡ or_last (option_map suc o) passes (suc n)
or_last-up (Some place) passes n = refl
or_last-up None true n = refl
or_last-up None false n = refl

module _ {X : Type 0} (p : X → Bool) where
  at_head : (x : X) (xs : List X) → p x ≡ true → position p (x ∷ xs) ≡ Some 0
  at_head x xs t =
      let here : position_or_len p (x ∷ xs) ≡ 0 = rw t refl in
      ap (λ n. cond (nat_lt n (length (x ∷ xs))) (Some n) None) here ∙ ap (λ b. cond b (Some 0) None) (zero_lt (length xs))

  at_tail : (x : X) (xs : List X) → p x ≡ false → position p (x ∷ xs) ≡ option_map suc (position p xs)
  at_tail x xs f =
      let far : position_or_len p (x ∷ xs) ≡ 1 + position_or_len p xs = rw f refl in
      let len : length (x ∷ xs) ≡ 1 + length xs = omega arith in
      ap (λ n. cond (nat_lt n (length (x ∷ xs))) (Some n) None) far
      ∙ (ap (λ m. cond (nat_lt (1 + position_or_len p xs) m) (Some (1 + position_or_len p xs)) None) len
      ∙ (ap (λ b. cond b (Some (1 + position_or_len p xs)) None) (one_more (position_or_len p xs) (length xs)) ∙ up (nat_lt (position_or_len p xs) (length xs)) (position_or_len p xs)))

  pub position_push : (xs : List X) (y : X) → position p (xs ++ y ∷ []) ≡ or_last (position p xs) (p y) (length xs)
  position_push [] y = elim (cases_Bool (p y)) [
    | inl t ↦ at_head y [] t ∙ sym (ap (λ b. cond b (Some 0) None) t)
    | inr f ↦ at_tail y [] f ∙ sym (ap (λ b. cond b (Some 0) None) f)
  ]
  position_push (x ∷ xs) y = elim (cases_Bool (p x)) [
    | inl t ↦ at_head x (xs ++ y ∷ []) t ∙ ap (λ o. or_last o (p y) (length (x ∷ xs))) (sym (at_head x xs t))
    | inr f ↦
        at_tail x (xs ++ y ∷ []) f
        ∙ (ap (option_map suc) (position_push xs y)
        ∙ (or_last-up (position p xs) (p y) (length xs) ∙ ap (λ o. or_last o (p y) (length (x ∷ xs))) (sym (at_tail x xs f))))
  ]

-- ---- the places of the begins in the open block

none_is : (o : Option ℕ) (n : ℕ) → or_last o false n ≡ o
none_is (Some place) n = refl
none_is None n = refl

abbrev begins_by : List ℕ → Option (List ℕ) → Bool
begins_by name begun = elim begun [ Some other ↦ bytes_eq name other | None ↦ false ]

-- a call that begins nothing
place_kept : (calls : List Call) (call : Call) (name : List ℕ) → new_name (command_of call) ≡ None → place_of (calls ++ call ∷ []) name ≡ place_of calls name
place_kept calls call name plain =
    let silent : begins name (command_of call) ≡ false = ap (begins_by name) plain in
    position_push (λ c. begins name (command_of c)) calls call
    ∙ (ap (λ b. or_last (place_of calls name) b (length calls)) silent ∙ none_is (place_of calls name) (length calls))

pub places_kept : (calls : List Call) (call : Call) (earlier : ℕ) (places : List ℕ) (begun : List (List ℕ)) → new_name (command_of call) ≡ None
    → ArePlaces calls earlier places begun → ArePlaces (calls ++ call ∷ []) earlier places begun
places_kept calls call earlier places begun plain are name = place_kept calls call name plain ∙ are name

get_early : (places : List ℕ) (more : List ℕ) (k : ℕ) → k < length places → slice_get (places ++ more) k ≡ slice_get places k
get_early [] more k lt = absurd (omega (arith, lt))
get_early (x ∷ places) more zero lt = refl
get_early (x ∷ places) more (suc k) lt = get_early places more k (omega (arith, lt))

get_last : (places : List ℕ) (x k : ℕ) → k ≡ length places → slice_get (places ++ x ∷ []) k ≡ Some x
get_last [] x zero is = refl
get_last [] x (suc k) is = absurd (omega (arith, is))
get_last (y ∷ places) x zero is = absurd (omega (arith, is))
get_last (y ∷ places) x (suc k) is = get_last places x k (omega (arith, is))

within : (begun : List (List ℕ)) (name : List ℕ) (k : ℕ) → position_of begun name ≡ Some k → k < length begun
within begun name k is =
    let found = cond_some _ _ _ is in
    let lt : position_or_len (bytes_eq name) begun < length begun = ltb-true _ _ found.0 in
    omega (arith, lt, found.1)

-- a name that has a number is not the new one
other_name : (begun : List (List ℕ)) (n name : List ℕ) (k : ℕ) → position_of begun n ≡ Some k → position_of begun name ≡ None → bytes_eq n name ≡ false
other_name begun n name k at free = elim (cases_Bool (bytes_eq n name)) [
  | inl t ↦ let same : n ≡ name = (bytes_eq-Decides n name).0 t in let both : Some k ≡ None = sym at ∙ (ap (position_of begun) same ∙ free) in cc
  | inr f ↦ f
]

-- a call that begins a transaction
module _ (calls : List Call) (call : Call) (since : ℕ) (places : List ℕ) (begun : List (List ℕ)) (name : List ℕ) (are : ArePlaces calls since places begun) (every : length places ≡ length begun) (low : since ≤ length begun) (named : new_name (command_of call) ≡ Some name) (free : position_of begun name ≡ None) where
  abbrev grown : List ℕ
  grown = places ++ length calls ∷ []

  by_number : (n : List ℕ) (o : Option ℕ) → position_of begun n ≡ o → or_last (place_of calls n) (bytes_eq n name) (length calls) ≡ place_since since grown (or_last o (bytes_eq n name) (length begun))
  by_number n (Some k) at =
      let same : slice_get grown k ≡ slice_get places k = get_early places (length calls ∷ []) k (omega (arith, every, within begun n k at)) in
      ap (λ b. or_last (place_of calls n) b (length calls)) (other_name begun n name k at free)
      ∙ (none_is (place_of calls n) (length calls) ∙ (are n ∙ (ap (place_since since places) at ∙ sym (ap (λ o. if nat_lt k since then None else o) same))))
  by_number n None at =
      let none : place_of calls n ≡ None = are n ∙ ap (place_since since places) at in
      ap (λ o. or_last o (bytes_eq n name) (length calls)) none ∙ fresh (bytes_eq n name)
    where
      fresh : (b : Bool) → cond b (Some (length calls)) None ≡ place_since since grown (cond b (Some (length begun)) None)
      fresh true = sym (ap (λ b. if b then None else slice_get grown (length begun)) (le_ltb (length begun) since low) ∙ get_last places (length calls) (length begun) (sym every))
      fresh false = refl

  pub places_more : ArePlaces (calls ++ call ∷ []) since grown (begun ++ name ∷ [])
  places_more n =
      let here : begins n (command_of call) ≡ bytes_eq n name = ap (begins_by n) named in
      position_push (λ c. begins n (command_of c)) calls call
      ∙ (ap (λ b. or_last (place_of calls n) b (length calls)) here
      ∙ (by_number n (position_of begun n) refl ∙ ap (place_since since grown) (sym (position_push (bytes_eq n) begun name))))

-- a block that is opened
pub places_opened : (places : List ℕ) (begun : List (List ℕ)) (since : ℕ) → since ≡ length begun → ArePlaces [] since places begun
places_opened places begun since is name = sym (at (position_of begun name) refl)
  where
    at : (o : Option ℕ) → position_of begun name ≡ o → place_since since places o ≡ None
    at None found = refl
    at (Some k) found = ap (λ b. if b then None else slice_get places k) (lt_ltb k since (omega (arith, is, within begun name k found)))

-- ---- what the calls of a block name

pub resolved_none : (names : List (List ℕ)) → AreResolved names []
resolved_none names i c lt = absurd (omega (arith, lt))

-- one more call
pub resolved_more : (names : List (List ℕ)) (calls : List Call) (call : Call) → AreResolved names calls → IsResolved names calls call → AreResolved names (calls ++ call ∷ [])
resolved_more names calls call are is i c lt = elim (cases_Bool (nat_lt i (length calls))) [
  | inl t ↦
      let below : i < length calls = ltb-true _ _ t in
      subst (λ (l : List Call). IsResolved names l (get_or (calls ++ call ∷ []) i c)) (sym (take-append-le i calls (call ∷ []) (omega (arith, below))))
      (subst (λ (x : Call). IsResolved names (take i calls) x) (sym (get_or_append_left calls (call ∷ []) c i below)) (are i c below))
  | inr f ↦
      let len : length (calls ++ call ∷ []) ≡ length calls + 1 = length_push calls call in
      let above : length calls ≤ i = ltb-false _ _ f in
      let at : length calls ≡ i = omega (arith, lt, len, above) in
      subst (λ (l : List Call). IsResolved names l (get_or (calls ++ call ∷ []) i c)) (sym (take-append-le i calls (call ∷ []) (omega (arith, at)) ∙ take_all i calls (omega (arith, at))))
      (subst (λ (x : Call). IsResolved names calls x) (sym (get_or_at calls call [] c i at)) is)
]
