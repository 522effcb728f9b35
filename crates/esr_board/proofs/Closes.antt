-- Facts about a board that no thread shares any longer.
use Rattle.std.proofs.Common.{◌≡◌, ℕ, zero, suc, ◌+◌, ◌<◌, ◌≤◌, ◌≢◌, cond, eqb, leb, List, [], ◌∷◌, ◌++◌, map, length, get_or, set, sym, refl, ap, ◌∙◌, subst, ⊎_elim, arith, sum_by, All, flat_map, lt-ltb, le-ltb, length-append, slice_index}
use mathlib.Core.Option.{some, some-injective, some-ne-none}
use lib.ListN.{get_elem?}
use Rattle.std.proofs.lemmas.Bool.{cases_lt}
use Rattle.std.proofs.lemmas.List.Sums.{sum_by-cons, sum_by-append, sum_by_push}
use Rattle.atomic_table.specs.Table.{State, Me}
use Rattle.std.proofs.lemmas.List.Concat.{flat_map-cons}
use Rattle.esr_audit.proofs.Costs.{sum_mapped}
use Rattle.atomic_table.proofs.Lists.{at_set}
use Rattle.esr_board.specs.Claims.{times, below, EachOnceBelow, passes_of, IdleIsEmpty, IsFair, IsKept, IsBoardAt, joined, spent, BoardSize, Hand}
use Rattle.esr_board.specs.Boards.{hand_of, claimed, all_claimed, BoardSeat}
use Rattle.esr_board.proofs.Weights.{sum_set, ones, length-below, times-below-none, times-below-one}

module _ {X : Type 0} where
  -- P of each element, by `get_elem?`
  abbrev pub AllAt : (X → Type 0) → List X → Type 0
  AllAt P xs = (k : ℕ) (x : X) → get_elem? xs k ≡ some x → P x

  at_append : (P : X → Type 0) (xs ys : List X) → AllAt P xs → AllAt P ys → AllAt P (xs ++ ys)
  at_append P [] ys a b k z e = b k z e
  at_append P (x ∷ xs) ys a b zero z e = a zero z e
  at_append P (x ∷ xs) ys a b (suc k) z e = at_append P xs ys (λ j y. a (suc j) y) b k z e

  sum_zero : (f : X → ℕ) (xs : List X) → sum_by f xs ≡ 0 → AllAt (λ x. f x ≡ 0) xs
  sum_zero f [] h k z e = absurd (some-ne-none z (sym e))
  sum_zero f (x ∷ xs) h zero z e = let is : f x ≡ f z = ap f (some-injective x z e) in omega (arith, sum_by-cons f x xs)
  sum_zero f (x ∷ xs) h (suc k) z e = let none_left : sum_by f xs ≡ 0 = omega (arith, sum_by-cons f x xs) in sum_zero f xs none_left k z e

  zero_sum : (f : X → ℕ) (xs : List X) → AllAt (λ x. f x ≡ 0) xs → sum_by f xs ≡ 0
  zero_sum f [] a = refl
  zero_sum f (x ∷ xs) a = let h = a zero x refl in let t = zero_sum f xs (λ j y. a (suc j) y) in omega (arith, sum_by-cons f x xs)

pub sum_flat : {X : Type 0} (weight : ℕ → ℕ) (g : X → List ℕ) (xs : List X) → sum_by weight (flat_map g xs) ≡ sum_by (λ x. sum_by weight (g x)) xs
sum_flat weight g [] = refl
sum_flat weight g (x ∷ xs) = let r = sum_flat weight g xs in
    ap (sum_by weight) (flat_map-cons g x xs) ∙ (let a = sum_by-append weight (g x) (flat_map g xs) in omega (arith, sum_by-cons (λ y. sum_by weight (g y)) x xs))

at_map_of : (P : Hand → Type 0) (xs : List BoardSeat) → All (λ s. P (hand_of s)) xs → AllAt P (map hand_of xs)
at_map_of P [] a k h e = absurd (some-ne-none h (sym e))
at_map_of P (x ∷ xs) a zero h e = subst P (some-injective (hand_of x) h e) (a 0 x (omega arith))
at_map_of P (x ∷ xs) a (suc k) h e = at_map_of P xs (λ j d l. a (suc j) d (omega arith)) k h e

-- each seat has one pass, or used it up
pub each_one : (jobs : ℕ) (xs : List BoardSeat) → All (λ s. s.seat.me.0.jobs ≡ jobs) xs → All (λ s. passes_of jobs (hand_of s) ≡ 1) xs
each_one jobs xs a k d l = let s : BoardSeat = get_or xs k d in subst (λ (j : ℕ). passes_of j (hand_of s) ≡ 1) (a k d l) s.one_pass

pub sum_each_one : (jobs : ℕ) (xs : List BoardSeat) → All (λ s. passes_of jobs (hand_of s) ≡ 1) xs → sum_by (λ s. passes_of jobs (hand_of s)) xs ≡ length xs
sum_each_one jobs [] a = refl
sum_each_one jobs (x ∷ xs) a = let r = sum_each_one jobs xs (λ j d l. a (suc j) d (omega arith)) in let one = a 0 x (omega arith) in omega (arith, sum_by-cons (λ s. passes_of jobs (hand_of s)) x xs)

-- the hand that has all of the seats' numbers and passes, in their place
pub given_at : (jobs seats word : ℕ) (given : List BoardSeat) (views : List Hand) (id : ℕ) (v : Hand) → IsFair jobs seats word views → get_elem? views id ≡ some v
    → ((weight : ℕ → ℕ) → sum_by weight v.claimed ≡ sum_by (λ s. sum_by weight (claimed s)) given) → passes_of jobs v ≡ sum_by (λ s. passes_of jobs (hand_of s)) given
    → All (λ s. s.seat.me.0.jobs ≡ jobs) given → IsBoardAt jobs seats (map hand_of given) word
given_at jobs seats word given views id v r at numbers passes its = let kept : List Hand = set views id spent in let hands : List Hand = map hand_of given in (
  kept,
  (
    (λ weight.
        let change = sum_set (λ (h : Hand). sum_by weight h.claimed) views id v spent at in
        let two = sum_by-append (λ (h : Hand). sum_by weight h.claimed) hands kept in
        let mapped = sum_mapped (λ (h : Hand). sum_by weight h.claimed) hand_of given in
        let same = numbers weight in
        let was = r.0 weight in omega arith),
    (let change = sum_set (passes_of jobs) views id v spent at in
        let two = sum_by-append (passes_of jobs) hands kept in
        let mapped = sum_mapped (passes_of jobs) hand_of given in let was = r.1 in omega arith),
    at_append (λ h. passes_of jobs h ≡ 0 → h.claimed ≡ []) hands kept
        (at_map_of (λ h. passes_of jobs h ≡ 0 → h.claimed ≡ []) given (λ k d l none_left. let one = each_one jobs given its k d l in absurd (omega arith)))
        (λ j h there idle. ⊎_elim
        (λ (t : (j ≡ id) × (spent ≡ h)). ap (λ (z : Hand). z.claimed) (sym t.1))
        (λ (t : (j ≢ id) × (get_elem? views j ≡ some h)). r.2 j h t.1 idle)
        (at_set views id j spent h there)),
  ),
)

count_all : (given : List BoardSeat) → length (all_claimed given) ≡ sum_by (λ s. sum_by (λ _. 1) (claimed s)) given
count_all given = sym (ones (all_claimed given)) ∙ sum_flat (λ _. 1) claimed given

-- the number of claims of these seats and of the others is the word
count_parts : (jobs seats word : ℕ) (given : List BoardSeat) (st : IsBoardAt jobs seats (map hand_of given) word) → length (all_claimed given) + sum_by (λ (h : Hand). sum_by (λ _. 1) h.claimed) st.0 ≡ word
count_parts jobs seats word given st =
    grind (arith, sum_by-append, sum_by, map hand_of given, sum_mapped, count_all given, ones (below word), length-below word)

pub count_le : (jobs seats word : ℕ) (given : List BoardSeat) → IsBoardAt jobs seats (map hand_of given) word → length (all_claimed given) ≤ word
count_le jobs seats word given st = let p = count_parts jobs seats word given st in omega arith

empty_if : (weight : ℕ → ℕ) (xs : List ℕ) → sum_by (λ _. 1) xs ≡ 0 → sum_by weight xs ≡ 0
empty_if weight [] h = refl
empty_if weight (x ∷ xs) h = absurd (let p = sum_by-cons (λ (_ : ℕ). 1) x xs in omega arith)

-- if the counts agree, the seats have each number below the word once
pub once : (jobs seats word : ℕ) (given : List BoardSeat) → IsBoardAt jobs seats (map hand_of given) word → length (all_claimed given) ≡ word → EachOnceBelow word (all_claimed given)
once jobs seats word given st same n =
    let p = count_parts jobs seats word given st in
    let weight : ℕ → ℕ = λ m. cond {A = ℕ} (eqb m n) 1 0 in
    let others = zero_sum (λ (h : Hand). sum_by weight h.claimed) st.0 (λ k h e. empty_if weight h.claimed (sum_zero (λ (h : Hand). sum_by (λ _. 1) h.claimed) st.0 (omega arith) k h e)) in
    let two = sum_by-append (λ (h : Hand). sum_by weight h.claimed) (map hand_of given) st.0 in
    let mapped = sum_mapped (λ (h : Hand). sum_by weight h.claimed) hand_of given in
    let flat = sum_flat weight claimed given in
    let all = st.1.0 weight in
    let is : times n (all_claimed given) ≡ times n (below word) = omega arith in
    ⊎_elim (λ (l : n < word). is ∙ times-below-one n word l ∙ sym (ap (λ b. cond {A = ℕ} b 1 0) (lt-ltb n word l)))
    (λ (g : word ≤ n). is ∙ times-below-none n word g ∙ sym (ap (λ b. cond {A = ℕ} b 1 0) (le-ltb n word g)))
    (cases_lt n word)

-- a number is missing only if a seat is
pub missing : (jobs seats word : ℕ) (given : List BoardSeat) → IsBoardAt jobs seats (map hand_of given) word → All (λ s. s.seat.me.0.jobs ≡ jobs) given → length (all_claimed given) < word → length given < seats
missing jobs seats word given st its less = ⊎_elim (λ (l : length given < seats). l)
    (λ (g : seats ≤ length given).
    let two = sum_by-append (passes_of jobs) (map hand_of given) st.0 in
    let mapped = sum_mapped (passes_of jobs) hand_of given in
    let each = sum_each_one jobs given (each_one jobs given its) in
    let all = st.1.1 in
    let idle : sum_by (passes_of jobs) st.0 ≡ 0 = omega arith in
    let nothing = zero_sum (λ (h : Hand). sum_by (λ _. 1) h.claimed) st.0 (λ k h e.
    let none_claimed : h.claimed ≡ [] = at_end st k h e (sum_zero (passes_of jobs) st.0 idle k h e) in ap (sum_by (λ _. 1)) none_claimed) in
    let p = count_parts jobs seats word given st in absurd (omega arith))
    (cases_lt (length given) seats)
  where
    shift : (xs ys : List Hand) → IdleIsEmpty jobs (xs ++ ys) → IdleIsEmpty jobs ys
    shift [] ys a = a
    shift (x ∷ xs) ys a = shift xs ys (λ k. a (suc k))

    at_end : (t : IsBoardAt jobs seats (map hand_of given) word) → IdleIsEmpty jobs t.0
    at_end t = shift (map hand_of given) t.0 t.1.2

-- the state of the table when it is closed
pub settles : (size : BoardSize) (jobs seats word : ℕ) (words : List ℕ) (s : State (Unit {0}) Hand) → IsKept size s → size.jobs ≡ jobs → size.seats ≡ seats → s.words ≡ words → get_elem? words 0 ≡ some word → IsFair jobs seats word s.views
settles size jobs seats word words s st j k e at =
    let w : slice_index s.words 0 ≡ word = ap (λ l. slice_index l 0) e ∙ first words word at in
    subst (λ (z : ℕ × (ℕ × ℕ)). IsFair z.0 z.1.0 z.1.1 s.views) (λ i. (j i, (k i, w i))) st.3
  where
    first : (l : List ℕ) (n : ℕ) → get_elem? l 0 ≡ some n → slice_index l 0 ≡ n
    first [] n e = absurd (some-ne-none n (sym e))
    first (x ∷ xs) n e = some-injective x n e

module _ {X : Type 0} where
  pub popped : (f : X → ℕ) (old new : List X) (x : X) → old ≡ new ++ x ∷ [] → f x + sum_by f new ≡ sum_by f old
  popped f old new x e = let p = sum_by_push f new x in let q : sum_by f old ≡ sum_by f (new ++ x ∷ []) = ap (sum_by f) e in omega arith

  pub none_left : (f : X → ℕ) (n total : ℕ) (rest : List X) → rest ≡ [] → n + sum_by f rest ≡ total → n ≡ total
  none_left f n total rest e h = let z : sum_by f rest ≡ 0 = ap (sum_by f) e in omega arith

  all_parts : (P : X → Type 0) (new : List X) (x : X) → All P (new ++ x ∷ []) → All P new × P x
  all_parts P [] x a = ((λ k d l. absurd (omega arith)), a 0 x (omega arith))
  all_parts P (y ∷ ys) x a = let r = all_parts P ys x (λ k d l. a (suc k) d (omega arith)) in (front r.0, r.1)
    where
      front : All P ys → All P (y ∷ ys)
      front r zero d l = a 0 d (omega arith)
      front r (suc k) d l = r k d (omega arith)

  pub all_popped : (P : X → Type 0) (old new : List X) (x : X) → old ≡ new ++ x ∷ [] → All P old → All P new × P x
  all_popped P old new x e a = all_parts P new x (subst (All P) e a)

pub joined_numbers : (m m' : Me (Unit {0}) Hand) (k : Hand) → m' ≡ (joined m.0 k, m.1) → (weight : ℕ → ℕ) → sum_by weight m'.0.claimed ≡ sum_by weight m.0.claimed + sum_by weight k.claimed
joined_numbers m m' k e weight = ap (λ (z : Me (Unit {0}) Hand). sum_by weight z.0.claimed) e ∙ sum_by-append weight m.0.claimed k.claimed

pub joined_passes : (jobs : ℕ) (m m' : Me (Unit {0}) Hand) (k : Hand) → m' ≡ (joined m.0 k, m.1) → passes_of jobs m'.0 ≡ passes_of jobs m.0 + passes_of jobs k
joined_passes jobs m m' k e = let n = joined_numbers m m' k e (λ x. cond {A = ℕ} (leb jobs x) 1 0) in let p : m'.0.passes ≡ m.0.passes + k.passes = ap (λ (z : Me (Unit {0}) Hand). z.0.passes) e in omega arith

pub joined_count : (m m' : Me (Unit {0}) Hand) (k : Hand) → m' ≡ (joined m.0 k, m.1) → length m'.0.claimed ≡ length m.0.claimed + length k.claimed
joined_count m m' k e = ap (λ (z : Me (Unit {0}) Hand). length z.0.claimed) e ∙ length-append m.0.claimed k.claimed

-- the count by weights, back to the list
pub counted_all : (given : List BoardSeat) (xs : List ℕ) → ((weight : ℕ → ℕ) → sum_by weight xs ≡ sum_by (λ s. sum_by weight (claimed s)) given) → length xs ≡ length (all_claimed given)
counted_all given xs h = sym (ones xs) ∙ h (λ _. 1) ∙ sym (count_all given)
