-- A backward walk along links visits the entries of a key.
use Rattle.std.proofs.Common.{◌≡◌, ℕ, zero, suc, ◌+◌, ◌<◌, Bool, true, false, List, [], ◌∷◌, ◌++◌, length, take, reverse, refl, sym, ◌∙◌, ap, subst, arith, Option, Some, None, append_assoc, append-nil, if◌then◌else◌, option_map, true≢false, eqb-true}
use Rattle.std.specs.List.{last_or, slice_get}
use Rattle.std.proofs.lemmas.Option.{same_Some}
use Rattle.std.proofs.lemmas.List.{reverse-append}
use Rattle.esr_history.specs.declared.event.Entry.{Entry}
use Rattle.esr_history.specs.Events.{is_refusal}
use Rattle.esr_history.specs.BackLinks.{is_some_eq, places_from, last_place, last_of_key, earlier, earlier_at, coded}

last_somewhere : (x : ℕ) (xs : List ℕ) → (j : ℕ) × (last_or (Some x) xs ≡ Some j)
last_somewhere x [] = (x, refl)
last_somewhere x (y ∷ xs) = last_somewhere y xs

pub none_empty : (xs : List ℕ) → last_or None xs ≡ None → xs ≡ []
none_empty [] e = refl
none_empty (x ∷ xs) e = let w = last_somewhere x xs in let bad : Some w.0 ≡ None = sym w.1 ∙ e in absurd (cc)

-- the entry at the last place of a key, and the places before it
pub record Split (key : Entry → Option ℕ) (k n : ℕ) (es : List Entry) (j : ℕ) : Type 0 where
  pub entry : Entry
  pub at : slice_get es j ≡ Some entry
  pub has : is_some_eq (key entry) k ≡ true
  pub parts : places_from key k n es ≡ places_from key k n (take j es) ++ (n + j) ∷ []

split : (key : Entry → Option ℕ) (k n : ℕ) (es : List Entry) (i : ℕ) → last_or None (places_from key k n es) ≡ Some i → (j : ℕ) × (n + j ≡ i) × Split key k n es j
split key k n [] i is = absurd (cc)
split key k n (e ∷ es) i is = at (is_some_eq (key e) k) refl (last_or None (places_from key k (n + 1) es)) refl (split key k (n + 1) es)
  where
    later : (b : Bool) → is_some_eq (key e) k ≡ b → (j : ℕ) → Split key k (n + 1) es j → Split key k n (e ∷ es) (suc j)
    later b own j s = record {
      entry = s.entry;
      at = s.at;
      has = s.has;
      parts =
          let shift : n + 1 + j ≡ n + suc j = omega arith in
          ap (λ l. if is_some_eq (key e) k then n ∷ l else l) (s.parts ∙ ap (λ m. places_from key k (n + 1) (take j es) ++ m ∷ []) shift) ∙ join (is_some_eq (key e) k) (places_from key k (n + 1) (take j es)) (n + suc j);
    }
      where
        join : (b : Bool) (l : List ℕ) (m : ℕ) → (if b then n ∷ (l ++ m ∷ []) else (l ++ m ∷ [])) ≡ (if b then n ∷ l else l) ++ m ∷ []
        join true l m = refl
        join false l m = refl

    last_of_rest : (b : Bool) (rest : List ℕ) (j : ℕ) → last_or None rest ≡ Some j → last_or None (if b then n ∷ rest else rest) ≡ Some j
    last_of_rest true [] j r = absurd (cc)
    last_of_rest true (x ∷ rest) j r = r
    last_of_rest false rest j r = r

    at : (b : Bool) → is_some_eq (key e) k ≡ b → (o : Option ℕ) → last_or None (places_from key k (n + 1) es) ≡ o
        → ((i : ℕ) → last_or None (places_from key k (n + 1) es) ≡ Some i → (j : ℕ) × (n + 1 + j ≡ i) × Split key k (n + 1) es j)
        → (j : ℕ) × (n + j ≡ i) × Split key k n (e ∷ es) j
    at b own (Some m) some rest =
        let r = rest m some in
        let same : Some m ≡ Some i = sym (last_of_rest (is_some_eq (key e) k) (places_from key k (n + 1) es) m some) ∙ is in
        let mi : m ≡ i = same_Some m i same in
        let sum : n + 1 + r.0 ≡ m = r.1 in
        (suc r.0, omega (arith, sum, mi), later b own r.0 r.2)
    at true own None none rest =
        let empty : places_from key k (n + 1) es ≡ [] = none_empty (places_from key k (n + 1) es) none in
        let all : places_from key k n (e ∷ es) ≡ n ∷ [] = ap (λ b. if b then n ∷ places_from key k (n + 1) es else places_from key k (n + 1) es) own ∙ ap (λ l. n ∷ l) empty in
        let ni : Some n ≡ Some i = sym (ap (last_or None) all) ∙ is in
        let z : n + 0 ≡ n = omega arith in
        (0, z ∙ same_Some n i ni, record { entry = e; at = refl; has = own; parts = all ∙ ap (λ m. m ∷ []) (sym z) })
    at false own None none rest =
        let empty : places_from key k (n + 1) es ≡ [] = none_empty (places_from key k (n + 1) es) none in
        let all : places_from key k n (e ∷ es) ≡ [] = ap (λ b. if b then n ∷ places_from key k (n + 1) es else places_from key k (n + 1) es) own ∙ empty in
        let bad : None ≡ Some i = sym (ap (last_or None) all) ∙ is in
        absurd (cc)

pub split_at : (key : Entry → Option ℕ) (k : ℕ) (es : List Entry) (i : ℕ) → last_place key k es ≡ Some i → Split key k 0 es i
split_at key k es i is =
    let s = split key k 0 es i is in
    let z : 0 + s.0 ≡ s.0 = omega arith in
    subst (Split key k 0 es) (sym z ∙ s.1) s.2

pub get_inside : {X : Type 0} (xs : List X) (i : ℕ) (x : X) → slice_get xs i ≡ Some x → i < length xs
get_inside [] i x is = absurd (cc)
get_inside (y ∷ xs) zero x is = omega arith
get_inside (y ∷ xs) (suc i) x is = let l : i < length xs = get_inside xs i x is in omega arith

pub get_take : {X : Type 0} (xs : List X) (m i : ℕ) (x : X) → slice_get (take m xs) i ≡ Some x → (i < m) × (slice_get xs i ≡ Some x)
get_take [] zero i x is = absurd (cc)
get_take [] (suc m) i x is = absurd (cc)
get_take (y ∷ xs) zero i x is = absurd (cc)
get_take (y ∷ xs) (suc m) zero x is = (omega arith, is)
get_take (y ∷ xs) (suc m) (suc i) x is = let r = get_take xs m i x is in let l : i < m = r.0 in (omega arith, r.1)

take_take : {X : Type 0} (xs : List X) (i m : ℕ) → i < m → take i (take m xs) ≡ take i xs
take_take [] i zero l = absurd (omega arith)
take_take [] zero (suc m) l = refl
take_take [] (suc i) (suc m) l = refl
take_take (x ∷ xs) i zero l = absurd (omega arith)
take_take (x ∷ xs) zero (suc m) l = refl
take_take (x ∷ xs) (suc i) (suc m) l = ap (λ l. x ∷ l) (take_take xs i m (omega arith))

take_all : {X : Type 0} (xs : List X) → take (length xs) xs ≡ xs
take_all [] = refl
take_all (x ∷ xs) = ap (λ l. x ∷ l) (take_all xs)

-- on the way back: the remaining indices are those in the first m entries, and the next is the last of these
pub record IsWalk (key : Entry → Option ℕ) (k : ℕ) (es : List Entry) (places : List ℕ) (next : Option ℕ) : Type 0 where
  pub front : ℕ
  pub parts : places_from key k 0 es ≡ places_from key k 0 (take front es) ++ reverse places
  pub next_is : next ≡ last_place key k (take front es)

pub walk_none : (key : Entry → Option ℕ) (k : ℕ) (es : List Entry) (next : Option ℕ) → next ≡ last_place key k es → IsWalk key k es [] next
walk_none key k es next is = record {
  front = length es;
  parts = sym (append-nil (places_from key k 0 (take (length es) es)) ∙ ap (places_from key k 0) (take_all es));
  next_is = is ∙ ap (last_place key k) (sym (take_all es));
}

pub walk_done : (key : Entry → Option ℕ) (k : ℕ) (es : List Entry) (places : List ℕ) (next : Option ℕ) → next ≡ None → IsWalk key k es places next → reverse places ≡ places_from key k 0 es
walk_done key k es places next none w = sym (w.parts ∙ ap (λ l. l ++ reverse places) (none_empty (places_from key k 0 (take w.front es)) (sym w.next_is ∙ none)))

-- if the entries of a key have it as their own
module _ (key own : Entry → Option ℕ) (owns : (e : Entry) (k : ℕ) → is_some_eq (key e) k ≡ true → own e ≡ Some k) (k : ℕ) (es : List Entry) (places : List ℕ) (next : Option ℕ) (w : IsWalk key k es places next) (i : ℕ) (some : next ≡ Some i) where
  here : Split key k 0 (take w.front es) i
  here = split_at key k (take w.front es) i (sym w.next_is ∙ some)

  low : i < w.front
  low = (get_take es w.front i here.entry here.at).0

  link : earlier key own es i ≡ last_place key k (take i es)
  link =
      ap (λ o. earlier_at key (option_map own o) (take i es)) (get_take es w.front i here.entry here.at).1
      ∙ ap (λ o. last_of_key key o (take i es)) (owns here.entry k here.has)

  pub walk_next : (more : List ℕ) (after : Option ℕ) → more ≡ places ++ i ∷ [] → after ≡ earlier key own es i → IsWalk key k es more after
  walk_next more after is then_is =
      let z : 0 + i ≡ i = omega arith in
      record {
        front = i;
        parts =
            w.parts
            ∙ (ap (λ l. l ++ reverse places) (here.parts ∙ (ap (λ l. places_from key k 0 l ++ (0 + i) ∷ []) (take_take es i w.front low) ∙ ap (λ m. places_from key k 0 (take i es) ++ m ∷ []) z))
            ∙ (append_assoc (places_from key k 0 (take i es)) (i ∷ []) (reverse places)
            ∙ ap (λ l. places_from key k 0 (take i es) ++ l) (sym (ap reverse is ∙ reverse_push places i))));
        next_is = then_is ∙ link;
      }
    where
      reverse_push : (xs : List ℕ) (x : ℕ) → reverse (xs ++ x ∷ []) ≡ x ∷ reverse xs
      reverse_push xs x = reverse-append xs (x ∷ [])

  pub walk_smaller : (after : Option ℕ) → after ≡ earlier key own es i → coded after < coded next
  walk_smaller after is = at after refl
    where
      at : (o : Option ℕ) → after ≡ o → coded o < coded next
      at None e = let z : coded next ≡ i + 1 = ap coded some in omega (arith, z)
      at (Some j) e =
          let s = split_at key k (take i es) j (sym link ∙ (sym is ∙ e)) in
          let l : j < i = (get_take es i j s.entry s.at).0 in
          let z : coded next ≡ i + 1 = ap coded some in
          omega (arith, z, l)

-- an accepted entry has its key as its own
module _ (own : Entry → Option ℕ) where
  pub accepted_owns : (e : Entry) (k : ℕ) → is_some_eq (if is_refusal e.reply then None else own e) k ≡ true → own e ≡ Some k
  accepted_owns e k has = at (is_refusal e.reply) (own e) has
    where
      at : (b : Bool) (o : Option ℕ) → is_some_eq (if b then None else o) k ≡ true → o ≡ Some k
      at true o h = absurd (true≢false (sym h))
      at false None h = absurd (true≢false (sym h))
      at false (Some m) h = ap Some (eqb-true m k h)
