-- Words separated by a byte.
use Rattle.std.proofs.Common.{◌≡◌, ℕ, ◌+◌, ◌<◌, ◌≤◌, List, [], ◌∷◌, ◌++◌, length, take, map, refl, sym, ◌∙◌, ap, get_or, append_assoc}
use Rattle.std.proofs.lemmas.List.{take_more, take_all, map-append}
use Rattle.std.specs.List.{join_with_byte}

-- one more word at the end
join_push : (c : ℕ) (x : List ℕ) (xs : List (List ℕ)) (y : List ℕ) → join_with_byte c (x ∷ xs ++ y ∷ []) ≡ join_with_byte c (x ∷ xs) ++ c ∷ y
join_push c x [] y = refl
join_push c x (z ∷ zs) y = ap (λ l. x ++ (c ∷ l)) (join_push c z zs y) ∙ sym (append_assoc x (c ∷ join_with_byte c (z ∷ zs)) (c ∷ y))

-- words, the byte, and one more word
pub one_separated : (c : ℕ) (out x : List ℕ) (xs : List (List ℕ)) (y before parted after : List ℕ)
    → before ≡ out ++ join_with_byte c (x ∷ xs) → parted ≡ before ++ c ∷ [] → after ≡ parted ++ y
    → after ≡ out ++ join_with_byte c (x ∷ xs ++ y ∷ [])
one_separated c out x xs y before parted after before_it part grew =
    grew ∙ ap (λ b. b ++ y) part ∙ append_assoc before (c ∷ []) y ∙ ap (λ b. b ++ c ∷ y) before_it
    ∙ append_assoc out (join_with_byte c (x ∷ xs)) (c ∷ y) ∙ ap (λ l. out ++ l) (sym (join_push c x xs y))

module _ {X : Type 0} (spell : X → List ℕ) (c : ℕ) (out first : List ℕ) (xs : List X) where
  -- one more word after those before it
  pub one_more : (i : ℕ) (d : X) (word before after : List ℕ) → i < length xs
      → before ≡ out ++ join_with_byte c (first ∷ map spell (take i xs))
      → word ≡ spell (get_or xs i d) → after ≡ before ++ c ∷ word
      → after ≡ out ++ join_with_byte c (first ∷ map spell (take (i + 1) xs))
  one_more i d word before after within before_it is grew =
      let grown : map spell (take (i + 1) xs) ≡ map spell (take i xs) ++ word ∷ [] =
      ap (map spell) (take_more xs i d within) ∙ map-append spell (take i xs) (get_or xs i d ∷ [])
      ∙ ap (λ w. map spell (take i xs) ++ w ∷ []) (sym is) in
      one_separated c out first (map spell (take i xs)) word before (before ++ c ∷ []) after before_it refl
      (grew ∙ sym (append_assoc before (c ∷ []) word))
      ∙ ap (λ l. out ++ join_with_byte c (first ∷ l)) (sym grown)

  -- after the last word
  pub all_joined : (i : ℕ) (after : List ℕ) → length xs ≤ i
      → after ≡ out ++ join_with_byte c (first ∷ map spell (take i xs)) → after ≡ out ++ join_with_byte c (first ∷ map spell xs)
  all_joined i after all before_it = before_it ∙ ap (λ l. out ++ join_with_byte c (first ∷ map spell l)) (take_all i xs all)
