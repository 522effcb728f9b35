-- The lines of the buffered bytes, from their first line feed.
use Rattle.std.proofs.Common.{◌≡◌, ℕ, suc, ◌+◌, ◌<◌, ◌≤◌, List, [], ◌∷◌, ◌++◌, inl, inr, true, false, length, take, drop, refl, sym, ◌∙◌, ap, arith, nat_eq, one-add, add-one, eqb-true}
use Rattle.std.specs.List.{onto_first}
use Rattle.std.proofs.lemmas.Bool.{cases_Bool}
use Rattle.esr_grammar.specs.Lines.{lines, whole_lines, onto_first_whole, line_len}

len-feed : (b : ℕ) (bs : List ℕ) → nat_eq b 10 ≡ true → line_len (b ∷ bs) ≡ 0
len-feed b bs e = rw e refl

len-other : (b : ℕ) (bs : List ℕ) → nat_eq b 10 ≡ false → line_len (b ∷ bs) ≡ suc (line_len bs)
len-other b bs e = rw (e, one-add) refl

lines-feed : (b : ℕ) (bs : List ℕ) → nat_eq b 10 ≡ true → lines (b ∷ bs) ≡ [] ∷ lines bs
lines-feed b bs e = rw e refl

lines-other : (b : ℕ) (bs : List ℕ) → nat_eq b 10 ≡ false → lines (b ∷ bs) ≡ onto_first b (lines bs)
lines-other b bs e = rw e refl

whole-other : (b : ℕ) (bs : List ℕ) → nat_eq b 10 ≡ false → whole_lines (b ∷ bs) ≡ onto_first_whole b (whole_lines bs)
whole-other b bs e = rw e refl

-- bytes with no line feed, and then one, are a line
pub lines-line : (l rest : List ℕ) → line_len l ≡ length l → lines (l ++ 10 ∷ rest) ≡ l ∷ lines rest
lines-line [] rest h = refl
lines-line (b ∷ bs) rest h =
    grind (arith, cases_Bool (nat_eq b 10), len-feed b bs, len-other b bs, lines-other b (bs ++ 10 ∷ rest), lines-line bs rest)

pub whole-line : (l rest : List ℕ) → line_len l ≡ length l → whole_lines (l ++ 10 ∷ rest) ≡ l ∷ whole_lines rest
whole-line [] rest h = refl
whole-line (b ∷ bs) rest h =
    grind (arith, cases_Bool (nat_eq b 10), len-feed b bs, len-other b bs, whole-other b (bs ++ 10 ∷ rest), whole-line bs rest)

-- the bytes before the first line feed, and those after it
abbrev pub front : List ℕ → List ℕ
front bytes = take (line_len bytes) bytes

abbrev pub after_front : List ℕ → List ℕ
after_front bytes = drop (line_len bytes + 1) bytes

front-other : (b : ℕ) (bs : List ℕ) → nat_eq b 10 ≡ false → front (b ∷ bs) ≡ b ∷ front bs
front-other b bs e = rw (len-other b bs e) refl

following-other : (b : ℕ) (bs : List ℕ) → nat_eq b 10 ≡ false → after_front (b ∷ bs) ≡ after_front bs
following-other b bs e = rw (len-other b bs e, add-one, add-one) refl

following-feed : (b : ℕ) (bs : List ℕ) → nat_eq b 10 ≡ true → after_front (b ∷ bs) ≡ bs
following-feed b bs e = rw (len-feed b bs e) refl

front-feed : (b : ℕ) (bs : List ℕ) → nat_eq b 10 ≡ true → front (b ∷ bs) ≡ []
front-feed b bs e = rw (len-feed b bs e) refl

-- no line feed is before the first one
pub plain-front : (bytes : List ℕ) → line_len (front bytes) ≡ length (front bytes)
plain-front [] = refl
plain-front (b ∷ bs) = grind (arith, cases_Bool (nat_eq b 10), nat_eq b 10, front-feed, front-other, len-other, plain-front bs)

-- the bytes up to the first line feed, that and the rest
pub split-front : (bytes : List ℕ) → line_len bytes < length bytes → bytes ≡ front bytes ++ 10 ∷ after_front bytes
split-front [] h = absurd (omega (arith, h))
split-front (b ∷ bs) h = elim (cases_Bool (nat_eq b 10)) [
  | inl e ↦ ap (λ n. n ∷ bs) (eqb-true b 10 e) ∙ sym (ap (λ l. l ++ 10 ∷ bs) (front-feed b bs e)) ∙ ap (λ l. front (b ∷ bs) ++ 10 ∷ l) (sym (following-feed b bs e))
  | inr e ↦
      let shorter : line_len bs < length bs = omega (arith, h, len-other b bs e) in
      ap (λ l. b ∷ l) (split-front bs shorter)
      ∙ ap (λ l. l ++ 10 ∷ after_front bs) (sym (front-other b bs e)) ∙ ap (λ l. front (b ∷ bs) ++ 10 ∷ l) (sym (following-other b bs e))
]

-- bytes with no line feed are one line
pub lines-last : (bytes : List ℕ) → line_len bytes ≡ length bytes → 0 < length bytes → lines bytes ≡ bytes ∷ []
lines-last [] h some = absurd (omega (arith, some))
lines-last (b ∷ []) h some = grind (arith, cases_Bool (nat_eq b 10), nat_eq b 10, len-feed b, lines-other b)
lines-last (b ∷ c ∷ bs) h some = elim (cases_Bool (nat_eq b 10)) [
  | inl e ↦ absurd (omega (arith, h, len-feed b (c ∷ bs) e))
  | inr e ↦ lines-other b (c ∷ bs) e ∙ ap (onto_first b) (lines-last (c ∷ bs) (omega (arith, h, len-other b (c ∷ bs) e)) (omega arith))
]

-- no line of them is ended
pub whole-none : (bytes : List ℕ) → line_len bytes ≡ length bytes → whole_lines bytes ≡ []
whole-none [] h = refl
whole-none (b ∷ bs) h = elim (cases_Bool (nat_eq b 10)) [
  | inl e ↦ absurd (omega (arith, h, len-feed b bs e))
  | inr e ↦ whole-other b bs e ∙ ap (onto_first_whole b) (whole-none bs (omega (arith, h, len-other b bs e)))
]

pub record Begins (bytes rest : List ℕ) : Type 0 where
  pub line : List ℕ
  pub more : List (List ℕ)
  pub is : lines (bytes ++ rest) ≡ line ∷ more
  pub long : line_len bytes ≤ length line

onto : (b : ℕ) (bytes rest : List ℕ) (ls : List (List ℕ)) → nat_eq b 10 ≡ false → lines (bytes ++ rest) ≡ ls → line_len bytes ≡ 0 → Begins (b ∷ bytes) rest
onto b bytes rest [] e is none = record { line = b ∷ []; more = []; is = lines-other b (bytes ++ rest) e ∙ ap (onto_first b) is; long = omega (arith, len-other b bytes e) }
onto b bytes rest (l ∷ ls) e is none = record { line = b ∷ l; more = ls; is = lines-other b (bytes ++ rest) e ∙ ap (onto_first b) is; long = omega (arith, len-other b bytes e) }

-- bytes that aren't empty begin a line, which has at least those before the first line feed
pub begins : (bytes rest : List ℕ) → 0 < length bytes → Begins bytes rest
begins [] rest some = absurd (omega (arith, some))
begins (b ∷ []) rest some = elim (cases_Bool (nat_eq b 10)) [
  | inl e ↦ record { line = []; more = lines rest; is = lines-feed b rest e; long = omega (arith, len-feed b [] e) }
  | inr e ↦ onto b [] rest (lines rest) e refl refl
]
begins (b ∷ c ∷ bs) rest some = elim (cases_Bool (nat_eq b 10)) [
  | inl e ↦ record { line = []; more = lines (c ∷ bs ++ rest); is = lines-feed b (c ∷ bs ++ rest) e; long = omega (arith, len-feed b (c ∷ bs) e) }
  | inr e ↦
      let next : Begins (c ∷ bs) rest = begins (c ∷ bs) rest (omega arith) in
      record { line = b ∷ next.line; more = next.more; is = lines-other b (c ∷ bs ++ rest) e ∙ ap (onto_first b) next.is; long = omega (arith, next.long, len-other b (c ∷ bs) e) }
]
