-- The defects by which words fail to form a table of names.
use Rattle.std.proofs.Common.{◌≡◌, ℕ, zero, suc, ◌+◌, ◌<◌, List, [], ◌∷◌, ◌++◌, Bool, true, false, not, ◌&&◌, cond, bytes_eq, Option, Some, None, is_some, inl, inr, refl, ◌∙◌, ap, sym, arith, length, get_or, take, map}
use Rattle.std.specs.Borrow.{Bor}
use Rattle.std.specs.List.{list_all}
use Rattle.std.proofs.lemmas.Bool.{and_parts, cases_Bool}
use Rattle.std.proofs.lemmas.List.{get_or-take, length-take, take_more, take-map, get_or-map, length-map, map-append}
use Rattle.std.proofs.lemmas.List.Folds.{list_all_at, list_any_at}
use Rattle.std.proofs.lemmas.List.Quantifiers.{position-Some}
use Rattle.std.proofs.lemmas.Slice.Eq.{bytes_eq-Decides}
use Rattle.esr_grammar.specs.Command.{is_name, name_of}
use Rattle.esr_report.specs.Names.{position_of, all_distinct}
use Rattle.esr_dump.specs.Naming.{named}

or_none : (b c : Bool) → c ≡ false → (b && c) ≡ false
or_none true c is = is
or_none false c is = refl

none_named : (words : List (List ℕ)) (b c : Bool) → (b && c) ≡ false → cond (b && c) (Some words) None ≡ None
none_named words b c is = ap (λ v. cond v (Some words) None) is

flipped : (a b : List ℕ) → bytes_eq a b ≡ true → bytes_eq b a ≡ true
flipped a b same = (bytes_eq-Decides b a).1 (sym ((bytes_eq-Decides a b).0 same))

pub twice : (words : List (List ℕ)) (k i : ℕ) (d : List ℕ) → k < i → i < length words → bytes_eq (get_or words i d) (get_or words k d) ≡ true → all_distinct words ≡ false
twice [] k i d before within same = absurd (omega arith)
twice (w ∷ words) zero zero d before within same = absurd (omega arith)
twice (w ∷ words) zero (suc i) d before within same =
    let found = list_any_at (bytes_eq w) words i d (omega arith) (flipped (get_or words i d) w same) in
    ap (λ v. not v && all_distinct words) found
twice (w ∷ words) (suc k) zero d before within same = absurd (omega arith)
twice (w ∷ words) (suc k) (suc i) d before within same = or_none _ (all_distinct words) (twice words k i d (omega arith) (omega arith) same)

-- a word that is not a name
pub no_name : (words : List (List ℕ)) (i : ℕ) (d : List ℕ) → i < length words → is_name (get_or words i d) ≡ false → named words ≡ None
no_name words i d within is =
    none_named words (list_all is_name words) (all_distinct words) (ap (λ v. v && all_distinct words) (list_all_at is_name words i d within is))

-- a word that occurred before
pub occurs_twice : (words : List (List ℕ)) (i k : ℕ) (d : List ℕ) → i < length words → position_of (take i words) (get_or words i d) ≡ Some k → named words ≡ None
occurs_twice words i k d within is =
    let at = position-Some (bytes_eq (get_or words i d)) (take i words) k d is in
    let before : k < i = omega (arith, length-take {A = List ℕ} i words) in
    let same = ap (bytes_eq (get_or words i d)) (sym (get_or-take i words k d before)) ∙ at.1 in
    none_named words (list_all is_name words) (all_distinct words)
    (or_none (list_all is_name words) (all_distinct words) (twice words k i d before within same))

-- a name that was found is the word
found_name : (text name : List ℕ) → Some name ≡ name_of text → (name ≡ text) × (is_name text ≡ true)
found_name text name is = elim (cases_Bool (is_name text)) [
  | inl is_named ↦ let same : Some name ≡ Some text = rw is_named at is in (cc, is_named)
  | inr apart ↦ let none : Some name ≡ None = rw apart at is in absurd (cc)
]

no_name_found : (text : List ℕ) → None ≡ name_of text → is_name text ≡ false
no_name_found text is = elim (cases_Bool (is_name text)) [
  | inl is_named ↦ let none : None ≡ Some text = rw is_named at is in absurd (cc)
  | inr apart ↦ apart
]

some_is : (o : Option ℕ) → is_some o ≡ true → (n : ℕ) × (o ≡ Some n)
some_is None is = absurd (cc)
some_is (Some n) is = (n, refl)

all_more : (names : List (List ℕ)) (name : List ℕ) → list_all is_name names ≡ true → is_name name ≡ true → list_all is_name (names ++ name ∷ []) ≡ true
all_more [] name good is = rw is refl
all_more (n ∷ names) name good is = let parts = and_parts (is_name n) (list_all is_name names) good in rw (parts.0, all_more names name parts.1 is) refl

abbrev pub text_of : Bor (List ℕ) → List ℕ
text_of word = word.now

module _ (words : List (Bor (List ℕ))) (k : ℕ) (d : Bor (List ℕ)) (within : k < length words) where
  long : k < length (map text_of words)
  long = omega (arith, length-map words text_of)

  at : get_or (map text_of words) k d.now ≡ (get_or words k d).now
  at = get_or-map text_of words k d d.now within

  pub refused : None ≡ name_of (get_or words k d).now → named (map text_of words) ≡ None
  refused none = no_name (map text_of words) k d.now long (ap is_name at ∙ no_name_found (get_or words k d).now none)

  pub repeated : (names : List (List ℕ)) (name : List ℕ) (o : Option ℕ) → names ≡ map text_of (take k words) → Some name ≡ name_of (get_or words k d).now
      → o ≡ position_of names name → is_some o ≡ true → named (map text_of words) ≡ None
  repeated names name o are is found some =
      let n = some_is o some in
      let before : names ≡ take k (map text_of words) = are ∙ sym (take-map text_of k words) in
      let word : name ≡ get_or (map text_of words) k d.now = (found_name (get_or words k d).now name is).0 ∙ sym at in
      let known : position_of (take k (map text_of words)) (get_or (map text_of words) k d.now) ≡ Some n.0 = rw (← before, ← word) (sym found ∙ n.1) in
      occurs_twice (map text_of words) k n.0 d.now long known

  pub pushed : (names : List (List ℕ)) (name : List ℕ) (new : List (List ℕ)) → names ≡ map text_of (take k words) → list_all is_name names ≡ true
      → Some name ≡ name_of (get_or words k d).now → new ≡ names ++ name ∷ []
      → (new ≡ map text_of (take (k + 1) words)) × (list_all is_name new ≡ true)
  pushed names name new are good is grew =
      let f = found_name (get_or words k d).now name is in
      let more : map text_of (take (k + 1) words) ≡ map text_of (take k words) ++ (get_or words k d).now ∷ [] =
      ap (map text_of) (take_more words k d within) ∙ map-append text_of (take k words) (get_or words k d ∷ []) in
      let all : list_all is_name (names ++ name ∷ []) ≡ true = all_more names name good (ap is_name f.0 ∙ f.1) in
      (grew ∙ (ap (λ l. l ++ name ∷ []) are ∙ (ap (λ w. map text_of (take k words) ++ w ∷ []) f.0 ∙ sym more)), ap (list_all is_name) grew ∙ all)
