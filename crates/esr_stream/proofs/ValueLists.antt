-- Lists of values that were read, one for each item.
use Rattle.std.proofs.Common.{◌≡◌, ℕ, ℤ, refl, ◌+◌, ◌<◌, Bool, true, false, not, cond, ◌&&◌, List, [], ◌∷◌, ◌++◌, length, take, get_or, map, filter, arith, ap, ◌∙◌, sym, subst, inl, inr, set, Vec, Global, append-nil, eqb, eq-eqb, ne_eqb, get_or-set_same, get_or-set_other}
use Rattle.std.proofs.lemmas.Bool.{cases_eq}
use Rattle.std.proofs.lemmas.List.{take_more, map-set, length-map}
use Rattle.esr_order.specs.declared.accesses.Access.{Access}
use Rattle.esr_stream.specs.Reads.{values_of, list_at}
pub use Rattle.esr_order.proofs.ValueLists.{value_fits, list_push, list_is}

abbrev is_read : ℕ → Access → Bool
is_read x a = not a.writes && eqb a.item.0 x

one_read : (x : ℕ) (a : Access) (b : Bool) → is_read x a ≡ b → values_of (a ∷ []) x ≡ cond b (a.value ∷ []) []
one_read x a true e = ap (λ b. map (λ (r : Access). r.value) (cond b (a ∷ []) [])) e
one_read x a false e = ap (λ b. map (λ (r : Access). r.value) (cond b (a ∷ []) [])) e

-- a value was appended to the list of its item
module _ (values_read : List (Vec ℤ Global)) (read : Access) (reads : read.writes ≡ false) (was now : Vec ℤ Global) (inside : read.item.0 < length values_read) (is : was ≡ get_or values_read read.item.0 was) (grown : now.items ≡ was.items ++ read.value ∷ []) where
  abbrev seen : Vec ℤ Global → List ℤ
  seen v = v.items

  here : is_read read.item.0 read ≡ true
  here = ap (λ w. not w && eqb read.item.0 read.item.0) reads ∙ eq-eqb read.item.0 read.item.0 refl

  elsewhere : (x : ℕ) → (x ≡ read.item.0 → ⊥) → is_read x read ≡ false
  elsewhere x ne = ap (λ w. not w && eqb read.item.0 x) reads ∙ ne_eqb read.item.0 x (λ q. ne (sym q))

  at_item : list_at (set values_read read.item.0 now) read.item.0 ≡ list_at values_read read.item.0 ++ values_of (read ∷ []) read.item.0
  at_item =
      ap (λ l. get_or l read.item.0 []) (map-set seen values_read read.item.0 now)
      ∙ get_or-set_same (map seen values_read) read.item.0 now.items [] (omega (arith, inside, length-map values_read seen))
      ∙ grown
      ∙ ap (λ vs. vs ++ read.value ∷ []) (list_is values_read read.item.0 was inside is)
      ∙ ap (λ vs. list_at values_read read.item.0 ++ vs) (sym (one_read read.item.0 read true here))

  pub put_at : (x : ℕ) → list_at (set values_read read.item.0 now) x ≡ list_at values_read x ++ values_of (read ∷ []) x
  put_at x = elim (cases_eq x read.item.0) [
    | inl e ↦ subst (λ y. list_at (set values_read read.item.0 now) y ≡ list_at values_read y ++ values_of (read ∷ []) y) (sym e) at_item
    | inr ne ↦
        ap (λ l. get_or l x []) (map-set seen values_read read.item.0 now)
        ∙ get_or-set_other (map seen values_read) read.item.0 x now.items [] ne
        ∙ sym (append-nil (list_at values_read x))
        ∙ ap (λ vs. list_at values_read x ++ vs) (sym (one_read x read false (elsewhere x ne)))
  ]

pub values_append : (before after : List Access) (x : ℕ) → values_of (before ++ after) x ≡ values_of before x ++ values_of after x
values_append [] after x = refl
values_append (r ∷ before) after x = at (is_read x r) (values_append before after x)
  where
    at : (b : Bool) → values_of (before ++ after) x ≡ values_of before x ++ values_of after x
        → map (λ (s : Access). s.value) (cond b (r ∷ filter (is_read x) (before ++ after)) (filter (is_read x) (before ++ after)))
        ≡ map (λ (s : Access). s.value) (cond b (r ∷ filter (is_read x) before) (filter (is_read x) before)) ++ values_of after x
    at true rest = ap (λ vs. r.value ∷ vs) rest
    at false rest = rest

-- one more read
pub values_more : (reads : List Access) (i x : ℕ) (d : Access) → i < length reads → values_of (take (i + 1) reads) x ≡ values_of (take i reads) x ++ values_of (get_or reads i d ∷ []) x
values_more reads i x d l = ap (λ rs. values_of rs x) (take_more reads i d l) ∙ values_append (take i reads) (get_or reads i d ∷ []) x
