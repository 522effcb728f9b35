-- The place of a name in its table, given its key.
use Rattle.std.proofs.Common.{◌≡◌, ℕ, suc, ◌+◌, ◌<◌, ◌≤◌, List, [], ◌∷◌, ◌++◌, inl, inr, Bool, true, false, ◌&&◌, not, cond, nat_lt, map, length, All, refl, sym, ◌∙◌, ap, subst, arith, Some, None, nat_eq, bytes_eq, eqb-true, eq-eqb}
use Rattle.std.specs.List.{position, position_or_len, list_any, slice_get}
use Rattle.std.specs.Option.{option_map}
use Rattle.std.proofs.lemmas.Bool.{cases_Bool, and_parts}
use Rattle.std.proofs.lemmas.Slice.Eq.{bytes_eq-Decides}
use Rattle.std.proofs.lemmas.List.Elements.{All-weaker}
use Rattle.esr_report.specs.declared.key.Key.{Key}
use Rattle.esr_report.specs.Keys.{low_of, high_of}
use Rattle.esr_report.specs.Keyed.{IsKeyOf}
use Rattle.esr_report.specs.Stored.{text_of, IsStored}
use Rattle.esr_report.proofs.Keys.{same_name}
use Rattle.esr_report.specs.Names.{position_of, all_distinct}
use Rattle.esr_report.proofs.Positions.{longer, both_false, position_at}
use Rattle.std.proofs.lemmas.Option.{slice_get-map, slice_get_within, get_or_from_slice_get}
use Rattle.indexmap.specs.IndexMap.{insert_entry}

abbrev pub same_key : Key → Key → Bool
same_key a b = nat_eq a.low b.low && (nat_eq a.high b.high && nat_eq a.length b.length)

one_key : (k l : Key) (a b : List ℕ) → IsKeyOf k a → IsKeyOf l b → same_key k l ≡ true → a ≡ b
one_key k l a b ka lb e =
    let low = and_parts _ _ e in
    let high = and_parts _ _ low.1 in
    same_name a b (sym ka.length ∙ eqb-true _ _ high.1 ∙ lb.length) ka.short ka.bytes lb.bytes (sym ka.low ∙ eqb-true _ _ low.0 ∙ lb.low) (sym ka.high ∙ eqb-true _ _ high.0 ∙ lb.high)

same_of : (k l : Key) (a b : List ℕ) → IsKeyOf k a → IsKeyOf l b → a ≡ b → same_key k l ≡ true
same_of k l a b ka lb e =
    rw (eq-eqb _ _ (ka.low ∙ ap low_of e ∙ sym lb.low), eq-eqb _ _ (ka.high ∙ ap high_of e ∙ sym lb.high), eq-eqb _ _ (ka.length ∙ ap length e ∙ sym lb.length)) refl

-- keys are equal if and only if the names are
distinguished : (k l : Key) (a b : List ℕ) → IsKeyOf k a → IsKeyOf l b → same_key k l ≡ bytes_eq a b
distinguished k l a b ka lb = elim (cases_Bool (same_key k l)) [
  | inl t ↦ t ∙ sym ((bytes_eq-Decides a b).1 (one_key k l a b ka lb t))
  | inr f ↦ elim (cases_Bool (bytes_eq a b)) [
    | inl same ↦ let never : false ≡ true = sym f ∙ same_of k l a b ka lb ((bytes_eq-Decides a b).0 same) in cc
    | inr apart ↦ f ∙ sym apart
  ]
]

abbrev pub Entry : Type 0
Entry = Key × ℕ

module _ (text : Entry → List ℕ) where
  abbrev pub AreKeyed : List Entry → Type 0
  AreKeyed entries = All (λ (e : Entry). IsKeyOf e.0 (text e)) entries

  place_of : (k : Key) (name : List ℕ) → IsKeyOf k name → (entries : List Entry) → AreKeyed entries
      → position_or_len (same_key k) (map (λ (e : Entry). e.0) entries) ≡ position_or_len (bytes_eq name) (map text entries)
  place_of k name is [] h = refl
  place_of k name is (e ∷ es) h =
      let here : same_key k e.0 ≡ bytes_eq name (text e) = distinguished k e.0 name (text e) is (h 0 e (omega arith)) in
      let later = place_of k name is es (λ i d l. h (suc i) d (omega (arith, l))) in
      ap (λ v. cond (not v) (1 + position_or_len (same_key k) (map (λ (x : Entry). x.0) es)) 0) here
      ∙ ap (λ n. cond (not (bytes_eq name (text e))) (1 + n) 0) later

  as_many : (entries : List Entry) → length (map (λ (e : Entry). e.0) entries) ≡ length (map text entries)
  as_many [] = refl
  as_many (e ∷ es) = ap suc (as_many es)

  -- the place of a key is that of its name
  pub key_place : (k : Key) (name : List ℕ) → IsKeyOf k name → (entries : List Entry) → AreKeyed entries
      → position (same_key k) (map (λ (e : Entry). e.0) entries) ≡ position_of (map text entries) name
  key_place k name is entries h =
      let at = position_or_len (bytes_eq name) (map text entries) in
      ap (λ n. cond (nat_lt n (length (map (λ (e : Entry). e.0) entries))) (Some n) None) (place_of k name is entries h)
      ∙ ap (λ m. cond (nat_lt at m) (Some at) None) (as_many entries)

  entry_keyed : (entries : List Entry) → AreKeyed entries → (p : ℕ) (e : Entry) → slice_get entries p ≡ Some e → IsKeyOf e.0 (text e)
  entry_keyed entries h p e at =
      subst (λ (x : Entry). IsKeyOf x.0 (text x)) (get_or_from_slice_get entries p e e at) (h p e (slice_get_within entries p e at))

  -- a key that an entry has is of no longer name
  pub cached_short : (k : Key) (entries : List Entry) → AreKeyed entries → (p : ℕ) (e : Entry) → slice_get entries p ≡ Some e → same_key e.0 k ≡ true → k.length ≤ 16
  cached_short k entries h p e at same =
      let keyed = entry_keyed entries h p e at in
      let ends : (nat_eq e.0.high k.high && nat_eq e.0.length k.length) ≡ true = (and_parts (nat_eq e.0.low k.low) (nat_eq e.0.high k.high && nat_eq e.0.length k.length) same).1 in
      let equal : e.0.length ≡ k.length = eqb-true e.0.length k.length (and_parts (nat_eq e.0.high k.high) (nat_eq e.0.length k.length) ends).1 in
      omega (arith, keyed.short, keyed.length, equal)

  -- the position of the entry with a key is that of its name
  pub cached_is : (k : Key) (name : List ℕ) → IsKeyOf k name → (entries : List Entry) → AreKeyed entries → all_distinct (map text entries) ≡ true
      → (p : ℕ) (e : Entry) → slice_get entries p ≡ Some e → same_key e.0 k ≡ true → position_of (map text entries) name ≡ Some p
  cached_is k name is entries h apart p e at same =
      let keyed = entry_keyed entries h p e at in
      let named : slice_get (map text entries) p ≡ Some name =
      slice_get-map text entries p ∙ ap (option_map text) at ∙ ap (λ t. Some t) (one_key e.0 k (text e) name keyed is same) in
      position_at (map text entries) p name apart named

  -- a name of more than 16 bytes is not one of them
  pub no_longer : (entries : List Entry) (name : List ℕ) → AreKeyed entries → 16 < length name → position_of (map text entries) name ≡ None
  no_longer entries name h l = longer text entries name 16 (λ i d m. (h i d m).short) l

  -- a name that is not one of them is added at the end
  pub entered : (k : Key) (name : List ℕ) (end : ℕ) → IsKeyOf k name → (entries : List Entry) → AreKeyed entries
      → list_any (bytes_eq name) (map text entries) ≡ false → insert_entry same_key entries k end ≡ entries ++ (k, end) ∷ []
  entered k name end is [] h none = refl
  entered k name end is (e ∷ es) h none =
      let apart = both_false _ _ none in
      let here : same_key k e.0 ≡ false = distinguished k e.0 name (text e) is (h 0 e (omega arith)) ∙ apart.0 in
      rw here (ap (λ l. e ∷ l) (entered k name end is es (λ i d l. h (suc i) d (omega (arith, l))) apart.1))

-- entries whose texts are stored have the keys of these texts
pub are_keyed : (texts : List ℕ) (entries : List Entry) → All (IsStored texts) entries → AreKeyed (text_of texts) entries
are_keyed texts entries h =
    All-weaker (IsStored texts) (λ (e : Entry). IsKeyOf e.0 (text_of texts e)) (λ e stored. stored.keyed) entries h
