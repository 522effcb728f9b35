-- Names that are bound one after another: the first k of a list of distinct names.
use Rattle.std.proofs.Common.{◌≡◌, ℕ, ◌<◌, ◌≤◌, List, [], true, false, bytes_eq, Option, Some, None, is_some, refl, ◌∙◌, ap, sym, arith, length, get_or, take, lt-ltb}
use Rattle.std.specs.List.{position_or_len}
use Rattle.std.proofs.lemmas.Bool.{true≢false, false_from_ne_true}
use Rattle.std.proofs.lemmas.List.{get_or-take, length-take}
use Rattle.std.proofs.lemmas.List.Sums.{position_or_len_is}
use Rattle.std.proofs.lemmas.List.Quantifiers.{position-Some}
use Rattle.std.proofs.lemmas.Slice.Eq.{bytes_eq-Decides}
use Rattle.esr_report.specs.Names.{position_of, is_bound, all_distinct}
use Rattle.esr_dump.proofs.Tables.{twice}

module _ (names : List (List ℕ)) (distinct : all_distinct names ≡ true) where
  other : (k i : ℕ) → k < i → i < length names → bytes_eq (get_or names i []) (get_or names k []) ≡ false
  other k i before within =
      false_from_ne_true (bytes_eq (get_or names i []) (get_or names k [])) (λ same. true≢false (sym distinct ∙ twice names k i [] before within same))

  -- a name among the first m is found at its place
  pub bound_at : (m i : ℕ) → i < m → m ≤ length names → position_of (take m names) (get_or names i []) ≡ Some i
  bound_at m i before within =
      let name = get_or names i [] in
      let inside : i < length (take m names) = omega (arith, length-take {A = List ℕ} m names) in
      let at : position_or_len (bytes_eq name) (take m names) ≡ i =
      position_or_len_is (bytes_eq name) (take m names) i [] (omega (arith, inside))
      (λ (k : ℕ) (l : k < i). ap (bytes_eq name) (get_or-take m names k [] (omega (arith, l, before))) ∙ other k i l (omega (arith, before, within)))
      (λ l. ap (bytes_eq name) (get_or-take m names i [] before) ∙ (bytes_eq-Decides name name).1 refl) in
      rw at (rw (lt-ltb i (length (take m names)) inside) refl)

  -- the next name is not among those before it
  pub not_bound : (m : ℕ) → m < length names → is_bound (take m names) (get_or names m []) ≡ false
  not_bound m within = absent (position_of (take m names) (get_or names m [])) refl
    where
      absent : (o : Option ℕ) → position_of (take m names) (get_or names m []) ≡ o → is_some o ≡ false
      absent None is = refl
      absent (Some k) is =
          let at = position-Some (bytes_eq (get_or names m [])) (take m names) k [] is in
          let before : k < m = omega (arith, length-take {A = List ℕ} m names, within, at.0) in
          absurd (true≢false (sym at.1 ∙ (ap (bytes_eq (get_or names m [])) (get_or-take m names k [] before) ∙ other k m before within)))
