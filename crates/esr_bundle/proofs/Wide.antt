-- In a sound problem all numbers are positions, so a number that is none is out of its range.
use Rattle.std.proofs.Common.{List, [], ◌∷◌, suc, get_or, Fits, w32, ◌≡◌, ℕ, ◌≤◌, ◌<◌, Bool, true, false, ◌&&◌, leb, ltb, Some, refl, sym, ◌∙◌, inl, inr, arith, true≢false, ltb-true, leb-true}
use Rattle.std.specs.List.{list_all}
use Rattle.std.proofs.lemmas.Bool.{and_parts, and_from, cases_Bool}
use Rattle.std.proofs.lemmas.Bool.Decides.{nat_tests}
use Rattle.esr_base.specs.declared.limits.TheConstants.{MAX_ITEMS, MAX_TRANSACTIONS}
use Rattle.esr_cert.specs.Problem.{Problem, update_count, has_valid_shape, is_in_range, is_well_formed, chain_is_in_range}
use Rattle.esr_cert.specs.Faults.{problem_fault}
use Rattle.esr_cert.specs.declared.problem.BundleFault.TheVariants.{Range}
use Rattle.esr_cert.proofs.Sound.{all_in, all_from, count_within_max, range_facts, InRange}
use Rattle.esr_bundle.specs.Bundle.{is_position, is_pair_of_positions, is_chain_of_positions}

is_small : (n : ℕ) → n ≤ 65535 → is_position n ≡ true
is_small n h = grind (arith, nat_tests)

pub record ArePositions (p : Problem) : Type 0 where
  pub updates : list_all is_position p.updates ≡ true
  pub before : list_all is_pair_of_positions p.before ≡ true
  pub chains : list_all is_chain_of_positions p.chains ≡ true
  pub must : list_all is_position p.must ≡ true

pub positions : (p : Problem) → is_well_formed p ≡ true → ArePositions p
positions p h = record {
  updates = all_from is_position p.updates (λ t k. let b : (ltb 0 t ≡ true) × (leb t MAX_TRANSACTIONS ≡ true) = and_parts _ _ (all_in (λ t. ltb 0 t && leb t MAX_TRANSACTIONS) p.updates t r.numbers k) in is_small t (leb-true _ _ b.1));
  before = all_from is_pair_of_positions p.before (λ e k.
      let b : (ltb e.0 (update_count p) ≡ true) × (ltb e.1 (update_count p) ≡ true) = and_parts _ _ (all_in (λ (e : ℕ × ℕ). ltb e.0 (update_count p) && ltb e.1 (update_count p)) p.before e r.pairs k) in
      and_from (is_position e.0) (is_position e.1) (below e.0 b.0) (below e.1 b.1));
  chains = all_from is_chain_of_positions p.chains (λ chain k.
      let b : (ltb chain.item MAX_ITEMS ≡ true) × (list_all (λ w. ltb w (update_count p)) chain.writers ≡ true) = and_parts _ _ (all_in (chain_is_in_range (update_count p)) p.chains chain r.chains k) in
      and_from (is_position chain.item) (list_all is_position chain.writers)
      (is_small chain.item (omega (arith, ltb-true _ _ b.0)))
      (all_from is_position chain.writers (λ w l. below w (all_in (λ w. ltb w (update_count p)) chain.writers w b.1 l))));
  must = all_from is_position p.must (λ u k. below u (all_in (λ u. ltb u (update_count p)) p.must u r.must k));
}
  where
    r : InRange p
    r = range_facts p (and_parts (has_valid_shape p) (is_in_range p) h).1

    below : (u : ℕ) → ltb u (update_count p) ≡ true → is_position u ≡ true
    below u l = is_small u (omega (arith, ltb-true _ _ l, count_within_max p h))

pub out_of_range : (p : Problem) → has_valid_shape p ≡ true → (is_well_formed p ≡ true → ⊥) → problem_fault p ≡ Some Range
out_of_range p s unsound = elim (cases_Bool (is_in_range p)) [
  | inl r ↦ absurd (unsound (and_from (has_valid_shape p) (is_in_range p) s r))
  | inr r ↦ rw (s, r) refl
]

pub wide : (p : Problem) (fits : Bool) → (ArePositions p → fits ≡ true) → has_valid_shape p ≡ true → fits ≡ false → problem_fault p ≡ Some Range
wide p fits all s n = out_of_range p s (λ h. true≢false (sym (all (positions p h)) ∙ n))

fits_position : (n : ℕ) → Fits w32 n → is_position n ≡ true
fits_position n h = let l : n < 4294967296 = omega arith in grind (arith, nat_tests)

-- numbers of 32 bits
pub all_positions : (xs : List ℕ) → ((i : ℕ) → Fits w32 (get_or xs i 0)) → list_all is_position xs ≡ true
all_positions [] h = refl
all_positions (x ∷ xs) h = and_from (is_position x) (list_all is_position xs) (fits_position x (h 0)) (all_positions xs (λ i. h (suc i)))
