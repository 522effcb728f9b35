-- Numbers in order, each once.
use Rattle.std.proofs.Common.{Less, Equal, Greater, is_eq, arith, ◌≡◌, ℕ, ◌<◌, List, ◌∙◌, ap, ⊎_elim, eqb, AllPairs, IsSorted}
use Rattle.std.specs.Ordering.{nat_cmp, eq_by_cmp}
use Rattle.std.specs.Cmp.{nat_cmp_is}
use Rattle.std.specs.List.{dedup}
use Rattle.std.proofs.lemmas.Bool.{cases_order, eq-eqb, ne_eqb}
use Rattle.std.proofs.lemmas.Cmp.{nat_cmp_total}
use Rattle.std.proofs.lemmas.List.Kept.{IsStrictlySortedBy-dedup}
use Rattle.std.proofs.lemmas.Map.Keys.{Less-from_sorted}

nat_conflicting : (a b : ℕ) → eqb a b ≡ eq_by_cmp nat_cmp a b
nat_conflicting a b =
    ⊎_elim (λ e. eq-eqb a b e ∙ ap is_eq (nat_cmp_is a b Equal e))
    (λ ne. ⊎_elim
    (λ lt. ne_eqb a b (λ e. absurd (omega (arith, lt, e))) ∙ ap is_eq (nat_cmp_is a b Less lt))
    (λ gt. ne_eqb a b (λ e. absurd (omega (arith, gt, e))) ∙ ap is_eq (nat_cmp_is a b Greater gt)) ne)
    (cases_order a b)

nat_less : (a b : ℕ) → nat_cmp a b ≡ Less → a < b
nat_less a b h =
    ⊎_elim (λ e. let bad : Equal ≡ Less = nat_cmp_is a b Equal e ∙ h in absurd (cc))
    (λ ne. ⊎_elim (λ lt. lt) (λ gt. let bad : Greater ≡ Less = nat_cmp_is a b Greater gt ∙ h in absurd (cc)) ne)
    (cases_order a b)

pub ascends : (xs : List ℕ) → IsSorted nat_cmp xs → AllPairs (λ i j. i < j) (dedup eqb xs)
ascends xs sorted i j d lt inside = nat_less _ _ (Less-from_sorted nat_cmp (dedup eqb xs) i j d (IsStrictlySortedBy-dedup nat_cmp_total nat_conflicting xs sorted) lt inside)
