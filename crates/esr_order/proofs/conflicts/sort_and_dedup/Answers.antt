use Rattle.std.proofs.Common.{◌<◌, AllPairs, Contains, eqb, sym, subst, eqb-true}
use Rattle.std.proofs.lemmas.Cmp.{nat_eq_equiv}
use Rattle.std.proofs.lemmas.List.Filters.{dedup_is}
use Rattle.std.proofs.lemmas.List.Kept.{Contains-dedup, Contains-from_dedup}
use Rattle.std.proofs.lemmas.List.Sorted.{Contains-permutation, IsPermutation-sym}
use Rattle.esr_order.proofs.Sorted.{ascends}
use Rattle.esr_order.proofs.conflicts.sort_and_dedup.Goals as goal

pub returns-clause-ascending : goal.returns-clause-ascending
returns-clause-ascending c = subst (AllPairs (λ i j. i < j)) (sym (dedup_is eqb _ _ c.dedup.ensures.filtered)) (ascends c.sort_unstable.new.self.items c.sort_unstable.ensures.sorted)

pub returns-clause-keeps : goal.returns-clause-keeps
returns-clause-keeps c = λ i h.
    subst (λ l. Contains l i) (sym (dedup_is eqb _ _ c.dedup.ensures.filtered))
    (Contains-dedup nat_eq_equiv eqb-true c.sort_unstable.new.self.items i (Contains-permutation _ _ i c.sort_unstable.ensures.permutation h))

pub returns-clause-adds_none : goal.returns-clause-adds_none
returns-clause-adds_none c = λ i h.
    Contains-permutation _ _ i (IsPermutation-sym _ _ c.sort_unstable.ensures.permutation)
    (Contains-from_dedup eqb c.sort_unstable.new.self.items i (subst (λ l. Contains l i) (dedup_is eqb _ _ c.dedup.ensures.filtered) h))
