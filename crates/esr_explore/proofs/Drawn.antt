-- A drawn sequence is an order: a turn of a block takes one of its lines, until none is left.
use Rattle.std.proofs.Common.{◌≡◌, ℕ, ◌+◌, ◌-◌, ◌<◌, ◌==◌, List, [], ◌∷◌, ◌++◌, cond, refl, ◌∙◌, ap, sym, arith, inl, inr, length, sum, set, get_or-set_same, get_or-set_other, length-append, length-set}
use Rattle.std.proofs.lemmas.Bool.{cases_eq, cases_lt}
use Rattle.std.proofs.lemmas.Bool.Decides.{nat_tests}
use Rattle.std.proofs.lemmas.List.{get_or_past}
use Rattle.std.proofs.lemmas.List.Sums.{sum_by-set, sum_by_push, get_or-le-sum_by}
use Rattle.esr_explore.specs.Orders.{IsOrder, lines_of, turns_of}

-- a list of n turns: each block has had as many turns as it has fewer lines left
pub record IsDrawn (counts left order : List ℕ) (turns : ℕ) : Type 0 where
  pub same : length left ≡ length counts
  pub count : length order ≡ turns
  pub sum_left : sum left + turns ≡ sum counts
  pub lines : (block : ℕ) → turns_of block order + lines_of left block ≡ lines_of counts block
