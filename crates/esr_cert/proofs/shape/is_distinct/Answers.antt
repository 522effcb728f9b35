use Rattle.std.proofs.Common.{◌∙◌, ap}
use Rattle.std.proofs.lemmas.List.Sorted.{IsNonDecreasingBy-from_sort}
use Rattle.esr_cert.specs.Problem.{is_strictly_ascending, is_distinct}
use Rattle.esr_cert.proofs.Distinct.{sorted_copy}
use Rattle.esr_cert.proofs.shape.is_distinct.Goals as goal

pub returns : goal.returns
returns c =
    c.is_strictly_ascending.ensures
    ∙ ap is_strictly_ascending c.deref.ensures.value
    ∙ sorted_copy c.in_ok-numbers.numbers.items c.sort_unstable.new.self.items c.sort_unstable.ensures.permutation (IsNonDecreasingBy-from_sort (λ x. x) c.sort_unstable.new.self.items c.sort_unstable.ensures.sorted)
    ∙ ap is_distinct (c.in_ok-numbers.ensures.items_if_clones_equal (λ x y e. e))
