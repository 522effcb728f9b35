use Rattle.std.proofs.Common.{◌++◌, ◌∷◌, [], ap, ◌∙◌}
use Rattle.esr_grammar.proofs.Eights.{past_first}
use Rattle.esr_grammar.proofs.words.int_at_end.Goals as goal

pub magnitude-requires : goal.magnitude-requires
magnitude-requires c =
    let word = c.in-Some-eq45-default in
    (c.requires.0 ++ 45 ∷ [], c.requires.1 ∙ ap (λ w. c.requires.0 ++ w) (word.ensures.cases.0 ∙ ap (λ b. b ∷ word.digits.now) word.field-0-0-test) ∙ past_first c.requires.0 word.digits.now 45)
