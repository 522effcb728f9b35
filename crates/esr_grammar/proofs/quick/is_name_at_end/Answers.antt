use Rattle.std.proofs.Common.{◌++◌, ◌∷◌, [], ap, ◌∙◌}
use Rattle.esr_grammar.proofs.Eights.{past_first}
use Rattle.esr_grammar.proofs.quick.is_name_at_end.Goals as goal

pub all_name_bytes_at_end-requires : goal.all_name_bytes_at_end-requires
all_name_bytes_at_end-requires c =
    let word = c.in-Some in
    (c.requires.0 ++ word.first.now ∷ [], c.requires.1 ∙ ap (λ w. c.requires.0 ++ w) word.ensures.cases.0 ∙ past_first c.requires.0 word.rest.now word.first.now)
