use Rattle.std.proofs.Common.{◌≡◌, ◌∙◌, sym}
use Rattle.esr_commands.proofs.Sameness.{same_problem}
use Rattle.esr_commands.proofs.comparison.is_same.Goals as goal

pub returns : goal.returns
returns c = λ t.
    same_problem c.args.a.now c.args.b.now
    (sym c.updates.ensures.list ∙ (c.are_same_updates.ensures c.if-not-are_same_updates.false ∙ c.updates-2.ensures.list))
    (sym c.before-2.ensures.list ∙ (c.are_same_pairs.ensures c.if-not-are_same_pairs.false ∙ c.before-3.ensures.list))
    (sym c.chains.ensures.list ∙ (c.are_same_chains.ensures t ∙ c.chains-2.ensures.list))
    (sym c.must.ensures.list ∙ (c.are_same_numbers.ensures c.if-not-are_same_numbers.false ∙ c.must-2.ensures.list))
