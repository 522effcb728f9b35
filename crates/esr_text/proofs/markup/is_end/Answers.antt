use Rattle.std.proofs.Common.{sym, ◌∙◌}
use Rattle.esr_text.proofs.Building.{ending}
use Rattle.esr_text.proofs.markup.is_end.Goals as goal

pub returns-then-is_empty : goal.returns-then-is_empty
returns-then-is_empty c = λ t.
    ending c.args.path.now c.args.text.now (sym c.is_empty.ensures ∙ c.if-is_empty.true) (c.is_plain.ensures t)
