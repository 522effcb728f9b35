use Rattle.std.proofs.Common.{◌∙◌, sym}
use Rattle.esr_c.proofs.esr_check.Goals as goal

pub returns-clause-verdict : goal.returns-clause-verdict
returns-clause-verdict c done = c.show_verdict.ensures.verdict (sym c.number.ensures ∙ done)
