use Rattle.esr_c.proofs.Explained.{explained}
use Rattle.esr_c.proofs.texts.explain.Goals as goal

pub returns-in-Ok-clause-ok : goal.returns-in-Ok-clause-ok
returns-in-Ok-clause-ok c =
    explained c.args.engine.now c.history.result.now.schedule c.args.items.now c.args.transactions.now c.args.query c.args.finding.now c.explanation.result
    c.in-Ok.text c.requires.finding c.requires.query c.history.ensures.schedule c.in-Ok.is c.explanation.ensures
