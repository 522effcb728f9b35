use Rattle.esr_c.proofs.Explained.{explained_as}
use Rattle.esr_c.proofs.texts.explanation_text.Goals as goal

pub returns-in-Ok-clause-ok : goal.returns-in-Ok-clause-ok
returns-in-Ok-clause-ok c =
    explained_as c.args.engine.now c.args.query c.args.names.now c.in_ok-items.items c.in_ok-transactions.transactions c.in-Ok.text.items
    c.find.new.engine c.in_ok-found.ensures.same c.in_ok-items.ensures.ok c.in_ok-transactions.ensures.ok c.in-Ok.ensures.ok
