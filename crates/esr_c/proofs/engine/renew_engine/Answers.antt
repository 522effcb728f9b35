use Rattle.std.proofs.Common.{List, subst, rules}
use Rattle.esr_items.specs.Weights.{weighted}
use Rattle.esr_history.specs.declared.event.Entry.{Entry}
use Rattle.esr_history.specs.Legal.{continued}
use Rattle.esr_history.specs.Machine.{Schedule, IsLegal}
use Rattle.esr_core.specs.Renewed.{AreSerializableAsOne}
use Rattle.esr_c.proofs.engine.renew_engine.Goals as goal

pub returns-in-Ok-clause-serializable_as_one : goal.returns-in-Ok-clause-serializable_as_one
returns-in-Ok-clause-serializable_as_one g c =
    let law = λ (k : Schedule). (later : List Entry) → IsLegal weighted (continued k later) → AreSerializableAsOne g.args.engine.now (continued k later) in
    record { as_one = subst law g.in-Ok.ensures.ok g.in-Ok.ensures.serializable_as_one }

pub returns-in-Err-TransactionActive-clause-active : goal.returns-in-Err-TransactionActive-clause-active
returns-in-Err-TransactionActive-clause-active c = search rules
