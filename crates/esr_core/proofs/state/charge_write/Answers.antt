use Rattle.esr_core.proofs.Charges.{booked_when, booked_unless}
use Rattle.esr_core.proofs.state.charge_write.Goals as goal

pub returns-clause-charged : goal.returns-clause-charged
returns-clause-charged c = rw c.limit_refusal.ensures (booked_when c.try_charge.result c.args.ledgers.now c.args.u c.args.charges.now c.try_charge.new.self c.try_charge.ensures.ledgers)

pub returns-clause-refused : goal.returns-clause-refused
returns-clause-refused c = rw c.limit_refusal.ensures (booked_unless c.try_charge.result c.args.ledgers.now c.args.u c.args.charges.now c.try_charge.new.self c.try_charge.ensures.ledgers)
