use Rattle.esr_bundle.proofs.Wide.{all_positions}
use Rattle.esr_bundle.proofs.writer.as_positions.Goals as goal

pub returns-clause-fits : goal.returns-clause-fits
returns-clause-fits c = all_positions c.args.list.now c.type_inv.list
