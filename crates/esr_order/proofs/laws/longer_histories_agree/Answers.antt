use Rattle.esr_history.proofs.Laws.{audit_stays}
use Rattle.esr_order.proofs.laws.longer_histories_agree.Goals as goal

pub returns : goal.returns
returns c = audit_stays
