use Rattle.std.proofs.Common.{rules}
use Rattle.esr_session.proofs.lock.receipt.Goals as goal

pub returns : goal.returns
returns c = search rules
