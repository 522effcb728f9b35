use Rattle.std.proofs.Common.{arith}
use Rattle.esr_history.proofs.Linking.{link_at}
use Rattle.esr_history.proofs.back_links.BackLinks.earlier_of_txn.Goals as goal

pub returns : goal.returns
returns c = grind (arith, link_at)
