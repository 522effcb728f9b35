use Rattle.std.proofs.Common.{arith}
use Rattle.esr_history.proofs.Linking.{zeros}
use Rattle.esr_history.proofs.back_links.BackLinks.new.Goals as goal

pub returns : goal.returns
returns c = grind (arith, zeros c.args.items)
