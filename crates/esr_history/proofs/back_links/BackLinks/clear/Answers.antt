use Rattle.std.proofs.Common.{replicate, arith}
use Rattle.esr_history.proofs.Linking.{zeros, lasts_length}
use Rattle.esr_history.proofs.back_links.BackLinks.clear.Goals as goal

pub returns-clause-links : goal.returns-clause-links
returns-clause-links c = grind (arith, lasts_length, replicate, zeros)
