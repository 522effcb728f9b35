use Rattle.std.proofs.Common.{rules}
use Rattle.esr_c.proofs.esr_begin_query.Goals as goal

pub returns : goal.returns
returns c = search rules
