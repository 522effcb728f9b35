use Rattle.std.proofs.Common.{rules}
use Rattle.esr_items.proofs.store.Store.len.Goals as goal

pub returns-clause-len : goal.returns-clause-len
returns-clause-len c = search rules
