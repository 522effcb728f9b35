use Rattle.std.proofs.Common.{rules}
use Rattle.esr_session.proofs.matcher.match_receipts.Goals as goal

pub returns-clause-verdict : goal.returns-clause-verdict
returns-clause-verdict g c = search rules

pub returns-clause-every_entry : goal.returns-clause-every_entry
returns-clause-every_entry g c = search rules
