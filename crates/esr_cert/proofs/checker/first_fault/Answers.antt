use Rattle.std.proofs.Common.{rules}
use Rattle.esr_cert.proofs.checker.first_fault.Goals as goal

pub returns-then-not-is_strictly_ascending : goal.returns-then-not-is_strictly_ascending
returns-then-not-is_strictly_ascending c = search rules
