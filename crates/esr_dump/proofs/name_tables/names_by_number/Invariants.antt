use Rattle.std.proofs.Common.{◌≡◌}
use Rattle.esr_dump.specs.Naming.{all_numbered}
use Rattle.esr_dump.proofs.name_tables.names_by_number.Given as goal

abbrev pub invariant-loop-i : goal.invariant-loop-i
invariant-loop-i l = l.names ≡ all_numbered l.word l.first l.i
