use Rattle.std.proofs.Common.{◌≡◌, map}
use Rattle.esr_dump.specs.Naming.{first_names}
use Rattle.esr_dump.proofs.name_tables.first_names.Given as goal

abbrev pub invariant-loop-i : goal.invariant-loop-i
invariant-loop-i g l = map (λ word. word.now) l.words.items ≡ first_names l.i (g.N.NamesByPosition.names l.names)
