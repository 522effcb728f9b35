use Rattle.std.proofs.Common.{◌≡◌, true, map, take}
use Rattle.std.specs.List.{list_all}
use Rattle.esr_grammar.specs.Command.{is_name}
use Rattle.esr_dump.proofs.name_tables.table.Given as goal

abbrev pub invariant-loop-word : goal.invariant-loop-word
invariant-loop-word l = (l.names ≡ map (λ word. word.now) (take l.word-index l.words)) × (list_all is_name l.names ≡ true)
