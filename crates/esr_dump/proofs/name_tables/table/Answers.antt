use Rattle.std.proofs.Common.{sym}
use Rattle.esr_dump.proofs.Tables.{pushed, refused, repeated}
use Rattle.esr_dump.proofs.name_tables.table.Goals as goal

pub returns-in_default : goal.returns-in_default
returns-in_default c = sym (refused c.args.words.now c.loop-word.word-index _ c.loop-word-test.true c.in_default.ensures)

pub returns-then-is_some : goal.returns-then-is_some
returns-then-is_some c =
    sym (repeated c.args.words.now c.loop-word.word-index _ c.loop-word-test.true c.loop-word.names c.in-Some.name.now c.number_of.result
    c.loop-word.invariant.0 c.in-Some.ensures c.number_of.ensures (cc (c.is_some.ensures, c.if-is_some.true)))

pub loop-word-preserved : goal.loop-word-preserved
loop-word-preserved c =
    pushed c.args.words.now c.loop-word.word-index _ c.loop-word-test.true c.loop-word.names c.in-Some.name.now c.bind.new.self
    c.loop-word.invariant.0 c.loop-word.invariant.1 c.in-Some.ensures c.in_ok-bind.ensures.appended
