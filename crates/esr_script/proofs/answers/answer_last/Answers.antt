use Rattle.std.proofs.Common.{Err}
use Rattle.esr_script.specs.declared.fault.RunFault.TheVariants.{TooManyLines}
use Rattle.esr_script.proofs.Held.{is_some, held_many, held_last, held_same}
use Rattle.esr_script.proofs.Replays.{replay_many, replay_ended}
use Rattle.esr_script.proofs.answers.answer_last.Goals as goal

pub returns-then-count-eq-MAX_LINES-clause-held : goal.returns-then-count-eq-MAX_LINES-clause-held
returns-then-count-eq-MAX_LINES-clause-held g c input sent left here end plain =
    held_same _ input left c.args.out.now (Err TooManyLines) sent (held_many input left _ _ _ sent _ here c.if-count-eq-MAX_LINES.true (is_some _ _ _ c.is_empty.ensures c.if-is_empty.false c.bytes-line.ensures))

pub returns-clause-held : goal.returns-clause-held
returns-clause-held g c input sent left here end plain =
    held_last _ input left _ _ _ sent _ here end plain c.requires.short (is_some _ _ _ c.is_empty.ensures c.if-is_empty.false c.bytes-line.ensures) c.if-count-eq-MAX_LINES.false
    c.answer-ended.result c.answer-ended.new.script _ (rw c.bytes-line.ensures at c.answer-ended.ensures)

pub returns-then-count-eq-MAX_LINES-clause-replay : goal.returns-then-count-eq-MAX_LINES-clause-replay
returns-then-count-eq-MAX_LINES-clause-replay g c input written left here end plain =
    replay_many input left _ _ _ written here c.if-count-eq-MAX_LINES.true (is_some _ _ _ c.is_empty.ensures c.if-is_empty.false c.bytes-line.ensures)

pub returns-clause-replay : goal.returns-clause-replay
returns-clause-replay g c input written left here end plain =
    replay_ended input left _ _ _ written here end plain c.requires.short (is_some _ _ _ c.is_empty.ensures c.if-is_empty.false c.bytes-line.ensures) c.if-count-eq-MAX_LINES.false
    _ c.answer-ended.result c.answer-ended.new.script c.args.out.now c.answer-ended.new.out (rw c.bytes-line.ensures at c.answer-ended.ensures)
