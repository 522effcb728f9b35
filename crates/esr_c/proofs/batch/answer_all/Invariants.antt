use Rattle.std.proofs.Common.{◌≡◌, true}
use Rattle.esr_c.specs.Many.{AreAnswered, events_in, replies_to}
use Rattle.esr_c.proofs.InTurn.{all_accepted}
use Rattle.esr_c.proofs.batch.answer_all.Given as goal

-- the events so far are executed, and none was refused if `stop` is set
abbrev pub invariant-loop-i : goal.invariant-loop-i
invariant-loop-i l = record {
  answered : AreAnswered l.initial.engine l.engine l.events l.i l.replies;
  counted : l.count ≡ l.i;
  accepted : l.stop ≡ true → all_accepted (replies_to l.initial.engine (events_in l.i l.events)) ≡ true;
}
