use Rattle.esr_script.proofs.Held.{answered_in_full, answered_unread}
use Rattle.esr_script.proofs.answers.answer.Goals as goal

pub returns-in-NoReader : goal.returns-in-NoReader
returns-in-NoReader g c =
    rw c.show-ended.ensures (answered_unread _ _ _ _ _ _ (c.audience-audience.ensures c.in-NoReader.is) c.answer-answered.ensures.state c.clear.ensures)

pub returns-in_default : goal.returns-in_default
returns-in_default g c = rw c.show-ended.ensures (answered_in_full _ _ _ _ _ _ (c.answer-answered.ensures.text c.in_default.is))
