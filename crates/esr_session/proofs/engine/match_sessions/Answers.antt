use Rattle.std.proofs.Common.{◌≡◌, ◌<◌, List, length, true, Result, Ok, Err, arith, map-id, IfErr}
use Rattle.esr_history.specs.declared.event.Entry.{Entry}
use Rattle.esr_session.specs.declared.receipt.CloseError.{CloseError}
use Rattle.esr_session.specs.declared.receipt.CloseError.TheVariants.{SessionMissing}
use Rattle.esr_session.specs.Engine.{is_missing}
use Rattle.esr_session.specs.Receipts.{IsVerdict, count_in, Receipt}
use Rattle.esr_session.proofs.engine.match_sessions.Goals as goal

-- if a session is missing, there are fewer receipts than entries
fewer : (es : List Entry) (lists : List (List Receipt)) (r : Result (Unit {0}) CloseError) → IsVerdict es lists r → IfErr r (λ e. is_missing e ≡ true → count_in lists < length es)
fewer es lists (Ok _) v = tt
fewer es lists (Err (SessionMissing n total)) v = λ _. omega (arith, v)
fewer es lists (Err _) v = λ is. absurd (cc)

pub returns-clause-verdict : goal.returns-clause-verdict
returns-clause-verdict g c = rw map-id at c.match_all.ensures.verdict

pub returns-clause-missing : goal.returns-clause-missing
returns-clause-missing g c =
    fewer c.args.history.now.schedule.entries c.args.sessions.now c.match_all.result (rw map-id at c.match_all.ensures.verdict)
