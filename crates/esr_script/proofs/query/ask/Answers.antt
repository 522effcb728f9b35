use Rattle.std.proofs.Common.{arith}
use Rattle.esr_base.specs.Watch.{inner}
use Rattle.esr_script.proofs.Handed.{handed_on}
use Rattle.esr_script.proofs.Ends.{reached_fault, audited_after}
use Rattle.esr_script.proofs.query.ask.Goals as goal

pub returns-in_err-script-clause-audited : goal.returns-in_err-script-clause-audited
returns-in_err-script-clause-audited g c input known = rw (handed_on _ _ c.from_residual.ensures.1) (grind (arith, reached_fault))

pub returns-clause-audited : goal.returns-clause-audited
returns-clause-audited g c input known =
    let replayed = c.in_ok-script.ensures.replay input known in
    audited_after input c.args.name.now (g.R.Read.remaining (inner c.replay.new.reader)) c.in_ok-script.script c.audited_query.result replayed.0 replayed.1 replayed.2
    c.audited_query.ensures.answered c.audited_query.ensures.not_committed_query c.audited_query.ensures.faults
