use Rattle.esr_dump.specs.RoundTrip.{RoundTrips}
use Rattle.esr_dump.specs.Lines.{script}
use Rattle.esr_dump.proofs.RoundTrip.{carried, round_trips}
use Rattle.esr_dump.proofs.spelling.script.Goals as goal

pub returns-clause-again : goal.returns-clause-again
returns-clause-again c names =
    let h = c.args.history.now.schedule in let is = c.args.items.now in let ts = c.args.transactions.now in
    carried (λ v. v.items) (RoundTrips is ts h) (script is ts h) c.whole.result c.whole.ensures
    (round_trips is ts h names c.len.ensures.distinct c.len-2.ensures.distinct c.log-invariant.ensures.range c.log-invariant.ensures.legal)
