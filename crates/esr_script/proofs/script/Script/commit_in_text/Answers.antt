use Rattle.std.proofs.Common.{ap, [], pos}
use Rattle.esr_history.specs.declared.event.Event.TheVariants.{Commit}
use Rattle.esr_report.specs.Lines.{Named}
use Rattle.esr_script.proofs.Requests.{audited}
use Rattle.esr_script.proofs.script.Script.commit_in_text.Goals as goal

pub returns : goal.returns
returns c =
    let names : Named = record { txn = c.args.txn.now; item = []; value = pos 0 } in
    audited c.ask.result c.args.self.now c.ask.new.self _ names _ _ c.args.out.now.items c.ask.new.out.items c.alone.ensures (ap (λ t. Commit t) c.transaction.ensures) c.ask.ensures
