use Rattle.std.proofs.Common.{ap₂, refl, pos}
use Rattle.esr_history.specs.declared.event.Event.TheVariants.{Read}
use Rattle.esr_report.specs.Lines.{Named}
use Rattle.esr_script.proofs.Requests.{audited}
use Rattle.esr_script.proofs.script.Script.read.Goals as goal

pub returns : goal.returns
returns c =
    let names : Named = record { txn = c.args.txn.now; item = c.args.item.now; value = pos 0 } in
    audited c.ask_read.result c.args.self.now c.ask_read.new.self names names _ _ c.args.out.now c.ask_read.new.out refl (ap₂ (λ t x. Read t x) c.transaction.ensures c.item.ensures) c.ask_read.ensures
