use Rattle.std.proofs.Common.{◌≡◌, ◌∙◌, ap, ap₂, ℤ, w64, to_z-of_z}
use mir.Val.{to_z, of_z}
use Rattle.esr_history.specs.declared.event.Event.TheVariants.{Write}
use Rattle.esr_report.specs.Lines.{Named}
use Rattle.esr_script.specs.Text.{transaction_called, item_called}
use Rattle.esr_script.proofs.Requests.{audited}
use Rattle.esr_script.proofs.script.Script.write.Goals as goal

pub returns : goal.returns
returns c =
    let names : ℤ → Named = λ v. record { txn = c.args.txn.now; item = c.args.item.now; value = v } in
    let same : to_z w64 (of_z w64 c.args.value) ≡ c.args.value = to_z-of_z c.ranges.value in
    audited c.ask_write.result c.args.self.now c.ask_write.new.self _ (names c.args.value) _ _ c.args.out.now c.ask_write.new.out (ap names same)
    (ap₂ (λ t x. Write t x (to_z w64 (of_z w64 c.args.value))) c.transaction.ensures c.item.ensures ∙ ap (λ v. Write (transaction_called c.args.self.now c.args.txn.now) (item_called c.args.self.now c.args.item.now) v) same) c.ask_write.ensures
