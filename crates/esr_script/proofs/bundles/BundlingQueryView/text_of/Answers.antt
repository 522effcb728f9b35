use Rattle.std.proofs.lemmas.Result.{IfOk-weaker}
use Rattle.esr_script.proofs.Replays.{bundle_rendered}
use Rattle.esr_script.proofs.bundles.BundlingQueryView.text_of.Goals as goal

pub returns : goal.returns
returns c s name answered =
    let steps = c.args.self.now.steps in
    IfOk-weaker c.bundle_line.result _ _ (λ v is. bundle_rendered steps s name c.args.audited.now answered v.items is) c.bundle_line.ensures
