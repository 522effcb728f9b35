use Rattle.esr_explain.proofs.Sent.{explained_summary, audited_summary}
use Rattle.esr_explain.proofs.query.ExplainingQueryView.text_of.Goals as goal

pub returns-in-Ok : goal.returns-in-Ok
returns-in-Ok c s name answered =
    let a = c.args.audited.now in explained_summary s name a answered _ (c.in-Ok.ensures (audited_summary s name a answered))
