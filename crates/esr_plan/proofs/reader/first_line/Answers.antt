use Rattle.std.proofs.Common.{sym, ◌∙◌, length, ◌<◌}
use Rattle.esr_plan.proofs.Cuts.{no_feed, some}
use Rattle.esr_plan.proofs.reader.first_line.Goals as goal

pub returns-in-None : goal.returns-in-None
returns-in-None c =
    let more : 0 < length c.args.bytes.now = some _ (sym c.is_empty.ensures ∙ c.if-is_empty.false) in
    (no_feed c.args.bytes.now (sym c.in-None.ensures) more, more)
