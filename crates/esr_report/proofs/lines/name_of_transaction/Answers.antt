use Rattle.std.proofs.Common.{[], ap, ◌∙◌, unwrap_or, get_or}
use Rattle.std.proofs.lemmas.Option.{unwrap_or-slice_get}
use Rattle.esr_report.proofs.lines.name_of_transaction.Goals as goal

pub returns-in-None : goal.returns-in-None
returns-in-None g c =
    let names = g.N.NamesByPosition.names c.args.names.now in
    let size = c.saturating_sub.ensures in
    ap (λ o. unwrap_or o []) c.in-None.ensures ∙ unwrap_or-slice_get names c.saturating_sub.result [] ∙ ap (λ n. get_or names n []) size
