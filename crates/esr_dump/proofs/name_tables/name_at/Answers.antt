use Rattle.std.proofs.Common.{[], ap, ◌∙◌, unwrap_or}
use Rattle.std.proofs.lemmas.Option.{unwrap_or-slice_get}
use Rattle.esr_dump.proofs.name_tables.name_at.Goals as goal

pub returns-in-None : goal.returns-in-None
returns-in-None g c =
    ap (λ o. unwrap_or o []) c.in-None.ensures ∙ unwrap_or-slice_get (g.N.NamesByPosition.names c.args.names.now) c.args.position []
