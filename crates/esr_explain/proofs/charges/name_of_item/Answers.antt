use Rattle.std.proofs.Common.{[], ap, ◌∙◌, unwrap_or}
use Rattle.std.proofs.lemmas.Option.{unwrap_or-slice_get}
use Rattle.esr_explain.proofs.charges.name_of_item.Goals as goal

pub returns-in-None : goal.returns-in-None
returns-in-None c = ap (λ o. unwrap_or o []) c.in-None.ensures ∙ unwrap_or-slice_get c.args.items.now c.args.x.0 []
