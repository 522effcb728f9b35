use Rattle.std.proofs.Common.{◌∙◌}
use Rattle.esr_cert.proofs.Search.{found_in_set}
use Rattle.esr_cert.proofs.lists.contains.Goals as goal

pub returns : goal.returns
returns c = c.is_ok.ensures.value ∙ found_in_set c.args.set.now c.args.number c.binary_search.result c.requires c.binary_search.ensures.position
