use Rattle.std.proofs.Common.{◌∙◌}
use Rattle.esr_cert.proofs.Search.{found_pair}
use Rattle.esr_cert.proofs.shape.has_pair.Goals as goal

pub returns : goal.returns
returns c =
    c.is_ok.ensures.value ∙ found_pair c.args.pairs.now c.args.u c.args.v c.binary_search.result c.requires c.binary_search.ensures.bound c.binary_search.ensures.position
