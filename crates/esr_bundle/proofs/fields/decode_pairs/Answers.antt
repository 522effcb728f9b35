use Rattle.std.proofs.Common.{rules, map-id}
use Rattle.esr_bundle.proofs.fields.decode_pairs.Goals as goal

pub returns : goal.returns
returns c = search (rules, map-id)
