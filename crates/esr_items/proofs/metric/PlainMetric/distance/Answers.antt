use Rattle.std.proofs.Common.{rules}
use Rattle.esr_items.proofs.metric.PlainMetric.distance.Goals as goal

pub returns : goal.returns
returns c = search rules
