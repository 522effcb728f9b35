use Rattle.std.proofs.Common.{◌≡◌, map}
use Rattle.std.specs.List.{range_with_len}
use Rattle.esr_items.specs.Weights.{weighted}
use Rattle.esr_history.specs.Machine.{charges_in, export_in}
use Rattle.esr_tables.proofs.exports.exports_in.Given as goal

abbrev pub invariant-loop-number : goal.invariant-loop-number
invariant-loop-number l = l.exports.items ≡ map (export_in (charges_in weighted l.machine)) (range_with_len 0 l.number)
