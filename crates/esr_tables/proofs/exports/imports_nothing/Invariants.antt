use Rattle.std.proofs.Common.{◌≡◌, sum_by}
use Rattle.std.specs.List.{range_with_len}
use Rattle.esr_items.specs.Weights.{weighted}
use Rattle.esr_history.specs.Machine.{charges_in, import_in}
use Rattle.esr_tables.proofs.exports.imports_nothing.Given as goal

-- those so far imported nothing
abbrev pub invariant-loop-index : goal.invariant-loop-index
invariant-loop-index l = sum_by (λ t. import_in (charges_in weighted l.history.schedule) t) (range_with_len 1 l.index) ≡ 0
