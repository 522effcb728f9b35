use Rattle.std.proofs.Common.{◌∙◌, ap, map}
use Rattle.std.specs.List.{range_with_len}
use Rattle.esr_items.specs.Weights.{weighted}
use Rattle.esr_history.specs.Machine.{Schedule, charges_in, export_in}
use Rattle.esr_tables.proofs.exports.replayed_exports.Goals as goal

pub returns : goal.returns
returns c =
    c.in_ok-exports.ensures
    ∙ ap (λ (s : Schedule). map (export_in (charges_in weighted s)) (range_with_len 0 c.args.count)) (c.machine.ensures ∙ (c.in_ok-finish.ensures.whole ∙ c.in_ok-replay.ensures.history))
