-- The list of carried transactions is as long as there are active ones.
use Rattle.std.proofs.Common.{◌≡◌, ◌∙◌, length}
use Rattle.std.proofs.lemmas.List.{length-map}
use Rattle.std.proofs.lemmas.List.Sums.{length-filter}
use Rattle.esr_items.specs.Weights.{weighted}
use Rattle.esr_history.specs.Events.{is_active, txn_numbers}
use Rattle.esr_history.specs.Machine.{Schedule, accepted_in}
use Rattle.esr_core.specs.Carried.{active_numbers}
use Rattle.esr_engine.specs.Capacity.{active_count}
use Rattle.esr_engine.specs.Carrying.{carried_as, carried_in}

pub carried_count : (h : Schedule) → length (carried_in weighted h) ≡ active_count (accepted_in h)
carried_count h = length-map (active_numbers h) (carried_as weighted h) ∙ length-filter (is_active (accepted_in h)) (txn_numbers (accepted_in h))
