-- A legal history is sound, if its distances are metrics.
use Rattle.std.proofs.Common.{ℕ, List}
use Rattle.esr_history.specs.Machine.{DistanceFunction, Schedule, IsLegal}
use Rattle.esr_history.specs.Sound.{IsSound}
use Rattle.esr_history.proofs.Charges.{legal_within_limits}
use Rattle.esr_history.proofs.Laws.{legal_serializable, import_bounds_distance}
use Rattle.esr_history.proofs.Traces.{IsMetric}

pub legal_sound : (d : DistanceFunction) → ((w : List ℕ) → IsMetric (d w)) → (h : Schedule) → IsLegal d h → IsSound d h
legal_sound d metric h legal = record {
  legal = legal;
  serializable = legal_serializable d h legal;
  limits = legal_within_limits d h legal;
  bounded = import_bounds_distance d metric h legal;
}
