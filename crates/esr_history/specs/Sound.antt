-- What holds of every history of the machine.
use Rattle.esr_history.specs.Machine.{DistanceFunction, Schedule, IsLegal}
use Rattle.esr_history.specs.Queries.{ImportBoundsDistance}
use Rattle.esr_history.specs.Serial.{IsSerializable}
use Rattle.esr_history.specs.Totals.{IsWithinLimits}

-- Each reply is the machine's, the committed updates are conflict-serializable, no import or export exceeds its limit,
-- and the reads of each committed query are within its import of the state that all its updates left.
pub record IsSound (d : DistanceFunction) (h : Schedule) : Type 0 where
  pub legal : IsLegal d h
  pub serializable : IsSerializable h
  pub limits : IsWithinLimits d h
  pub bounded : ImportBoundsDistance d h
