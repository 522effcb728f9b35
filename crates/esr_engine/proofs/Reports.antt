-- The reads of an active report are within its import.
use Rattle.esr_items.specs.Weights.{weighted, weighted-equal_values, weighted_comm, weighted-triangle}
use Rattle.esr_history.specs.Machine.{Schedule, IsLegal}
use Rattle.esr_history.specs.ReportBounds.{ImportBoundsActive}
use Rattle.esr_history.proofs.ReportBoundsLaws.{import_bounds_active}

pub active_bounded : (h : Schedule) → IsLegal weighted h → ImportBoundsActive weighted h
active_bounded h legal = import_bounds_active weighted (λ w. record { same = weighted-equal_values w; symmetric = weighted_comm w; triangle = weighted-triangle w }) h legal
