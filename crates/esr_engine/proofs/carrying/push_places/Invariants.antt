use Rattle.esr_history.specs.BackLinks.{coded}
use Rattle.esr_engine.proofs.ActivePlaces.{IsAppended}
use Rattle.esr_engine.proofs.carrying.push_places.Given as goal

abbrev pub invariant-loop-next : goal.invariant-loop-next
invariant-loop-next l = IsAppended l.history.schedule.entries l.fn.t.0 l.fn.places.items l.places.items l.next

abbrev pub decreases-loop-next : goal.decreases-loop-next
decreases-loop-next l = coded l.next
