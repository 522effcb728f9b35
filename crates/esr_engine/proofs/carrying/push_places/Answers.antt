use Rattle.esr_engine.proofs.ActivePlaces.{appended_done, appended_next, appended_none, appended_smaller}
use Rattle.esr_engine.proofs.carrying.push_places.Goals as goal

pub loop-next-init : goal.loop-next-init
loop-next-init c = appended_none c.args.history.now.schedule.entries c.args.t.0 c.args.places.now.items c.last_of_txn-next.result c.last_of_txn-next.ensures

pub loop-next-preserved : goal.loop-next-preserved
loop-next-preserved c =
    appended_next c.args.history.now.schedule.entries c.args.t.0 c.args.places.now.items c.loop-next.places.items c.loop-next.next c.loop-next.invariant c.in-Some.i c.in-Some.is
    c.push.new.self.items c.in_ok-push.ensures.items c.earlier_of_txn-next.result c.earlier_of_txn-next.ensures

pub loop-next-smaller : goal.loop-next-smaller
loop-next-smaller c =
    appended_smaller c.args.history.now.schedule.entries c.args.t.0 c.args.places.now.items c.loop-next.places.items c.loop-next.next c.loop-next.invariant c.in-Some.i c.in-Some.is
    c.earlier_of_txn-next.result c.earlier_of_txn-next.ensures

pub returns : goal.returns
returns c =
    appended_done c.args.history.now.schedule.entries c.args.t.0 c.args.places.now.items c.loop-next.places.items c.loop-next.next c.loop-next.invariant c.in_default.is
