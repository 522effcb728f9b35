use Rattle.std.proofs.Common.{true, None, Some}
use Rattle.esr_history.specs.Machine.{Schedule}
use Rattle.esr_core.specs.States.{IsReadBy, IsReadCharge}
use Rattle.esr_core.proofs.state.State.read_as_query.Goals as goal

pub read_of_written-requires-clause-reached : goal.read_of_written-requires-clause-reached
read_of_written-requires-clause-reached g c =
    let h : Schedule = c.requires.reached.0 in
    let by : IsReadBy true h c.args.q c.args.x = c.requires.reached.2 in
    let charge : IsReadCharge g.M.Metric.distance_by h c.args.self.now c.args.q c.args.x (Some c.in-Some.charge) = (by.0, c.requires.item, rw c.requires.reached.1 c.in-Some.ensures) in
    (g.M.Metric.distance_by, h, charge, by, c.requires.reached.3)

pub returns-in-Some-clause-answers : goal.returns-in-Some-clause-answers
returns-in-Some-clause-answers g c = λ h same rep by.
    let charge : IsReadCharge g.M.Metric.distance_by h c.args.self.now c.args.q c.args.x (Some c.in-Some.charge) = (by.0, c.requires.item, rw same c.in-Some.ensures) in
    c.read_of_written.ensures.answers g.M.Metric.distance_by h rep by charge

pub returns-in-Some-clause-charged : goal.returns-in-Some-clause-charged
returns-in-Some-clause-charged g c = λ h same rep by.
    let charge : IsReadCharge g.M.Metric.distance_by h c.args.self.now c.args.q c.args.x (Some c.in-Some.charge) = (by.0, c.requires.item, rw same c.in-Some.ensures) in
    c.read_of_written.ensures.charged g.M.Metric.distance_by h rep by charge

pub read_with_charge-requires-clause-reached : goal.read_with_charge-requires-clause-reached
read_with_charge-requires-clause-reached g c =
    let h : Schedule = c.requires.reached.0 in
    let by : IsReadBy true h c.args.q c.args.x = c.requires.reached.2 in
    let charge : IsReadCharge g.M.Metric.distance_by h c.args.self.now c.args.q c.args.x None = (by.0, c.requires.item, rw c.requires.reached.1 c.in-None.ensures) in
    (g.M.Metric.distance_by, h, charge, by, c.requires.reached.3)

pub returns-in-None-clause-answers : goal.returns-in-None-clause-answers
returns-in-None-clause-answers g c = λ h same rep by.
    let charge : IsReadCharge g.M.Metric.distance_by h c.args.self.now c.args.q c.args.x None = (by.0, c.requires.item, rw same c.in-None.ensures) in
    c.read_with_charge.ensures.answers g.M.Metric.distance_by h rep by charge

pub returns-in-None-clause-charged : goal.returns-in-None-clause-charged
returns-in-None-clause-charged g c = λ h same rep by.
    let charge : IsReadCharge g.M.Metric.distance_by h c.args.self.now c.args.q c.args.x None = (by.0, c.requires.item, rw same c.in-None.ensures) in
    c.read_with_charge.ensures.charged g.M.Metric.distance_by h rep by charge
