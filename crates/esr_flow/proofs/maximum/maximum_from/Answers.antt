use Rattle.std.proofs.Common.{arith, ◌≡◌, ◌∙◌, ◌++◌, append-nil, length, take, drop, sym, ap, subst}
use Rattle.std.proofs.lemmas.List.{drop_all, take_all}
use Rattle.esr_cert.specs.Flow.{amount_at, IsFlow}
use Rattle.esr_flow.specs.ResidualGraph.{network_of}
use Rattle.esr_flow.specs.Maximum.{IsStart}
use Rattle.esr_flow.proofs.FlowLaws.{Taken, taken}
use Rattle.esr_flow.proofs.maximum.maximum_from.Goals as goal

-- the flow is the result of the phases, of which this is known
kept : (c : goal.After-drop-entries-2) → take c.args.flow.len (c.run_phases.new.flow ++ drop (length c.run_phases.new.flow) c.args.flow.items) ≡ c.run_phases.new.flow
kept c =
    let flow = c.args.flow in
    let same : length c.run_phases.new.flow ≡ length flow.items = omega (arith, c.run_phases.auto.flow, ap length c.deref_mut.ensures.value) in
    ap (λ rest. take flow.len (c.run_phases.new.flow ++ rest)) (drop_all (length c.run_phases.new.flow) flow.items (omega arith))
    ∙ ap (take flow.len) (append-nil c.run_phases.new.flow)
    ∙ take_all flow.len c.run_phases.new.flow (omega (arith, flow.ok.0))

known : (c : goal.After-drop-entries-2) → Taken (network_of c.args.graph.now) c.args.flow.items c.in_ok-taken.taken.augmentations c.run_phases.new.flow
known c =
    let same : c.deref_mut.result.now ≡ c.args.flow.items = c.deref_mut.ensures.value in
    subst (λ first. Taken (network_of c.args.graph.now) first c.in_ok-taken.taken.augmentations c.run_phases.new.flow) same
    (taken (network_of c.args.graph.now) c.args.graph.now.kept.is_network c.deref_mut.result.now (subst (IsStart (network_of c.args.graph.now)) (sym same) c.requires.start) c.in_ok-taken.taken.augmentations c.run_phases.new.flow c.in_ok-taken.ensures.takes)

pub returns-clause-flow : goal.returns-clause-flow
returns-clause-flow c = subst (IsFlow (network_of c.args.graph.now)) (sym (kept c)) (known c).is_flow

pub returns-clause-amounts : goal.returns-clause-amounts
returns-clause-amounts c i = omega (arith, (known c).amounts_small i, ap (λ f. amount_at f i) (kept c), c.in_ok-taken.ensures.worth)
