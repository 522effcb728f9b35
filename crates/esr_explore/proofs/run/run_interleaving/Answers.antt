use Rattle.std.proofs.Common.{◌≡◌, ℕ, ◌∙◌, ap, arith, length, map, sym}
use Rattle.std.proofs.lemmas.List.{length-map}
use Rattle.std.proofs.lemmas.List.FromFn.{length-map-range_with_len}
use Rattle.esr_plan.specs.Plan.{weights_of}
use Rattle.esr_explore.specs.Turns.{no_progress, run_state}
use Rattle.esr_explore.proofs.Turning.{ran, started}
use Rattle.esr_explore.proofs.run.run_interleaving.Goals as goal

pub take_turns-requires : goal.take_turns-requires
take_turns-requires c =
    omega (arith, ap length c.in_ok-all_progress.ensures, length-map-range_with_len (λ (_ : ℕ). no_progress) 0 (length c.as_slice-blocks.result.now))

pub finish-requires : goal.finish-requires
finish-requires c =
    c.take_turns.ensures.len ∙ (ap length c.in_ok-all_progress.ensures ∙ length-map-range_with_len (λ (_ : ℕ). no_progress) 0 (length c.as_slice-blocks.result.now))

pub returns-clause-run : goal.returns-clause-run
returns-clause-run c =
    let opening = c.args.drive_plan.now.values.items in
    let weights = weights_of c.args.drive_plan.now.weights.items in
    let blocks = map (λ b. b.items) c.args.drive_plan.now.blocks.items in
    let seen = map (λ b. b.items) c.as_slice-blocks.result.now in
    let same : seen ≡ blocks = ap (λ bs. map (λ b. b.items) bs) c.as_slice-blocks.ensures.value in
    let many : length c.as_slice-blocks.result.now ≡ length blocks = sym (length-map c.as_slice-blocks.result.now (λ b. b.items)) ∙ ap length same in
    ran opening weights blocks seen c.args.order.now (run_state c.in_ok-machine.machine c.in_ok-all_progress.all_progress.items)
    (run_state c.take_turns.new.machine c.take_turns.new.all_progress.items) c.finish.new.machine c.close-history.result.schedule c.finish.new.all_progress.items
    same
    (started opening weights blocks c.in_ok-machine.machine c.in_ok-all_progress.all_progress.items (length c.as_slice-blocks.result.now) c.in_ok-machine.ensures c.in_ok-all_progress.ensures many)
    c.in_default.ensures.run_state c.in_default-finish.ensures.run_state c.in_default-finish.ensures.done c.close-history.ensures.schedule
