use Rattle.std.proofs.Common.{[], ◌∷◌, ◌++◌, ◌∙◌, ap, map, sym}
use Rattle.esr_explore.specs.Turns.{RunState, run_state, after_turn}
use Rattle.esr_explore.proofs.Turning.{then_turn}
use Rattle.esr_explore.proofs.run.finish.Goals as goal

pub loop-turn-preserved : goal.loop-turn-preserved
loop-turn-preserved c =
    let blocks = map (λ b. b.items) c.args.blocks.now in
    let rest = c.loop-turn.invariant.1.0 in
    let block = c.in-Some.block in (
      c.execute_turn.ensures.len ∙ c.loop-turn.invariant.0,
      (
        rest ++ block ∷ [],
        c.in_ok-execute_turn.ensures.run_state
            ∙ (ap (λ (s : RunState). after_turn blocks s block) c.loop-turn.invariant.1.1
            ∙ sym (then_turn blocks (run_state c.args.machine.now c.args.all_progress.now.items) rest block)),
      ),
    )
