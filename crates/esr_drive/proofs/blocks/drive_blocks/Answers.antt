use Rattle.std.proofs.Common.{rules, ◌≡◌, ℕ, List, All, length, map, sym, subst, ◌∙◌}
use Rattle.esr_session.specs.declared.receipt.Receipt.{Receipt}
use Rattle.esr_plan.specs.declared.call.Call.{Call}
use Rattle.esr_plan.specs.Calls.{command_of, AreResolved, all_answers, AreAnswered}
use Rattle.esr_plan.specs.Blocks.{AreBlocks}
use Rattle.esr_drive.specs.Faults.{IsEngineFault}
use Rattle.esr_drive.proofs.Tasks.{blocks_ran, fault_reported}
use Rattle.esr_drive.proofs.blocks.drive_blocks.Goals as goal

pub returns-in-Err : goal.returns-in-Err
returns-in-Err g c =
    let tasks = c.in_ok-tasks.tasks.items in
    let rans = c.in_ok-all.all.items in
    let len : length rans ≡ length tasks = search rules in
    subst (λ (b : List (List Call)). IsEngineFault b c.in-Err.fault) c.in_ok-tasks.ensures.calls
    (fault_reported (λ task. task.calls.now) (λ ran. ran.session) tasks rans c.in-Err.fault len c.in_ok-all.ensures.upper_bound c.in-Err.ensures.engine c.in-Err.ensures.full)

pub returns-in-Ok-close : goal.returns-in-Ok-close
returns-in-Ok-close g c =
    let h = c.in-Ok-close.ensures.history in
    let tasks = c.in_ok-tasks.tasks.items in
    let rans = c.in_ok-all.all.items in
    let sessions = c.in-Ok.gathered.sessions.items in
    let replies = c.in-Ok.gathered.replies.items in
    let lists = map (λ r. r.items) replies in
    let len : length rans ≡ length tasks = search rules in
    let ran = blocks_ran (λ task. task.calls.now) (λ ran. ran.session) (λ ran. ran.outcome) (λ r. r.items) tasks rans replies len c.in_ok-all.ensures.runs c.in-Ok.ensures.replies in
    let calls = c.in_ok-tasks.ensures.calls in (
      record {
        legal = h.2;
        opening_is = h.0 ∙ sym c.requires.opening;
        weights_are = h.1 ∙ sym c.requires.weights;
        upper_bound = h.3;
        answered = subst (λ (b : List (List Call)). AreAnswered b lists) calls ran.0;
        commands = subst (λ (b : List (List Call)). map (λ b. map (λ a. a.command) b) (all_answers b lists) ≡ map (λ b. map command_of b) b) calls ran.2;
        receipts = sessions;
        runs = subst (λ (b : List (List Call)). (names : List (List ℕ)) → All (AreResolved names) b → AreBlocks names (all_answers b lists) sessions) calls
            (subst (λ (rs : List (List Receipt)). (names : List (List ℕ)) → All (AreResolved names) (map (λ task. task.calls.now) tasks) → AreBlocks names (all_answers (map (λ task. task.calls.now) tasks) lists) rs) (sym c.in-Ok.ensures.sessions) ran.1);
        matching = c.in-Ok-close.ensures.matching;
      },
      c.in-Ok-close.ensures.totals,
    )
