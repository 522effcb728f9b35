use Rattle.std.proofs.Common.{rules}
use Rattle.esr_plan.proofs.Adding.{done_with, done_alone, plan_made}
use Rattle.esr_plan.proofs.drive_plan.finish.Goals as goal
use Rattle.esr_plan.proofs.drive_plan.finish.Goals.{in-None, in-Some+in_ok-push-in-Some}

pub returns : goal.returns
returns c =
    let made = plan_made c.args.draft c.match-current.blocks c.requires
    (elim c.match-current.branch [
      | in-None w ↦ done_alone c.args.draft c.match-current.blocks c.requires (search rules) (search rules)
      | in-Some+in_ok-push-in-Some w ↦ done_with c.args.draft c.match-current.blocks w.in-Some.block c.requires (search rules) (search rules)
    ]) in
    record { plan = made.0; sound = made.1 }
