use Rattle.std.proofs.Common.{rules}
use Rattle.esr_plan.proofs.Adding.{opens_none, opens_some, session_after}
use Rattle.esr_plan.proofs.draft.Draft.add_session.Goals as goal
use Rattle.esr_plan.proofs.draft.Draft.add_session.Goals.{in-None, in-Some+else-len-ge-MAX_BLOCKS+else-is_err}

pub returns-clause-ok : goal.returns-clause-ok
returns-clause-ok c =
    let d = c.args.self.now in
    session_after d c.match-take.self c.new.result c.len-self.result c.requires
    (elim c.match-take.branch [
      | in-None w ↦ opens_none d c.match-take.self c.take.new.self c.requires (search rules) w.self-is c.take.ensures.after
      | in-Some+else-len-ge-MAX_BLOCKS+else-is_err w ↦
          opens_some d c.match-take.self c.take.new.self w.push.new.self w.in-Some.block c.requires (search rules) w.self-is c.take.ensures.after (search rules) (search rules)
    ]) c.new.ensures.items c.len-self.ensures.len
