use Rattle.std.proofs.Common.{rules}
use Rattle.esr_plan.proofs.Adding.{operation_added}
use Rattle.esr_plan.proofs.draft.Draft.add_operation.Goals as goal

pub returns-clause-ok : goal.returns-clause-ok
returns-clause-ok c =
    operation_added c.args.self.now c.in-Some.block c.push.new.self c.args.call c.requires.sound c.in-Some.is (search rules) c.requires.plain c.requires.resolved
