use Rattle.std.proofs.Common.{rules}
use Rattle.esr_plan.specs.declared.call.Call.TheVariants.{Begin}
use Rattle.esr_plan.proofs.Adding.{begin_added, begins_name}
use Rattle.esr_plan.proofs.draft.Draft.add_begin.Goals as goal

pub returns-clause-ok : goal.returns-clause-ok
returns-clause-ok c =
    let named = begins_name c.args.kind c.args.name.now c.args.limit in
    begin_added c.args.self.now c.in-Some.block c.push.new.self _ _ (Begin c.args.name c.args.kind c.args.limit) c.args.name.now c.requires.sound c.in-Some.is (search rules) named (search rules) (search rules) tt (search rules)
