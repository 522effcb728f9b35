use Rattle.std.proofs.Common.{rules}
use Rattle.esr_plan.proofs.Adding.{item_added}
use Rattle.esr_plan.proofs.draft.Draft.add_item.Goals as goal

pub returns-clause-ok : goal.returns-clause-ok
returns-clause-ok c =
    item_added c.args.self.now c.bind.new.self c.push.new.self c.push-else-is_err-2.new.self c.args.name.now c.args.value c.args.weight c.requires (search rules) (search rules) (search rules) (search rules) (search rules) (search rules) (search rules) (search rules)
