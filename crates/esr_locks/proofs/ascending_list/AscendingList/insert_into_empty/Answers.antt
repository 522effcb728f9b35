use Rattle.std.proofs.Common.{◌∙◌, ap}
use Rattle.smallvec.specs.SmallVec.{SmallVec}
use Rattle.esr_locks.proofs.Suffixes.{nothing_left}
use Rattle.esr_locks.proofs.ascending_list.AscendingList.insert_into_empty.Goals as goal

pub returns : goal.returns
returns g c =
    rw c.push_reserved.ensures.items
    (nothing_left c.self.inside.removed c.self.inside.elements.items c.args.element c.self.invariant (ap (λ (v : SmallVec g.row.R.Denot). v.items) c.self.view_is ∙ c.requires.empty))
