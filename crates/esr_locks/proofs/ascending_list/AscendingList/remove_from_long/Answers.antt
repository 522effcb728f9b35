use Rattle.std.proofs.Common.{◌∙◌}
use Rattle.esr_locks.proofs.ascending_list.AscendingList.remove_from_long.Goals as goal

pub returns : goal.returns
returns g c = rw (← c.self.view_is) (c.compact-self-inside.ensures.items ∙ c.remove_lazily-removed.ensures.items)
