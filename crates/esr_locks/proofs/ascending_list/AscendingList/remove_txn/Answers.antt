use Rattle.std.proofs.Common.{◌∙◌, sym}
use Rattle.esr_history.proofs.Ascending.{others_gap}
use Rattle.esr_locks.proofs.Suffixes.{others_removed}
use Rattle.esr_locks.proofs.ascending_list.AscendingList.remove_txn.Goals as goal

pub returns-in-Ok : goal.returns-in-Ok
returns-in-Ok g c = c.remove.ensures ∙ sym (others_removed g.R.Numbered.number c.args.t.0 c.in-Ok.at c.args.self.now.items c.requires c.in-Ok.ensures.found)

pub returns-in_default-search_ending : goal.returns-in_default-search_ending
returns-in_default-search_ending g c = sym (others_gap g.R.Numbered.number c.args.t.0 c.in_default-search_ending.field-0 c.args.self.now.items c.in_default-search_ending.ensures.absent)
