use Rattle.std.proofs.Common.{sym, ap, not, arith}
use Rattle.esr_history.proofs.Ascending.{placed_same, placed_gap, any_place, any_gap}
use Rattle.esr_locks.specs.LockEntries.{reader}
use Rattle.esr_locks.proofs.lists.add_among.Goals as goal

pub returns-in-Ok-clause-items : goal.returns-in-Ok-clause-items
returns-in-Ok-clause-items c = sym (placed_same (λ r. r.update.0) c.args.t.0 c.in-Ok.field-0 (reader c.args.t) c.args.readers.now.items c.requires.ascending c.in-Ok.ensures.found)

pub returns-in-Ok-clause-is_new : goal.returns-in-Ok-clause-is_new
returns-in-Ok-clause-is_new c = ap not (sym (any_place (λ r. r.update.0) c.args.t.0 c.in-Ok.field-0 c.args.readers.now.items (reader c.args.t) c.in-Ok.ensures.found))

pub returns-in-Err-clause-items : goal.returns-in-Err-clause-items
returns-in-Err-clause-items c = grind (arith, placed_gap)

pub returns-in-Err-clause-is_new : goal.returns-in-Err-clause-is_new
returns-in-Err-clause-is_new c = ap not (sym (any_gap (λ r. r.update.0) c.args.t.0 c.in-Err.at c.args.readers.now.items c.in-Err.ensures.absent))
