use Rattle.std.proofs.Common.{sym, ap, not, arith}
use Rattle.esr_history.proofs.Ascending.{placed_at, placed_gap, any_gap}
use Rattle.esr_locks.specs.declared.lists.QueryReads.{QueryReads}
use Rattle.esr_locks.specs.LockEntries.{first_reads, more_reads}
use Rattle.esr_locks.proofs.lists.count_read.Goals as goal

pub returns-in-Ok-clause-items : goal.returns-in-Ok-clause-items
returns-in-Ok-clause-items c =
    let no_one : QueryReads = record { query = record { 0 = 0 }; count = 0 } in
    rw (c.replace.ensures, c.as_slice.ensures)
    (placed_at (λ r. r.query.0) c.args.q.0 (first_reads c.args.q) more_reads c.args.queries.now.items c.requires.ascending c.in-Ok.at no_one c.in-Ok.ensures.found)

pub returns-in-Err-clause-items : goal.returns-in-Err-clause-items
returns-in-Err-clause-items c = grind (arith, placed_gap)

pub returns-in-Err-clause-is_new : goal.returns-in-Err-clause-is_new
returns-in-Err-clause-is_new c = ap not (sym (any_gap (λ r. r.query.0) c.args.q.0 c.in-Err.at c.args.queries.now.items c.in-Err.ensures.absent))
