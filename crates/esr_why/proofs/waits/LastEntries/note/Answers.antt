use Rattle.std.proofs.Common.{arith}
use Rattle.esr_why.proofs.Waiting.{last_entries_none, last_entries_past, last_entries_some}
use Rattle.esr_why.proofs.waits.LastEntries.note.Goals as goal

pub returns-in_default : goal.returns-in_default
returns-in_default c es place last_entries = last_entries_none es c.args.entry c.args.self.now.places.items c.in_default.ensures last_entries

pub returns-then-at-len : goal.returns-then-at-len
returns-then-at-len c es place last_entries = last_entries_some es c.args.entry c.args.self.now.places.items c.in-Some.txn.0 c.args.place c.in-Some.ensures (omega arith) place last_entries

pub returns-else-at-len : goal.returns-else-at-len
returns-else-at-len c es place last_entries = last_entries_past es c.args.entry c.args.self.now.places.items c.in-Some.txn.0 c.in-Some.ensures (omega arith) last_entries
