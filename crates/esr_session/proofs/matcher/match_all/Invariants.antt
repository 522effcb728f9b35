use Rattle.std.proofs.Common.{◌≡◌, [], map, take, vec_len, length}
use Rattle.esr_session.specs.Receipts.{AllValid, receipts_in}
use Rattle.esr_session.specs.Marks.{AreMarked}
use Rattle.esr_session.proofs.matcher.match_all.Given as goal

-- the lists so far are good and marked
abbrev pub invariant-loop-i : goal.invariant-loop-i
invariant-loop-i g l =
    record {
      len : vec_len l.marks ≡ length l.history.schedule.entries;
      good : AllValid l.history.schedule.entries [] (take l.i (map g.L.HasReceipts.receipts l.lists));
      marked : AreMarked (receipts_in (take l.i (map g.L.HasReceipts.receipts l.lists))) l.marks.items;
    }
