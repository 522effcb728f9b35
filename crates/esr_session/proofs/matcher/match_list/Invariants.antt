use Rattle.std.proofs.Common.{◌≡◌, ◌++◌, map, take, vec_len, length}
use Rattle.esr_session.specs.Receipts.{ValidFrom, next_place, receipts_in}
use Rattle.esr_session.specs.Marks.{AreMarked}
use Rattle.esr_session.proofs.matcher.match_list.Given as goal

-- the receipts so far are good and marked
abbrev pub invariant-loop-r : goal.invariant-loop-r
invariant-loop-r g l =
    record {
      len : vec_len l.marks ≡ length l.history.schedule.entries;
      low_is : l.low ≡ next_place 0 (take l.r-index l.list);
      good : ValidFrom l.history.schedule.entries (receipts_in (map g.L.HasReceipts.receipts l.done)) 0 (take l.r-index l.list);
      marked : AreMarked (receipts_in (map g.L.HasReceipts.receipts l.done) ++ take l.r-index l.list) l.marks.items;
    }
