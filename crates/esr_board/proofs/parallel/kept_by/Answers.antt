use Rattle.std.proofs.Common.{rules, ◌<◌, length}
use Rattle.esr_board.proofs.Whole.{all_filled}
use Rattle.esr_board.proofs.parallel.kept_by.Goals as goal

pub unwrap_slots-requires-clause-filled : goal.unwrap_slots-requires-clause-filled
unwrap_slots-requires-clause-filled g c = let e = c.in-Ok-gather.ensures in let seats = c.in-Ok-gather.gathered.seats.items in
    let some_seat : 0 < length seats = search rules in
    λ k l. all_filled c.in-Ok.made.0.jobs seats c.in-Ok-gather.gathered.slots.items some_seat (λ j d h. (e.seats.1 j d h).1) c.in-Ok-close.ensures.once e.filled k (search rules)
