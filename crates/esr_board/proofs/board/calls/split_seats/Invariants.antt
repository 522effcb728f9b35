use Rattle.std.proofs.Common.{◌≡◌, ◌+◌, [], All, vec_len}
use Rattle.esr_board.specs.Claims.{hand}
use Rattle.esr_board.specs.Boards.{hand_of}
use Rattle.esr_board.proofs.board.calls.split_seats.Given as goal

abbrev pub invariant-loop : goal.invariant-loop
invariant-loop l =
    (l.first.table_id ≡ l.table.shared.table_id)
    × (l.first.me.0.jobs ≡ l.table.shared.key.jobs) × (l.first.me.0.claimed ≡ []) × (l.first.me.1 ≡ [])
    × (l.first.me.0.passes + l.counter ≡ l.seats + 1)
    × (vec_len l.made + 1 ≡ l.counter)
    × All (λ s. (s.seat.table_id ≡ l.table.shared.table_id) × (hand_of s ≡ hand l.table.shared.key.jobs 1 [])) l.made.items
