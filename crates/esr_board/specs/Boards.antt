-- A board and its seats as callers see them.
use Rattle.std.specs.Prelude.{◌≡◌, ℕ, List, flat_map}
use Rattle.esr_board.specs.Claims.{Hand}
use Rattle.esr_board.specs.declared.board.Board.{Board}
pub use Rattle.esr_board.specs.declared.board.BoardSeat.{BoardSeat}

-- how many jobs a board has, and how many seats
abbrev pub jobs_of : Board → ℕ
jobs_of b = b.jobs

abbrev pub seats_of : Board → ℕ
seats_of b = b.seats

-- the state of a seat, and the numbers that it claimed, in order
abbrev pub hand_of : BoardSeat → Hand
hand_of s = s.seat.me.0

abbrev pub claimed : BoardSeat → List ℕ
claimed s = s.seat.me.0.claimed

-- the numbers that the seats drew
abbrev pub all_claimed : List BoardSeat → List ℕ
all_claimed seats = flat_map claimed seats

-- the seat is one of the board's
abbrev pub IsSeatOf : Board → BoardSeat → Type 0
IsSeatOf b s = (s.seat.table_id ≡ b.table.shared.table_id) × (s.seat.me.0.jobs ≡ b.jobs)
