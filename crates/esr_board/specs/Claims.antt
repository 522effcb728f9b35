-- The states of a board's seats, their invariant between two steps, and the effect of each kind of step.
use Rattle.std.specs.Prelude.{◌≡◌, ℕ, zero, suc, ◌+◌, ◌-◌, ◌<◌, ◌≤◌, List, [], ◌∷◌, ◌++◌, length, slice_index, if◌then◌else◌, nat_eq, nat_lt, nat_le, All, sum_by, count_by, filter}
use mathlib.Core.Option.{some}
use lib.ListN.{get_elem?}
use Rattle.atomic_table.specs.Table.{State, Me, Step}
pub use Rattle.esr_board.specs.declared.hand.Hand.{Hand}
pub use Rattle.esr_board.specs.declared.hand.BoardSize.{BoardSize}

abbrev pub hand : ℕ → ℕ → List ℕ → Hand
hand jobs passes claimed = record { jobs = jobs; passes = passes; claimed = claimed }

-- how often n occurs in the list
abbrev pub times : ℕ → List ℕ → ℕ
times n xs = count_by (λ m. nat_eq m n) xs

-- how many numbers of the list are not jobs
abbrev pub count_past : ℕ → List ℕ → ℕ
count_past jobs xs = count_by (λ n. nat_le jobs n) xs

-- each number below the word occurs exactly once in the list, and no other number does
abbrev pub EachOnceBelow : ℕ → List ℕ → Type 0
EachOnceBelow word xs = (n : ℕ) → times n xs ≡ (if nat_lt n word then 1 else 0)

-- the numbers below n, in order
abbrev pub below : ℕ → List ℕ
below zero = []
below (suc n) = below n ++ n ∷ []

-- The numbers below the word were claimed, each once, and no other: for every weighting of numbers, the sum over the
-- lists is the sum over these.
abbrev pub HoldsEachOnce : ℕ → List Hand → Type 0
HoldsEachOnce word hands = (weight : ℕ → ℕ) → sum_by (λ h. sum_by weight h.claimed) hands ≡ sum_by weight (below word)

-- the passes that are left, and the numbers past the jobs, each of which used one up
abbrev pub passes_of : ℕ → Hand → ℕ
passes_of jobs h = h.passes + count_past jobs h.claimed

-- a seat that never had a pass has claimed nothing
abbrev pub IdleIsEmpty : ℕ → List Hand → Type 0
IdleIsEmpty jobs hands = (id : ℕ) (h : Hand) → get_elem? hands id ≡ some h → passes_of jobs h ≡ 0 → h.claimed ≡ []

-- the invariant of all hands of a board between two steps
abbrev pub IsFair : ℕ → ℕ → ℕ → List Hand → Type 0
IsFair jobs seats word hands =
    HoldsEachOnce word hands × (sum_by (passes_of jobs) hands ≡ seats) × IdleIsEmpty jobs hands

-- Word 0 is the next number. Words 1 and 2 are the board's size, and never change.
abbrev pub IsKept : BoardSize → State (Unit {0}) Hand → Type 0
IsKept size s =
    (length s.words ≡ 3) × (slice_index s.words 1 ≡ size.jobs) × (slice_index s.words 2 ≡ size.seats)
    × IsFair size.jobs size.seats (slice_index s.words 0) s.views

-- as the board is made, one seat has a pass for each seat
abbrev pub first_hand : BoardSize → Hand
first_hand size = hand size.jobs size.seats []

-- a claim: the hand after it drew n
abbrev pub with_claim : Hand → ℕ → Hand
with_claim h n = hand h.jobs (if nat_lt n h.jobs then h.passes else h.passes - 1) (h.claimed ++ n ∷ [])

-- the postcondition of a claim: its number is above all in the seat's list and at least their count, and the word does
-- not overflow
abbrev pub Claimed : Step (Unit {0}) → Me (Unit {0}) Hand → ℕ → Me (Unit {0}) Hand → Type 0
Claimed st m n m' =
    (m' ≡ (with_claim m.0 n, m.1)) × All (λ x. x < n) m.0.claimed × (length m.0.claimed ≤ n)
    × (n + 1 < 18446744073709551616)

-- a split: one pass goes to a new seat
abbrev pub with_one_less : Hand → Hand
with_one_less h = hand h.jobs (h.passes - 1) h.claimed

abbrev pub one_pass : Hand → Hand
one_pass h = hand h.jobs 1 []

-- a join: two hands in one, and the rest of the second
abbrev pub joined : Hand → Hand → Hand
joined h k = hand h.jobs (h.passes + k.passes) (h.claimed ++ k.claimed)

abbrev pub spent : Hand
spent = hand 0 0 []

-- at this word, these hands together with those of the seats that were not returned are all hands of the board
abbrev pub IsBoardAt : ℕ → ℕ → List Hand → ℕ → Type 0
IsBoardAt jobs seats hands word = (kept : List Hand) × IsFair jobs seats word (hands ++ kept)

-- the list grew, and the jobs among the new numbers are js, in order
abbrev pub HasClaimed : ℕ → List ℕ → List ℕ → List ℕ → Type 0
HasClaimed jobs old new js = (more : List ℕ) × (new ≡ old ++ more) × (filter (λ n. nat_lt n jobs) more ≡ js)
