-- Which places of a history are named.
use Rattle.std.specs.Prelude.{◌≡◌, ℕ, ◌<◌, Bool, false, List, length, slice_index_or, nat_lt}
use Rattle.esr_session.specs.Receipts.{count_at, Receipt}

-- an index is marked if and only if some receipt has it
abbrev pub AreMarked : List Receipt → List Bool → Type 0
AreMarked rs marks =
    (place : ℕ) → place < length marks → slice_index_or marks place false ≡ nat_lt 0 (count_at place rs)
