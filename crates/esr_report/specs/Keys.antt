-- A name as two numbers: its first and its last eight bytes, or four, which may overlap. With its length they
-- distinguish it from every other name of at most 16 bytes.
use Rattle.std.specs.Prelude.{ℕ, ◌+◌, ◌-◌, ◌*◌, ◌<◌, List, length, take, drop, cond, nat_le, slice_index_or}
use Rattle.std.specs.Int.{from_le_bytes, w32, w64}

abbrev pub low_of : List ℕ → ℕ
low_of text =
    cond (nat_le 8 (length text)) (from_le_bytes w64 (take 8 text))
    (cond (nat_le 4 (length text)) (from_le_bytes w32 (take 4 text)) (slice_index_or text 0 0))

abbrev pub high_of : List ℕ → ℕ
high_of text =
    cond (nat_le 8 (length text)) (from_le_bytes w64 (drop (length text - 8) text))
    (cond (nat_le 4 (length text)) (from_le_bytes w32 (drop (length text - 4) text)) (slice_index_or text 1 0 + 256 * slice_index_or text 2 0))

abbrev pub AreBytes : List ℕ → Type 0
AreBytes text = (i : ℕ) → slice_index_or text i 0 < 256
