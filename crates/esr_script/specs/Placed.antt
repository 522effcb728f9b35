-- A text placed into a buffer.
use Rattle.std.specs.Prelude.{◌≡◌, ℕ, ◌+◌, List, ◌++◌, length, take}

-- the new buffer has the text after the first `at` bytes of the old one, up to `end`
pub record Placed (old new : List ℕ) (at : ℕ) (text : List ℕ) (end : ℕ) : Type 0 where
  pub bytes : take end new ≡ take at old ++ text
  pub moved : end ≡ at + length text
  pub len : length new ≡ length old
