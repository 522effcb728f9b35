-- The key of a name.
use Rattle.std.specs.Prelude.{◌≡◌, ℕ, ◌≤◌, List, length}
use Rattle.esr_report.specs.declared.key.Key.{Key}
use Rattle.esr_report.specs.Keys.{low_of, high_of, AreBytes}

-- the key of a name of at most 16 bytes
pub record IsKeyOf (key : Key) (name : List ℕ) : Type 0 where
  pub short : length name ≤ 16
  pub bytes : AreBytes name
  pub low : key.low ≡ low_of name
  pub high : key.high ≡ high_of name
  pub length : key.length ≡ length name
