-- An accepted read or write of an update, which is identified by its position in commit order, with the value read or
-- written.
use Rattle.std.specs.Prelude.{ℕ, ℤ, Bool}

pub record UpdateOperation : Type 0 where
  pub update_index : ℕ
  pub item : ℕ
  pub writes : Bool
  pub value : ℤ
