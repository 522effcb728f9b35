-- The items that a script has declared: the opening value and the weight of each, by its number.
use Rattle.std.specs.Prelude.{ℕ, ℤ, List, []}

pub record DeclaredItems : Type 0 where
  pub values : List ℤ
  pub weights : List ℕ

abbrev pub no_items : DeclaredItems
no_items = record { values = []; weights = [] }
