-- Optional members of an object.
use Rattle.std.specs.Prelude.{ℕ, List, Option}
use Rattle.serde_json.specs.Data.{Data, Members, put}
use Rattle.esr_bundle.specs.Bundle.{list_by, number_by}

abbrev pub with_list : List ℕ → List Data → Members → Members
with_list key ds ms = list_by put key ds ms

abbrev pub with_number : List ℕ → Option ℕ → Members → Members
with_number key n ms = number_by put key n ms
