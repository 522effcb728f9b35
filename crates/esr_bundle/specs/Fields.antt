-- Conversions of a JSON tree to numbers, lists of them, and the members of an object.
use Rattle.std.specs.Prelude.{ℕ, List, [], ◌∷◌, Option, Some, None, option_map, option_and_then, Bool, false, ◌==◌}
use Rattle.std.specs.Option.{option_map_or}
use Rattle.serde_json.specs.Data.{Data, Items, no_items, item}
use Rattle.serde_json.specs.Events.{members_len}
use Rattle.serde_json.specs.Find.{as_array, as_number, as_u64, as_object, get}

-- a whole number that fits 64 bits
abbrev pub as_natural : Data → Option ℕ
as_natural d = option_and_then as_u64 (as_number d)

-- the items, each read by f, if f reads all of them
abbrev pub each : {A : Type 0} → (Data → Option A) → Items → Option (List A)
each f no_items = Some []
each f (item d ds) = option_and_then (λ a. option_map (λ rest. a ∷ rest) (each f ds)) (f d)

abbrev pub list_of : {A : Type 0} → (Data → Option A) → Data → Option (List A)
list_of f d = option_and_then (each f) (as_array d)

abbrev pub as_naturals : Data → Option (List ℕ)
as_naturals = list_of as_natural

-- exactly two numbers
abbrev pub two_of : Items → Option (ℕ × ℕ)
two_of (item a (item b no_items)) = option_and_then (λ x. option_map (λ y. (x, y)) (as_natural b)) (as_natural a)
two_of _ = None

abbrev pub pair_of : Data → Option (ℕ × ℕ)
pair_of d = option_and_then two_of (as_array d)

abbrev pub pairs_of : Data → Option (List (ℕ × ℕ))
pairs_of = list_of pair_of

abbrev pub rows_of : Data → Option (List (List ℕ))
rows_of = list_of as_naturals

-- ---- objects, which have each key once

-- an object with n keys
abbrev pub has_n_keys : ℕ → Data → Bool
has_n_keys n d = option_map_or (λ ms. members_len ms == n) (as_object d) false

abbrev pub present_count : Option Data → ℕ
present_count None = 0
present_count (Some d) = 1

-- the value at a key, read by f
abbrev pub field : {A : Type 0} → (Data → Option A) → List ℕ → Data → Option A
field f key d = option_and_then f (get key d)

-- an optional list, empty if it is missing
abbrev pub optional_numbers : Option Data → Option (List ℕ)
optional_numbers None = Some []
optional_numbers (Some d) = as_naturals d

-- a number that may be missing
abbrev pub optional_number : Option Data → Option (Option ℕ)
optional_number None = Some None
optional_number (Some d) = option_map (λ n. Some n) (as_natural d)
