-- A list as ranges, worked out.
use Rattle.std.specs.Prelude.{◌≡◌, [], ◌∷◌, flat_map, refl}
use Rattle.esr_audit.specs.Ranges.{numbers_in}

-- from 3 up to 6, and 9 alone
pub two_ranges : flat_map numbers_in (record { first = 3; end = 6 } ∷ record { first = 9; end = 10 } ∷ []) ≡ 3 ∷ 4 ∷ 5 ∷ 9 ∷ []
two_ranges = refl

-- an interval that ends where it begins is empty
pub empty_range : numbers_in (record { first = 7; end = 7 }) ≡ []
empty_range = refl
