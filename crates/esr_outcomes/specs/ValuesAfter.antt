-- The values of the items after the accesses of a transaction.
use Rattle.std.specs.Prelude.{ℤ, List, [], ◌∷◌, slice_set, if◌then◌else◌}
use Rattle.esr_order.specs.declared.accesses.Access.{Access}

-- the values of the items after an access, and after several
abbrev pub apply_access : List ℤ → Access → List ℤ
apply_access values a = if a.writes then slice_set values a.item.0 a.value else values

abbrev pub apply_accesses : List ℤ → List Access → List ℤ
apply_accesses values [] = values
apply_accesses values (a ∷ rest) = apply_accesses (apply_access values a) rest
