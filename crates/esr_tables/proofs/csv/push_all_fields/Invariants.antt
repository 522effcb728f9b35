use Rattle.std.proofs.Common.{◌≡◌, ◌++◌, ℕ, List, Bor, map, take}
use Rattle.esr_tables.specs.Csv.{separated}
use Rattle.esr_tables.proofs.csv.push_all_fields.Given as goal

-- the fields so far
abbrev pub invariant-loop-field : goal.invariant-loop-field
invariant-loop-field l = l.out.items ≡ l.initial.out.items ++ separated (map (λ (w : Bor (List ℕ)). w.now) (take l.field-index l.fields))
