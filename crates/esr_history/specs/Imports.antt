-- The imports of a history's transactions, by their numbers.
use Rattle.std.specs.Prelude.{◌≡◌, ℕ, false, ◌+◌, ◌==◌, List, [], ◌∷◌, ◌++◌, map, sum_by, if◌then◌else◌}
use Rattle.std.specs.List.{range_with_len}
use Rattle.esr_history.specs.Events.{is_refusal, TxnId, Event, BeginUpdate, BeginQuery, Reply}
use Rattle.esr_history.specs.Machine.{DistanceFunction, Schedule, charges_in, due_in, import_in}
use Rattle.esr_history.specs.BackLinks.{begun_count}

-- the import of transaction t by these charges
abbrev pub imported : List (TxnId × ℕ) → ℕ → ℕ
imported charges t = sum_by (λ c. if c.0.0 == t then c.1 else 0) charges

-- if the event is accepted, the charges have the imports that the specification defines
abbrev pub AreDue : DistanceFunction → Schedule → Event → Reply → List (TxnId × ℕ) → Type 0
AreDue d h event reply charges =
    is_refusal reply ≡ false → (t : ℕ) → imported charges t ≡ import_in (due_in d h event) t

-- the imports of the transactions, indexed by transaction number; number 0 is unused
abbrev pub AreImports : DistanceFunction → Schedule → List ℕ → Type 0
AreImports d h imports =
    imports ≡ map (λ t. import_in (charges_in d h) t) (range_with_len 0 (begun_count h.entries + 1))

-- a table with a place for the transaction that begins
abbrev pub with_number : List ℕ → Event → List ℕ
with_number table (BeginUpdate limit) = table ++ 0 ∷ []
with_number table (BeginQuery limit strict) = table ++ 0 ∷ []
with_number table _ = table
