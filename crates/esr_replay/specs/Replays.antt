-- The prefixes of a history, and the progress of a replay.
use Rattle.std.specs.Prelude.{◌≡◌, ℕ, ◌+◌, List, take}
use Rattle.esr_base.specs.declared.numbers.TxnId.{TxnId}
use Rattle.esr_history.specs.Machine.{DistanceFunction, Schedule, charges_in, import_in}
use Rattle.esr_history.specs.Imports.{imported}

-- the history as it was before its entry at place i
abbrev pub until : ℕ → Schedule → Schedule
until i h = record h { entries = take i h.entries }

-- a replay as contracts see it: the history, the number of its entries that have been executed, and what each query
-- imported by the last of them
pub record Progress : Type 0 where
  pub history : Schedule
  pub count : ℕ
  pub imports : List (TxnId × ℕ)

-- the history of the machine
abbrev pub so_far : Progress → Schedule
so_far p = until p.count p.history

-- from one history to the other, the import of each query grows by its charges
abbrev pub ImportsGrowBy : DistanceFunction → (before after : Schedule) → List (TxnId × ℕ) → Type 0
ImportsGrowBy d before after charges =
    (q : ℕ) → import_in (charges_in d after) q ≡ import_in (charges_in d before) q + imported charges q
