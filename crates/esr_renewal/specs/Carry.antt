-- A renewal can always carry the active transactions over: the laws, as statements.
use Rattle.std.specs.Prelude.{◌≤◌, ℕ, List}
use Rattle.esr_history.specs.Machine.{DistanceFunction, Schedule, charges_in, export_in, IsLegal}
use Rattle.esr_history.specs.ReportBounds.{AreDistances}
use Rattle.esr_history.specs.Legal.{continued}
use Rattle.esr_core.specs.Renewed.{AreSerializableAsOne}
use Rattle.esr_core.specs.Carried.{carried, open_charges, IsCarriedOver}
use Rattle.esr_renewal.specs.Types.{Entry}

-- The open charges of an update are at most its export.
abbrev pub LawOfOpenExports : Type 0
LawOfOpenExports =
    (d : DistanceFunction) → AreDistances d → (h : Schedule) → IsLegal d h
    → (u : ℕ) → export_in (open_charges d h) u ≤ export_in (charges_in d h) u

-- The machine returns each reply of a carried history, and in it no active transaction loses anything.
abbrev pub LawOfCarry : Type 0
LawOfCarry = (d : DistanceFunction) → AreDistances d → (h : Schedule) → IsLegal d h → IsCarriedOver d h (carried d h)

-- However the carried history continues, the committed updates of both histories are serializable as one.
abbrev pub LawOfCarriedOrder : Type 0
LawOfCarriedOrder =
    (d : DistanceFunction) (h : Schedule) → IsLegal d h
    → (later : List Entry) → IsLegal d (continued (carried d h) later) → AreSerializableAsOne h (continued (carried d h) later)
