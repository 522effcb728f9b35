-- The faults of a drive that neither its reader nor its writer makes.
use Rattle.std.specs.Prelude.{◌≡◌, ◌≤◌, ◌*◌, ◌==◌, ℕ, List, Bool, true, false, Option, Some, None, Result, Ok, Err, length, sum_by, unwrap_or, if◌then◌else◌}
use Rattle.std.specs.List.{list_any}
use Rattle.esr_base.specs.declared.limits.TheConstants.{MAX_ENTRIES}
use Rattle.esr_core.specs.declared.machine.StepError.{StepError}
use Rattle.esr_core.specs.declared.machine.StepError.TheVariants as error
use Rattle.esr_plan.specs.Plan.{Plan, plan_of}
use Rattle.esr_plan.specs.declared.fault.DriveFault.{DriveFault}
use Rattle.esr_plan.specs.declared.fault.DriveFault.TheVariants as fault

-- the faults of the engine, and out of memory
abbrev pub is_engine_fault : DriveFault → Bool
is_engine_fault fault.NoMemory = true
is_engine_fault fault.HistoryFull = true
is_engine_fault fault.Close = true
is_engine_fault _ = false

-- the lines of these blocks, each tried 100 times, can fill a history
abbrev pub CanFill : {X : Type 0} → List (List X) → Type 0
CanFill blocks = MAX_ENTRIES ≤ 100 * sum_by length blocks

-- a fault of the engine that runs these blocks, or out of memory
abbrev pub IsEngineFault : {X : Type 0} → List (List X) → DriveFault → Type 0
IsEngineFault blocks fault.NoMemory = Unit {0}
IsEngineFault blocks fault.HistoryFull = CanFill blocks
IsEngineFault blocks fault.Close = Unit {0}
IsEngineFault blocks _ = ⊥

-- the fault of a drive of these bytes, if no read and no write failed
abbrev pub IsTextFault : List ℕ → DriveFault → Type 0
IsTextFault bytes fault.Read = ⊥
IsTextFault bytes fault.Write = ⊥
IsTextFault bytes fault.LineTooLong = plan_of bytes ≡ Err fault.LineTooLong
IsTextFault bytes fault.NoMemory = Unit {0}
IsTextFault bytes fault.HistoryFull = (p : Plan) × (plan_of bytes ≡ Ok p) × CanFill p.blocks
IsTextFault bytes fault.TooManyLines = plan_of bytes ≡ Err fault.TooManyLines
IsTextFault bytes (fault.BadScript line error) = plan_of bytes ≡ Err (fault.BadScript line error)
IsTextFault bytes fault.Close = (p : Plan) × (plan_of bytes ≡ Ok p)

abbrev pub is_outcome : {V : Type 0} → (StepError → Bool) → Result V StepError → Bool
is_outcome is (Ok v) = false
is_outcome is (Err e) = is e

abbrev pub is_memory : StepError → Bool
is_memory error.NoMemory = true
is_memory error.HistoryFull = false
is_memory error.EngineClosed = false

abbrev pub is_full : StepError → Bool
is_full error.NoMemory = false
is_full error.HistoryFull = true
is_full error.EngineClosed = false

abbrev pub is_closed : StepError → Bool
is_closed error.NoMemory = false
is_closed error.HistoryFull = false
is_closed error.EngineClosed = true

abbrev pub first_of : Bool → Bool → Bool → Option DriveFault
first_of memory full closed =
    if memory then Some fault.NoMemory
    else if full then Some fault.HistoryFull
    else if closed then Some fault.Close
    else None

-- the fault reported for blocks with these outcomes: out of memory before a full history, and that before a closed
-- engine
abbrev pub reported_fault : {V : Type 0} → List (Result V StepError) → Option DriveFault
reported_fault outcomes =
    first_of (list_any (is_outcome is_memory) outcomes) (list_any (is_outcome is_full) outcomes)
    (list_any (is_outcome is_closed) outcomes)

-- the fault reported after the receipts are counted: if a session reported a full history and the number of receipts
-- is not its capacity, the receipts do not match
abbrev pub confirmed : ℕ → DriveFault → DriveFault
confirmed receipts fault.HistoryFull = if receipts == MAX_ENTRIES then fault.HistoryFull else fault.Close
confirmed receipts reported = reported

-- the fault reported after one more error
abbrev pub most_severe : Option DriveFault → StepError → DriveFault
most_severe reported error.NoMemory = fault.NoMemory
most_severe (Some fault.NoMemory) error.HistoryFull = fault.NoMemory
most_severe _ error.HistoryFull = fault.HistoryFull
most_severe reported error.EngineClosed = unwrap_or reported fault.Close
