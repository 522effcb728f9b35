-- The permitted output of a drive, given the file that it read.
use Rattle.std.specs.Prelude.{◌≡◌, ◌≤◌, List, [], ℕ, Option, Some, Result, Ok, Err, map}
use Rattle.std.specs.Io.KnownBytes.{Consumes}
use Rattle.esr_items.specs.Weights.{weighted}
use Rattle.esr_history.specs.Machine.{Schedule, IsLegal}
use Rattle.esr_base.specs.Watch.{BeginsWith}
use Rattle.esr_board.specs.declared.board.TheConstants.{MAX_SEATS}
use Rattle.esr_session.specs.declared.receipt.Receipt.{Receipt}
use Rattle.esr_session.specs.Receipts.{Matches}
use Rattle.esr_plan.specs.declared.fault.DriveFault.{DriveFault}
use Rattle.esr_plan.specs.declared.fault.DriveFault.TheVariants as fault
use Rattle.esr_plan.specs.Plan.{Plan, plan_of, weights_of}
use Rattle.esr_plan.specs.Blocks.{Answered, AreBlocks, commands_of}
use Rattle.esr_plan.specs.Text.{names_of, text_of}
use Rattle.esr_dump.specs.RoundTrip.{IsDump}
use Rattle.esr_drive.specs.declared.form.DriveOutput.{DriveOutput}
use Rattle.esr_drive.specs.declared.form.DriveOutput.TheVariants as form
use Rattle.esr_drive.specs.Faults.{CanFill}

-- a permitted number of workers, if the form has any
abbrev pub HasWorkers : DriveOutput → Type 0
HasWorkers (form.Text workers) = (1 ≤ workers) × (workers ≤ MAX_SEATS)
HasWorkers form.Script = Unit {0}

-- what a text shows of a history and the last replies: these, the findings and the totals; or the history itself, as
-- a script that recreates it, by the names of the plan
abbrev pub IsRenderingOf : DriveOutput → Plan → Schedule → List (List Answered) → List ℕ → Type 0
IsRenderingOf (form.Text workers) p h blocks text = text ≡ text_of p h blocks
IsRenderingOf form.Script p h blocks text = IsDump p.names (names_of h blocks) h text

-- Each command of the plan has a run of receipts, which match one legal history over the plan's items, and the text
-- shows this history.
pub record IsTextOf (what : DriveOutput) (p : Plan) (text : List ℕ) : Type 0 where
  pub history : Schedule
  pub blocks : List (List Answered)
  pub receipts : List (List Receipt)
  pub legal : IsLegal weighted history
  pub opening : history.opening ≡ p.values
  pub weights : history.weights ≡ weights_of p.weights
  pub commands : map commands_of blocks ≡ p.blocks
  pub runs : AreBlocks p.names blocks receipts
  pub matching : Matches history.entries receipts
  pub rendering : IsRenderingOf what p history blocks text

-- the text is one of this file
pub record IsDriveText (what : DriveOutput) (bytes : List ℕ) (text : List ℕ) : Type 0 where
  pub plan : Plan
  pub planned : plan_of bytes ≡ Ok plan
  pub is_text : IsTextOf what plan text

-- The relation between the input of a drive, the unread rest, the result, and the text written.
abbrev pub IsDriveBy : DriveOutput → List ℕ → Option (List ℕ) → Result (Unit {0}) DriveFault → List ℕ → Type 0
IsDriveBy what input left (Ok done) written = Consumes (Some input) left input × IsDriveText what input written
IsDriveBy what input left (Err fault.Read) written = written ≡ []
IsDriveBy what input left (Err fault.Write) written = (text : List ℕ) × IsDriveText what input text × BeginsWith text written
IsDriveBy what input left (Err fault.LineTooLong) written = (written ≡ []) × (plan_of input ≡ Err fault.LineTooLong)
IsDriveBy what input left (Err fault.NoMemory) written = written ≡ []
IsDriveBy what input left (Err fault.HistoryFull) written =
    (written ≡ []) × ((p : Plan) × (plan_of input ≡ Ok p) × CanFill p.blocks)
IsDriveBy what input left (Err fault.TooManyLines) written = (written ≡ []) × (plan_of input ≡ Err fault.TooManyLines)
IsDriveBy what input left (Err (fault.BadScript line error)) written =
    (written ≡ []) × (plan_of input ≡ Err (fault.BadScript line error))
IsDriveBy what input left (Err fault.Close) written = (written ≡ []) × ((p : Plan) × (plan_of input ≡ Ok p))
