-- The result of a drive's engine.
use Rattle.std.specs.Prelude.{◌≡◌, ◌≤◌, ℕ, ℤ, List, All, Result, Ok, Err, length, map}
use Rattle.esr_items.specs.Weights.{weighted}
use Rattle.esr_base.specs.declared.limits.TheConstants.{MAX_ENTRIES}
use Rattle.esr_history.specs.declared.event.Reply.{Reply}
use Rattle.esr_history.specs.Machine.{Schedule, IsLegal}
use Rattle.esr_session.specs.declared.receipt.Receipt.{Receipt}
use Rattle.esr_session.specs.Receipts.{Matches}
use Rattle.esr_session.specs.Engine.{AreTotals}
use Rattle.esr_plan.specs.declared.call.Call.{Call}
use Rattle.esr_plan.specs.Calls.{command_of, all_answers, AreAnswered, AreResolved}
use Rattle.esr_plan.specs.Blocks.{AreBlocks}
use Rattle.esr_plan.specs.declared.fault.DriveFault.{DriveFault}
use Rattle.esr_drive.specs.declared.blocks.Driven.{Driven}
use Rattle.esr_drive.specs.Faults.{IsEngineFault}

-- A legal history over these opening values and weights, whose entries the receipts of the blocks name, with the last
-- replies of each block. The names of the items are those by which the calls were resolved.
pub record IsDriven (opening : List ℤ) (weights : List ℕ) (blocks : List (List Call)) (history : Schedule)
    (replies : List (List Reply)) : Type 0 where
  pub legal : IsLegal weighted history
  pub opening_is : history.opening ≡ opening
  pub weights_are : history.weights ≡ weights
  pub upper_bound : length history.entries ≤ MAX_ENTRIES
  pub answered : AreAnswered blocks replies
  pub commands : map (λ b. map (λ a. a.command) b) (all_answers blocks replies) ≡ map (λ b. map command_of b) blocks
  pub receipts : List (List Receipt)
  pub runs : (names : List (List ℕ)) → All (AreResolved names) blocks
      → AreBlocks names (all_answers blocks replies) receipts
  pub matching : Matches history.entries receipts

-- the result of the engine after running blocks, or its fault, or out of memory
abbrev pub DrivesTo : List ℤ → List ℕ → List (List Call) → Result Driven DriveFault → Type 0
DrivesTo opening weights blocks (Ok d) =
    IsDriven opening weights blocks d.history.schedule (map (λ r. r.items) d.replies.items)
    × AreTotals weighted d.history.schedule d.totals
DrivesTo opening weights blocks (Err fault) = IsEngineFault blocks fault
