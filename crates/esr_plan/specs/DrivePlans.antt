-- The value of a plan in contracts.
use Rattle.std.specs.Prelude.{◌≡◌, ◌≤◌, All, length, map}
use Rattle.esr_base.specs.declared.limits.TheConstants.{MAX_ITEMS}
use Rattle.esr_items.specs.Values.{IsValue}
use Rattle.esr_items.specs.Weights.{IsWeight}
use Rattle.esr_plan.specs.declared.draft.TheConstants.{MAX_BLOCKS}
use Rattle.esr_plan.specs.declared.drive_plan.DrivePlan.{DrivePlan}
use Rattle.esr_plan.specs.Calls.{AreResolved}
use Rattle.esr_plan.specs.Drafts.{commands_in}
use Rattle.esr_plan.specs.Plan.{Plan, weights_of}

abbrev pub plan_in : DrivePlan → Plan
plan_in s =
    record {
      names = s.names;
      values = s.values.items;
      weights = s.weights.items;
      blocks = map (λ b. commands_in b.items) s.blocks.items;
    }

-- as many values and weights as names, all in range, no more of either than items may be, no more blocks than may be,
-- and what each call names
pub record IsSound (s : DrivePlan) : Type 0 where
  pub values : length s.values.items ≡ length s.names
  pub weights : length s.weights.items ≡ length s.names
  pub in_range : All IsValue s.values.items
  pub weighed : All IsWeight (weights_of s.weights.items)
  pub items : length s.names ≤ MAX_ITEMS
  pub blocks : length s.blocks.items ≤ MAX_BLOCKS
  pub resolved : All (λ b. AreResolved s.names b.items) s.blocks.items
