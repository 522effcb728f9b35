-- The value of an unfinished plan in contracts.
use Rattle.std.specs.Prelude.{◌≡◌, ◌≤◌, ℕ, List, [], ◌∷◌, ◌++◌, All, Option, Some, None, Result, Err, map, length, nat_lt, slice_get, if◌then◌else◌, option_map}
use Rattle.esr_base.specs.declared.limits.TheConstants.{MAX_ITEMS}
use Rattle.esr_items.specs.Values.{IsValue}
use Rattle.esr_items.specs.Weights.{IsWeight}
use Rattle.esr_report.specs.Names.{position_of}
use Rattle.esr_grammar.specs.Command.{Command}
use Rattle.esr_plan.specs.declared.draft.TheConstants.{MAX_BLOCKS}
use Rattle.esr_plan.specs.declared.draft.Draft.{Draft}
use Rattle.esr_plan.specs.declared.draft.PlanError.{PlanError}
use Rattle.esr_plan.specs.declared.draft.PlanError.TheVariants as wrong
use Rattle.esr_plan.specs.Calls.{command_of, place_of, AreResolved, Call}
use Rattle.esr_plan.specs.Plan.{Plan, new_names, weights_of}

abbrev pub commands_in : List Call → List Command
commands_in calls = map command_of calls

-- the completed blocks, and the open one
abbrev pub blocks_with : List (List Command) → Option (List Command) → List (List Command)
blocks_with done None = done
blocks_with done (Some current) = done ++ current ∷ []

abbrev pub current_of : Draft → Option (List Command)
current_of d = option_map (λ b. commands_in b.items) d.current

abbrev pub blocks_of : Draft → List (List Command)
blocks_of d = blocks_with (map (λ b. commands_in b.items) d.done.items) (current_of d)

abbrev pub plan_in : Draft → Plan
plan_in d = record { names = d.names; values = d.values.items; weights = d.weights.items; blocks = blocks_of d }

-- if no block is open, none is complete
abbrev pub IsOpened : Draft → Type 0
IsOpened d = elim d.current [ Some block ↦ Unit {0} | None ↦ d.done.items ≡ [] ]

-- the calls of the block that is open
abbrev pub current_calls : Draft → List Call
current_calls d = elim d.current [ Some block ↦ block.items | None ↦ [] ]

-- the place of the begin with that number, unless it is one of the earlier ones
abbrev pub place_since : ℕ → List ℕ → Option ℕ → Option ℕ
place_since earlier places None = None
place_since earlier places (Some number) = if nat_lt number earlier then None else slice_get places number

-- the places are those of the begins in the block that is open
abbrev pub ArePlaces : List Call → ℕ → List ℕ → List (List ℕ) → Type 0
ArePlaces calls earlier places begun =
    (name : List ℕ) → place_of calls name ≡ place_since earlier places (position_of begun name)

-- the data kept alongside the plan agrees with it
pub record IsSound (d : Draft) : Type 0 where
  pub begun : d.begun ≡ new_names (blocks_of d)
  pub values : length d.values.items ≡ length d.names
  pub weights : length d.weights.items ≡ length d.names
  pub in_range : All IsValue d.values.items
  pub weighed : All IsWeight (weights_of d.weights.items)
  pub opened : IsOpened d
  pub items : length d.names ≤ MAX_ITEMS
  pub blocks : length (blocks_of d) ≤ MAX_BLOCKS
  pub every : length d.places.items ≡ length d.begun
  pub earlier : d.earlier ≤ length d.begun
  pub places : ArePlaces (current_calls d) d.earlier d.places.items d.begun
  pub resolved : AreResolved d.names (current_calls d)
  pub done_resolved : All (λ b. AreResolved d.names b.items) d.done.items

-- the error is that of a line, or out of memory
abbrev pub IsPlanError : Result Plan ℕ → PlanError → Type 0
IsPlanError planned (wrong.Line error) = planned ≡ Err error
IsPlanError planned wrong.NoMemory = Unit {0}
