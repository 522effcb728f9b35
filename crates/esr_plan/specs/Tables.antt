-- Tables of the names that transactions began by.
use Rattle.std.specs.Prelude.{◌==◌, ◌-◌, ℕ, List, [], ◌∷◌, Bool, not, ◌&&◌, Option, Some, None, map, is_some, slice_set, unwrap_or, if◌then◌else◌}
use Rattle.esr_history.specs.declared.event.Reply.{Reply}
use Rattle.esr_plan.specs.declared.table.BegunNames.{BegunNames}
use Rattle.esr_plan.specs.Plan.{new_name}
use Rattle.esr_plan.specs.Blocks.{Answered, number_in}
use Rattle.esr_plan.specs.Calls.{command_of, Call}

abbrev pub answered : Call → Reply → Answered
answered call reply = record { command = command_of call; reply = reply }

abbrev pub names_in : BegunNames → List (List ℕ)
names_in table = map (λ name. name.now) table.names.items

-- the names, with that of the line at the number that it got
abbrev pub with_number : Option ℕ → List ℕ → List (List ℕ) → List (List ℕ)
with_number None name names = names
with_number (Some number) name names = if number == 0 then names else slice_set names (number - 1) name

abbrev pub with_begun : Answered → List (List ℕ) → List (List ℕ)
with_begun a names = with_number (number_in a.reply) (unwrap_or (new_name a.command) []) names

-- the names, with those of the lines; the first line of a number decides
abbrev pub noted : List Answered → List (List ℕ) → List (List ℕ)
noted [] names = names
noted (a ∷ answers) names = with_begun a (noted answers names)
