-- Either items still being declared, or the running machine.
use Rattle.std.specs.Prelude.{⊤, [], Bool, true, false}
use Rattle.esr_history.specs.Machine.{Schedule}
use Rattle.esr_history.specs.declared.event.Event.{Event}
use Rattle.esr_history.specs.declared.event.Event.TheVariants as event
use Rattle.esr_script.specs.declared.stage.Stage.{Stage}
use Rattle.esr_script.specs.declared.stage.Stage.TheVariants as stage

abbrev pub is_running : Stage → Bool
is_running (stage.Open items) = false
is_running (stage.Running machine) = true

-- the empty history of the declared items, or the machine's history
abbrev pub history_of : Stage → Schedule
history_of (stage.Open items) = record { opening = items.values; weights = items.weights; entries = [] }
history_of (stage.Running machine) = machine.value

-- whether an event begins a transaction
abbrev pub IsBegin : Event → Type 0
IsBegin (event.BeginUpdate limit) = ⊤
IsBegin (event.BeginQuery limit strict) = ⊤
IsBegin _ = ⊥
