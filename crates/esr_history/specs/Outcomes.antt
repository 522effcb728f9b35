-- The outcomes of transactions.
use Rattle.std.specs.Prelude.{ℕ, List, if◌then◌else◌}
use Rattle.esr_history.specs.declared.event.Event.{Event}
use Rattle.esr_history.specs.Events.{is_committed, is_aborted}
pub use Rattle.esr_history.specs.declared.event.TxnOutcome.{TxnOutcome}
use Rattle.esr_history.specs.declared.event.TxnOutcome.TheVariants.{Active, Committed, Aborted}

-- the outcome of transaction t; one that has not begun counts as active
abbrev pub outcome_of : List Event → ℕ → TxnOutcome
outcome_of events t = if is_committed events t then Committed else (if is_aborted events t then Aborted else Active)
