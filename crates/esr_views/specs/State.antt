-- The state of a run of a script.
use Rattle.std.specs.Prelude.{ℕ, ◌+◌, List, Bool}
use Rattle.std.specs.Option.{option_map_or}
use Rattle.esr_base.specs.declared.numbers.TxnId.{TxnId}
use Rattle.esr_history.specs.Machine.{Schedule}
use Rattle.esr_report.specs.Names.{position_of}

-- the state of a run after the lines so far
pub record ScriptState : Type 0 where
  -- the names of the items, and of the transactions, in the order of their numbers
  pub items : List (List ℕ)
  pub transactions : List (List ℕ)
  -- whether a command other than an item has occurred
  pub closed : Bool
  pub history : Schedule

-- transactions are numbered from 1; an unbound name denotes 0
abbrev pub transaction_called : ScriptState → List ℕ → TxnId
transaction_called s name = record { 0 = option_map_or (λ n. n + 1) (position_of s.transactions name) 0 }
