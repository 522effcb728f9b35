-- The output of explaining a query of a script.
use Rattle.std.specs.Prelude.{ℕ, List}
use Rattle.esr_items.specs.Weights.{weighted}
use Rattle.esr_views.specs.State.{ScriptState, transaction_called}
use Rattle.esr_explain.specs.Explain.{explanation}

-- the explanation of the query of that name after a script
abbrev pub explained : ScriptState → List ℕ → List ℕ
explained s name = explanation weighted s.history s.items s.transactions (transaction_called s name).0
