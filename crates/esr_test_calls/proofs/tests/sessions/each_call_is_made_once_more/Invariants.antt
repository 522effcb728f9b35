use Rattle.std.proofs.Common.{[], map}
use Rattle.esr_test_calls.proofs.tests.sessions.each_call_is_made_once_more.Given as goal

-- the engine
abbrev pub ghosts-call_once_more-N-Naming : goal.ghosts-call_once_more-N-Naming
ghosts-call_once_more-N-Naming g a = record { opening = map (λ w. w.committed) a.items; weights = [] }

abbrev pub ghosts-call_once_more-N-Ledger : goal.ghosts-call_once_more-N-Ledger
ghosts-call_once_more-N-Ledger g a = record { name = a.blank.name; parts = a.blank.parts }
