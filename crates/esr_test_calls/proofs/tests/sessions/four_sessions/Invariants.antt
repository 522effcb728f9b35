use Rattle.std.proofs.Common.{[], map}
use Rattle.esr_test_calls.proofs.tests.sessions.four_sessions.Given as goal

-- the engine
abbrev pub ghosts-begin_and_commit-N-Naming : goal.ghosts-begin_and_commit-N-Naming
ghosts-begin_and_commit-N-Naming g a = record { opening = map (λ w. w.committed) a.items; weights = [] }

abbrev pub ghosts-begin_and_commit-N-Ledger : goal.ghosts-begin_and_commit-N-Ledger
ghosts-begin_and_commit-N-Ledger g a = record { name = a.blank.name; parts = a.blank.parts }
