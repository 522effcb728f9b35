use Rattle.std.proofs.Common.{[], map}
use Rattle.esr_test_calls.proofs.tests.sessions.a_read_finds_what_another_session_wrote.Given as goal

-- the engine
abbrev pub ghosts-read_back-N-Naming : goal.ghosts-read_back-N-Naming
ghosts-read_back-N-Naming g a = record { opening = map (λ w. w.committed) a.items; weights = [] }

abbrev pub ghosts-read_back-N-Ledger : goal.ghosts-read_back-N-Ledger
ghosts-read_back-N-Ledger g a = record { name = a.blank.name; parts = a.blank.parts }
