use Rattle.std.proofs.Common.{[], map}
use Rattle.esr_test_calls.proofs.tests.sessions.a_patient_call_takes_its_turns.Given as goal

-- the engine
abbrev pub ghosts-wait_for_a_lock-N-Naming : goal.ghosts-wait_for_a_lock-N-Naming
ghosts-wait_for_a_lock-N-Naming g a = record { opening = map (λ w. w.committed) a.items; weights = [] }

abbrev pub ghosts-wait_for_a_lock-N-Ledger : goal.ghosts-wait_for_a_lock-N-Ledger
ghosts-wait_for_a_lock-N-Ledger g a = record { name = a.blank.name; parts = a.blank.parts }
