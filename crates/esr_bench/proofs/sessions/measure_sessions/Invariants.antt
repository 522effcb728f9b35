use Rattle.std.proofs.Common.{[], map}
use Rattle.esr_bench.proofs.sessions.measure_sessions.Given as goal

-- the engine
abbrev pub ghosts-measure_engine-N-Naming : goal.ghosts-measure_engine-N-Naming
ghosts-measure_engine-N-Naming g a = record { opening = map (λ w. w.committed) a.items; weights = [] }

abbrev pub ghosts-measure_engine-N-Ledger : goal.ghosts-measure_engine-N-Ledger
ghosts-measure_engine-N-Ledger g a = record { name = a.blank.name; parts = a.blank.parts }
