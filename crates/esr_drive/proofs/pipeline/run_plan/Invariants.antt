use Rattle.std.proofs.Common.{map}
use Rattle.esr_drive.proofs.pipeline.run_plan.Given as goal

-- the engine
abbrev pub ghosts-drive_blocks-N-Naming : goal.ghosts-drive_blocks-N-Naming
ghosts-drive_blocks-N-Naming g a = record { opening = map (λ w. w.committed) a.items; weights = a.metric }

abbrev pub ghosts-drive_blocks-N-Ledger : goal.ghosts-drive_blocks-N-Ledger
ghosts-drive_blocks-N-Ledger g a = record { name = a.blank.name; parts = a.blank.parts }
