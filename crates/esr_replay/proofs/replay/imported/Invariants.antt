use Rattle.std.proofs.Common.{◌≡◌, ◌-◌, ◌^◌, min, take}
use Rattle.esr_history.specs.Imports.{imported}
use Rattle.esr_replay.proofs.replay.imported.Given as goal

-- the sum so far
abbrev pub invariant-loop-charge : goal.invariant-loop-charge
invariant-loop-charge l = l.sum ≡ min (imported (take l.charge-index l.charges) l.query.0) (2 ^ 64 - 1)
