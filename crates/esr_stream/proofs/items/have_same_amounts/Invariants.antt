use Rattle.std.proofs.Common.{◌≡◌, ◌<◌, ℕ}
use Rattle.esr_stream.specs.Passes.{unowed_at}
use Rattle.esr_stream.proofs.items.have_same_amounts.Given as goal

abbrev pub invariant-loop-x : goal.invariant-loop-x
invariant-loop-x l = (y : ℕ) → y < l.x → unowed_at l.a y ≡ unowed_at l.b y
