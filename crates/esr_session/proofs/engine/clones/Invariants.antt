use Rattle.std.proofs.Common.{◌≡◌, vec_len}
use Rattle.esr_session.proofs.engine.clones.Given as goal

abbrev pub invariant-loop-i : goal.invariant-loop-i
invariant-loop-i g l = vec_len l.all ≡ l._i
