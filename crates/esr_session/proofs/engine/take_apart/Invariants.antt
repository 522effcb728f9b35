use Rattle.std.proofs.Common.{◌≡◌, ◌+◌, ◌≤◌, ◌++◌, map, vec_len, vec_capacity}
use mathlib.Core.List.{reverse}
use Rattle.esr_session.proofs.engine.take_apart.Given as goal

abbrev pub invariant-loop-session : goal.invariant-loop-session
invariant-loop-session g l =
    (map (λ list. list.items) l.lists.items ++ reverse l.sessions.items ≡ l.fn.sessions.items) × (vec_len l.lists + vec_len l.sessions ≤ vec_capacity l.lists)

abbrev pub decreases-loop-session : goal.decreases-loop-session
decreases-loop-session g l = vec_len l.sessions
