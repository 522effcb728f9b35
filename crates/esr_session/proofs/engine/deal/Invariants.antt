use Rattle.std.proofs.Common.{◌≡◌, ◌+◌, ◌≤◌, [], All, vec_len, vec_capacity}
use Rattle.esr_session.proofs.engine.deal.Given as goal

abbrev pub invariant-loop-shared : goal.invariant-loop-shared
invariant-loop-shared g l =
    (vec_len l.locks + vec_len l.sessions ≡ l.n)
    × (l.rest.parts + vec_len l.sessions ≡ l.fn.rest.parts)
    × (l.rest.amount ≡ l.fn.rest.amount)
    × (l.n ≤ vec_capacity l.sessions)
    × All (λ session. session ≡ []) l.sessions.items

abbrev pub decreases-loop-shared : goal.decreases-loop-shared
decreases-loop-shared g l = vec_len l.locks
