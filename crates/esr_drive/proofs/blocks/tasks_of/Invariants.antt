use Rattle.std.proofs.Common.{◌≡◌, ◌+◌, ◌≤◌, [], All, length, map, take, vec_len, vec_capacity}
use Rattle.esr_drive.proofs.blocks.tasks_of.Given as goal

-- a session that has made no call for each block so far, and for each of the others
abbrev pub invariant-loop-i : goal.invariant-loop-i
invariant-loop-i g l =
    (vec_len l.sessions + l.i ≡ length l.blocks)
    × (vec_len l.tasks ≡ l.i)
    × (length l.blocks ≤ vec_capacity l.tasks)
    × All (λ session. session ≡ []) l.sessions.items
    × All (λ task. task.session ≡ []) l.tasks.items
    × (map (λ task. task.calls.now) l.tasks.items ≡ map (λ b. b.items) (take l.i l.blocks))
