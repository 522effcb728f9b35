use Rattle.std.proofs.Common.{◌≡◌, Ok, None, map}
use Rattle.esr_drive.specs.Faults.{reported_fault}
use Rattle.esr_drive.proofs.threads.gather.Given as goal

-- the sessions so far, their replies if each block was run to its end, and the reported fault
abbrev pub invariant-loop-ran : goal.invariant-loop-ran
invariant-loop-ran g l =
    (l.sessions.items ≡ map (λ ran. ran.session) l.yielded)
    × (l.worst ≡ reported_fault (map (λ ran. ran.outcome) l.yielded))
    × (l.worst ≡ None → map (λ ran. ran.outcome) l.yielded ≡ map (λ r. Ok r) l.replies.items)
