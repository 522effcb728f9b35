use Rattle.std.proofs.Common.{◌≡◌, not, take, filter}
use Rattle.esr_base.specs.declared.numbers.TxnId.{TxnId}
use Rattle.esr_history.specs.Events.{is_query}
use Rattle.esr_history.specs.Machine.{accepted_in}
use Rattle.esr_audit.proofs.commits.lists_among.Given as goal

abbrev pub invariant-loop-t : goal.invariant-loop-t
invariant-loop-t g l =
    (l.updates.items ≡ filter (λ (t : TxnId). not (is_query (accepted_in l.history.schedule) t.0)) (take l.t-index l.t-items))
    × (l.queries.items ≡ filter (λ (t : TxnId). is_query (accepted_in l.history.schedule) t.0) (take l.t-index l.t-items))
