use Rattle.std.proofs.Common.{◌≡◌, true, map, inl, inr}
use Rattle.std.proofs.lemmas.Bool.{cases_Bool, and_parts}
use Rattle.esr_base.specs.declared.numbers.TxnId.{TxnId}
use Rattle.esr_history.specs.Events.{is_query, is_committed}
use Rattle.esr_history.specs.Machine.{accepted_in}
use Rattle.esr_history.specs.Queries.{is_committed_query}
use Rattle.esr_audit.proofs.Stays as answer
use Rattle.esr_audit.proofs.audit.audit_query.Goals as goal

pub returns-clause-stable : goal.returns-clause-stable
returns-clause-stable g c =
    let h = c.args.history.now.schedule in
    let f = c.in_ok-finding_of.field-0 in
    let both : is_committed_query h c.args.q.0 ≡ true = elim (cases_Bool (is_committed_query h c.args.q.0)) [
      | inl is ↦ is
      | inr isnt ↦ let none = c.in_ok-order.ensures.not_committed_query.1 isnt in absurd (cc)
    ] in
    answer.stable g.M.Metric.distance_by h c.args.q.0 f.distance f.import (map (λ (t : TxnId). t.0) f.before.items) (and_parts (is_query (accepted_in h) c.args.q.0) (is_committed (accepted_in h) c.args.q.0) both).1 c.in_ok-finding_of.ensures.finding.answer
