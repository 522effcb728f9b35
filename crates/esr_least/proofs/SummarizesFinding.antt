-- The audit of a committed query says what a finding of it says, even if none was computed.
use Rattle.std.proofs.Common.{◌≡◌, ◌∙◌, ℕ, ℤ, ◌≤◌, true, List, length, All, ap, subst, sym}
use Rattle.esr_base.specs.declared.limits.TheConstants.{MAX_ITEMS}
use Rattle.esr_base.specs.declared.numbers.TxnId.{TxnId}
use Rattle.esr_items.specs.Values.{IsValue, max_distance}
use Rattle.esr_history.specs.Machine.{DistanceFunction, Schedule, IsLegal}
use Rattle.esr_history.specs.Queries.{is_committed_query}
use Rattle.esr_history.proofs.Traces.{IsMetric}
use Rattle.esr_audit.specs.Findings.{IsFindingOf, IsFinding, summary, summary_of}
use Rattle.esr_audit.proofs.HasFinding.{auditable, each_committed_query_has_a_finding}
use Rattle.esr_audit.proofs.SummaryLaws.{summary_is}
use Rattle.esr_least.specs.Audits.{audit_fields, IsSummaryOfFinding}
use Rattle.esr_least.specs.declared.query.QueryAudit.{QueryAudit}

pub is_of_finding : (d : DistanceFunction) → ((w : List ℕ) → IsMetric (d w))
    → ((w : List ℕ) (x : ℕ) (a b : ℤ) → IsValue a → IsValue b → d w x a b ≤ max_distance)
    → (h : Schedule) → IsLegal d h → All IsValue h.opening → length h.opening ≤ MAX_ITEMS
    → (q : TxnId) (a : QueryAudit) → is_committed_query h q.0 ≡ true → audit_fields a ≡ summary_of d h q.0 → IsSummaryOfFinding d h q a
is_of_finding d metric bounded h legal values items q a committed is =
    let f = each_committed_query_has_a_finding d h q.0 (auditable d metric bounded h legal values items) committed in
    let own : IsFinding d h f.0 = subst (λ (n : ℕ). IsFindingOf d h n f.0) (sym f.1) f.2 in
    let same : summary f.0 ≡ summary_of d h q.0 = summary_is d h f.0 own ∙ ap (summary_of d h) f.1 in
    (f.0, (λ i. record { 0 = f.1 i }), own, is ∙ sym same)
