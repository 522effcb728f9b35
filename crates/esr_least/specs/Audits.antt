-- The audit of a query as a tuple, to compare it with the summary that the history determines.
use Rattle.std.specs.Prelude.{◌≡◌, ℕ, true, List, map}
use Rattle.esr_history.specs.declared.event.Entry.{Entry}
use Rattle.esr_history.specs.Legal.{continued}
use Rattle.esr_history.specs.Machine.{DistanceFunction, Schedule, IsLegal}
use Rattle.esr_history.specs.Queries.{is_committed_query}
use Rattle.esr_base.specs.declared.numbers.TxnId.{TxnId}
use Rattle.esr_audit.specs.declared.finding.Finding.{Finding}
use Rattle.esr_audit.specs.Findings.{IsFinding, summary, summary_of}
use Rattle.esr_least.specs.declared.query.QueryAudit.{QueryAudit}

-- the fields: the query, its distance, its import, and the updates before the nearest placement
abbrev pub audit_fields : QueryAudit → ℕ × ℕ × ℕ × List ℕ
audit_fields a = (a.query.0, a.distance, a.import, map (λ t. t.0) a.before.items)

-- in this history and in each legal extension, the query has committed, and this is its audit
abbrev pub IsStableAudit : DistanceFunction → Schedule → QueryAudit → Type 0
IsStableAudit d h a =
    (rest : List Entry) → IsLegal d (continued h rest)
    → (is_committed_query (continued h rest) a.query.0 ≡ true) × (audit_fields a ≡ summary_of d (continued h rest) a.query.0)

-- the audit has the fields of some finding of the query
abbrev pub IsSummaryOfFinding : DistanceFunction → Schedule → TxnId → QueryAudit → Type 0
IsSummaryOfFinding d h q a = (f : Finding) × (f.query ≡ q) × IsFinding d h f × (audit_fields a ≡ summary f)
