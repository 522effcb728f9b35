use Rattle.std.proofs.Common.{◌≡◌, All, take, map}
use Rattle.esr_audit.specs.Findings.{IsFinding, Finding}
use Rattle.esr_audit.proofs.audit.findings_of.Given as goal

abbrev pub invariant-loop-q : goal.invariant-loop-q
invariant-loop-q g l =
    (map (λ (f : Finding). f.query) l.findings.items ≡ take l.q-index l.queries)
    × All (IsFinding g.M.Metric.distance_by l.history.schedule) l.findings.items
