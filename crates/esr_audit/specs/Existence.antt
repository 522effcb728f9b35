-- The laws of findings: a legal history determines the results of its audits, and a finding exists for each of them,
-- whatever algorithm computes the results.
use Rattle.std.specs.Prelude.{◌≡◌, ◌≤◌, ℕ, ℤ, IsTrue, List, length, map, All}
use Rattle.esr_base.specs.declared.limits.TheConstants.{MAX_ITEMS}
use Rattle.esr_items.specs.Values.{IsValue, max_distance}
use Rattle.esr_history.specs.Machine.{DistanceFunction, Schedule, IsLegal}
use Rattle.esr_history.specs.Queries.{is_committed_query, ImportBoundsDistance}
use Rattle.esr_history.specs.Serial.{committed_updates}
use Rattle.esr_audit.specs.Findings.{Finding, IsFindingOf, AreAudits, committed_queries, summary_of}

-- a legal history within the limits of the engine, whose distances are within theirs and bounded by its imports
pub record IsAuditable (d : DistanceFunction) (h : Schedule) : Type 0 where
  pub legal : IsLegal d h
  pub opening_values_in_range : All IsValue h.opening
  pub items : length h.opening ≤ MAX_ITEMS
  pub bounded : (w : List ℕ) (x : ℕ) (a b : ℤ) → IsValue a → IsValue b → d w x a b ≤ max_distance
  pub import_bounds : ImportBoundsDistance d h

-- Each committed query has a finding.
abbrev pub EachCommittedQueryHasAFinding : Type 0
EachCommittedQueryHasAFinding =
    (d : DistanceFunction) (h : Schedule) (q : ℕ) → IsAuditable d h → IsTrue (is_committed_query h q)
    → (f : Finding) × (f.query.0 ≡ q) × IsFindingOf d h q f

-- Results that are the summaries of the committed queries, in commit order, are those of some findings.
abbrev pub EachHistoryHasAudits : Type 0
EachHistoryHasAudits =
    (d : DistanceFunction) (h : Schedule) (updates : List ℕ) (results : List (ℕ × ℕ × ℕ × List ℕ)) → IsAuditable d h
    → updates ≡ committed_updates h → results ≡ map (summary_of d h) (committed_queries h)
    → (findings : List Finding) × AreAudits d h updates findings results
