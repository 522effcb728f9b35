use Rattle.std.proofs.Common.{◌≡◌, ◌++◌, take, flat_map}
use Rattle.esr_audit.specs.Findings.{seen_summary}
use Rattle.esr_script.specs.Audit.{finding_line}
use Rattle.esr_script.proofs.book.push_summaries.Given as goal

-- the lines of the summaries so far
abbrev pub invariant-loop-summary : goal.invariant-loop-summary
invariant-loop-summary l = l.out.items ≡ l.fn.out.items ++ flat_map (λ s. finding_line l.names (seen_summary s)) (take l.summary-index l.summaries)
