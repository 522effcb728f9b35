use Rattle.std.proofs.Common.{rules, ◌++◌, ◌∙◌, ap, flat_map, take_all}
use Rattle.esr_audit.specs.Findings.{seen_summary}
use Rattle.esr_script.specs.Audit.{finding_line}
use Rattle.esr_script.proofs.Audited.{lines_of_map}
use Rattle.esr_script.proofs.book.push_summaries.Goals as goal

pub returns : goal.returns
returns c =
    c.loop-summary.invariant
    ∙ ap (λ l. c.args.out.now.items ++ flat_map (λ s. finding_line c.args.names.now (seen_summary s)) l) (take_all c.loop-summary.summary-index c.args.summaries.now (search rules))
    ∙ ap (λ l. c.args.out.now.items ++ l) (lines_of_map (finding_line c.args.names.now) seen_summary c.args.summaries.now)
