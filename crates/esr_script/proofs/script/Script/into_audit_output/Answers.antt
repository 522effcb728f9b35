use Rattle.std.proofs.Common.{map, ◌∙◌}
use Rattle.esr_audit.specs.Findings.{seen_summary}
use Rattle.esr_script.specs.Stages.{is_running, history_of}
use Rattle.esr_script.proofs.Audited.{book_lines}
use Rattle.esr_script.proofs.script.Script.into_audit_output.Goals as goal

pub returns-in-Ok-clause-ok : goal.returns-in-Ok-clause-ok
returns-in-Ok-clause-ok g c =
    let found = c.in_ok-found.found in let totals = c.totals-totals in
    let lines = book_lines c.self.inside.items c.self.inside.transactions (is_running c.self.inside.stage)
    (history_of c.self.inside.stage) (history_of c.ensure_started.new.self) c.args.self
    (map (λ t. t.0) found.order.items) (map seen_summary found.summaries.items) totals.result.import totals.result.export totals.result.entries
    c.self.view_is c.in_ok-ensure_started.ensures.ok.1 c.in_ok-found.ensures.summaries.1.order c.in_ok-found.ensures.summaries.1.summaries totals.ensures.import totals.ensures.export totals.ensures.entries in
    c.in-Ok.ensures ∙ rw c.new-out.ensures.items lines
