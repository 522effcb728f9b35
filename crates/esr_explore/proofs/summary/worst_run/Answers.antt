use Rattle.std.proofs.Common.{◌≡◌, ◌+◌, ◌∙◌, ℕ, ap, arith, length, map, subst, take, take_all}
use Rattle.esr_explore.specs.Severity.{first_greatest, severity_of, worst_run}
use Rattle.esr_explore.proofs.Greatest.{IsFirst, first_all, first_more}
use Rattle.esr_explore.proofs.summary.worst_run.Goals as goal
use Rattle.esr_explore.proofs.summary.worst_run.Goals.{then-severity-greatest_severity, else-severity-greatest_severity}

pub loop-i-preserved : goal.loop-i-preserved
loop-i-preserved c =
    let f = severity_of c.args.measure in
    let more = first_more f c.args.summaries.now c.loop-i.i c.index-summaries-i.result c.loop-i.worst c.loop-i.greatest_severity c.severity_of-severity.result c.loop-i-test.true
    (c.severity_of-severity.ensures ∙ ap f c.index-summaries-i.is) c.loop-i.invariant in
    elim c.if-severity-greatest_severity.branch [
      | then-severity-greatest_severity w ↦ rw (w.worst-is, w.greatest_severity-is) (more.0 (omega arith))
      | else-severity-greatest_severity w ↦ rw (w.worst-is, w.greatest_severity-is) (more.1 (omega arith))
    ]

pub returns : goal.returns
returns c =
    let f = severity_of c.args.measure in
    let xs = c.args.summaries.now in
    first_all (map f (take c.loop-i.i xs)) c.loop-i.worst c.loop-i.greatest_severity c.loop-i.invariant
    ∙ ap (λ l. first_greatest (map f l)) (take_all c.loop-i.i xs (omega arith))
