use Rattle.std.proofs.Common.{◌≡◌, ◌∙◌, ◌≤◌, List, ap, arith, length, map, take, take_all}
use Rattle.std.specs.List.{filter_map}
use Rattle.esr_base.specs.declared.numbers.TxnId.{TxnId}
use Rattle.esr_history.specs.declared.event.Entry.{Entry}
use Rattle.esr_history.specs.Machine.{Schedule, accepted_in}
use Rattle.esr_history.specs.Operations.{commit_order}
use Rattle.esr_order.specs.Scans.{commit_in}
use Rattle.esr_order.proofs.Commits.{committed_are}
use Rattle.esr_outcomes.proofs.auditor.Auditor.commits.Goals as goal

pub returns : goal.returns
returns c =
    let es : List Entry = c.self.inside.history.now.schedule.entries in
    let past : length es ≤ length es = omega arith in
    let whole : take c.self.inside.index.read es ≡ es = ap (λ n. take n es) c.self.invariant.1 ∙ take_all (length es) es past in
    ap (map (λ (t : TxnId). t.0)) (c.commits.ensures ∙ (c.self.invariant.0.commits ∙ ap (filter_map commit_in) whole))
    ∙ (committed_are es ∙ ap (λ (h : Schedule). commit_order (accepted_in h)) c.self.view_is)
