use Rattle.std.proofs.Common.{rules, arith, ap, ◌<◌, ◌≤◌, length, [], List, refl, sym, subst, ◌∙◌}
use Rattle.esr_history.specs.declared.event.Reply.{Reply}
use Rattle.esr_session.specs.declared.receipt.Receipt.{Receipt}
use Rattle.esr_plan.specs.declared.call.Call.{Call}
use Rattle.esr_drive.specs.Runs.{IsBlockRun, IsUnderWay}
use Rattle.esr_drive.proofs.Calling.{begun, bounded_calls, block_run, nearer}
use Rattle.esr_drive.proofs.run.call_all.Goals as goal

pub loop-progress-init : goal.loop-progress-init
loop-progress-init g c =
    let session = c.reserve.new.self in
    let none = subst (λ (rs : List Receipt). IsUnderWay c.args.calls.now [] 0 rs) (sym (c.reserve.ensures ∙ c.requires)) (begun c.args.calls.now) in
    (refl, subst (λ (l : List Reply). IsUnderWay c.args.calls.now l 0 session) (sym c.in-Ok.ensures.items) none)

pub loop-progress-smaller : goal.loop-progress-smaller
loop-progress-smaller g c =
    let inv = c.loop-progress.invariant in
    let old = c.loop-progress.progress in
    let new = c.call_several.new.source in
    let heard = c.call_several.ensures.source old (refl, inv.1) in
    let made = c.in_ok-call_several.ensures.receipts in
    let len = ap length inv.0 in
    let lt : length old.replies.items < length c.args.calls.now = search rules in
    let count_within_max = bounded_calls new.calls.now new.replies.items new.blocked c.call_several.new.self heard.1 new.count_within_max in
    nearer old.calls.now old.replies.items (length c.args.calls.now) c.in_ok-call_several.field-0 c.loop-progress.session made.0 c.call_several.new.self len lt (c.in_ok-call_several.ensures.none c.calls_of_hold-upper_bound.ensures.0) made.1 made.4 (omega (arith, count_within_max, ap length heard.0, len))

pub loop-progress-preserved : goal.loop-progress-preserved
loop-progress-preserved g c =
    let heard = c.call_several.ensures.source c.loop-progress.progress (refl, c.loop-progress.invariant.1) in
    (heard.0 ∙ c.loop-progress.invariant.0, heard.1)

pub returns-in_err-call_several-clause-upper_bound : goal.returns-in_err-call_several-clause-upper_bound
returns-in_err-call_several-clause-upper_bound g c =
    let new = c.call_several.new.source in
    let heard = c.call_several.ensures.source c.loop-progress.progress (refl, c.loop-progress.invariant.1) in
    let count_within_max = bounded_calls new.calls.now new.replies.items new.blocked c.call_several.new.self heard.1 new.count_within_max in
    omega (arith, count_within_max, ap length heard.0, ap length c.loop-progress.invariant.0)

pub returns-clause-run : goal.returns-clause-run
returns-clause-run g c =
    let inv = c.loop-progress.invariant in
    let at = c.loop-progress.progress in
    let le : length c.args.calls.now ≤ length at.replies.items = search rules in
    subst (λ (l : List Call). IsBlockRun l at.replies.items c.loop-progress.session) inv.0
    (block_run at.calls.now at.replies.items at.blocked c.loop-progress.session inv.1 (omega (arith, le, ap length inv.0)))

pub returns-clause-upper_bound : goal.returns-clause-upper_bound
returns-clause-upper_bound g c =
    let inv = c.loop-progress.invariant in
    let at = c.loop-progress.progress in
    omega (arith, bounded_calls at.calls.now at.replies.items at.blocked c.loop-progress.session inv.1 at.count_within_max, ap length inv.0)
