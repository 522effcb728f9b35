use Rattle.std.proofs.Common.{rules, ◌≤◌, length, arith}
use Rattle.esr_report.specs.Lines.{reply_line}
use Rattle.esr_plan.specs.Calls.{answers_of}
use Rattle.esr_plan.specs.Text.{subject_of}
use Rattle.esr_plan.specs.Tables.{names_in}
use Rattle.esr_plan.proofs.Noting.{length_answers}
use Rattle.esr_plan.proofs.Rendered.{replies_more, whole_text}
use Rattle.esr_plan.proofs.text.push_replies.Goals as goal

pub loop-i-preserved : goal.loop-i-preserved
loop-i-preserved c =
    replies_more (names_in c.args.names.now) c.args.calls.now c.args.replies.now c.loop-i.i _ _ c.args.out.now.items c.loop-i.out.items c.push_reply.new.out.items
    c.in_ok-push_reply.ensures c.requires c.loop-i-test.true c.loop-i.invariant

pub returns : goal.returns
returns c =
    let len = length_answers c.args.calls.now c.args.replies.now c.requires in
    let le : length c.args.calls.now ≤ c.loop-i.i = search rules in
    whole_text (λ a. reply_line (names_in c.args.names.now) (subject_of a.command) a.reply) (answers_of c.args.calls.now c.args.replies.now) c.loop-i.i c.args.out.now.items c.loop-i.out.items (omega (arith, le, len)) c.loop-i.invariant
