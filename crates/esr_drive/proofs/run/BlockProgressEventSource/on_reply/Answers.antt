use Rattle.std.proofs.Common.{◌≡◌, ◌+◌, ◌++◌, ◌∷◌, [], List, true, false, arith, sym, subst, ◌∙◌}
use Rattle.esr_history.specs.declared.event.Reply.{Reply}
use Rattle.esr_session.specs.Receipts.{is_blocked}
use Rattle.esr_drive.specs.Runs.{IsUnderWay}
use Rattle.esr_drive.proofs.Calling.{still_blocked, answered}
use Rattle.esr_drive.proofs.run.BlockProgressEventSource.on_reply.Goals as goal
use Rattle.esr_drive.proofs.run.BlockProgressEventSource.on_reply.Goals.{else-is_blocked-via-then-is_blocked+else-self-lt-TURNS, else-is_blocked-via-else-is_blocked}

pub returns-then-self-lt-TURNS : goal.returns-then-self-lt-TURNS
returns-then-self-lt-TURNS c =
    λ first receipts was.
    (was.0, still_blocked c.args.self.now.calls.now c.args.self.now.replies.items c.args.self.now.blocked receipts c.args.receipt was.1 c.requires (sym c.is_blocked.ensures ∙ c.if-is_blocked.true))

pub returns-else-is_blocked : goal.returns-else-is_blocked
returns-else-is_blocked c =
    let patient : is_blocked c.args.receipt.reply ≡ true → c.args.self.now.blocked + 1 ≡ 100 = elim c.else-is_blocked.branch [
      | else-is_blocked-via-then-is_blocked+else-self-lt-TURNS w ↦ λ b. omega (arith, w.if-self-lt-TURNS.false, c.args.self.now.count_within_max)
      | else-is_blocked-via-else-is_blocked w ↦ λ b. let e : false ≡ true = sym w.if-is_blocked.false ∙ (c.is_blocked.ensures ∙ b) in cc
    ] in
    λ first receipts was. (
      was.0,
      subst (λ (l : List Reply). IsUnderWay c.args.self.now.calls.now l 0 (receipts ++ c.args.receipt ∷ [])) (sym c.push_reserved.ensures.items)
          (answered c.args.self.now.calls.now c.args.self.now.replies.items c.args.self.now.blocked receipts c.args.receipt was.1 c.requires c.args.self.now.count_within_max patient),
    )
