use Rattle.std.proofs.Common.{rules, arith, ◌∙◌}
use Rattle.esr_board.proofs.Keeps.{claims, counted-claim, one_pass-claim, ended-claim, not_ended}
use Rattle.esr_board.proofs.board.Board.claim.Goals as goal

pub fetch_add-n-requires : goal.fetch_add-n-requires
fetch_add-n-requires c = (search rules, search rules, claims _ _ _ _ (search rules) (search rules) (search rules) (search rules))

pub invariant_of-seat : goal.invariant_of-seat
invariant_of-seat c = record {
  counted = counted-claim _ _ _ _ c.fetch_add-n.ensures.2.0 (search rules);
  one_pass = one_pass-claim _ _ _ c.fetch_add-n.ensures.2.0 (search rules) (search rules);
  ended_without = c.if-seat.false ∙ (ended-claim _ _ _ c.fetch_add-n.ensures.2.0 (search rules) (search rules)).1 (omega arith);
  no_slot = search rules;
}

pub invariant_of-seat-2 : goal.invariant_of-seat-2
invariant_of-seat-2 c = record {
  counted = counted-claim _ _ _ _ c.fetch_add-n.ensures.2.0 (search rules);
  one_pass = one_pass-claim _ _ _ c.fetch_add-n.ensures.2.0 (search rules) (search rules);
  ended_without = (ended-claim _ _ _ c.fetch_add-n.ensures.2.0 (search rules) (search rules)).0 (omega arith);
  no_slot = search rules;
}

pub returns-then-n-self-clause-again : goal.returns-then-n-self-clause-again
returns-then-n-self-clause-again c = λ past. absurd (not_ended c.args.self.now.jobs c.args.seat.now.seat.me.0 (search rules) (search rules) (search rules) past)

pub returns-clause-again : goal.returns-clause-again
returns-clause-again c = λ past. absurd (not_ended c.args.self.now.jobs c.args.seat.now.seat.me.0 (search rules) (search rules) (search rules) past)
