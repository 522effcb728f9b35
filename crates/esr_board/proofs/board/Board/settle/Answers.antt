use Rattle.std.proofs.Common.{◌≡◌, rules, arith, sym, sum_by, List, [], map, subst}
use Rattle.esr_board.specs.Boards.{IsSeatOf, claimed, hand_of, BoardSeat}
use Rattle.esr_board.specs.Claims.{passes_of, IsBoardAt}
use Rattle.esr_board.proofs.Keeps.{joins}
use Rattle.esr_board.proofs.Closes.{settles, popped, all_popped, joined_numbers, joined_passes, joined_count, given_at, counted_all, none_left}
use Rattle.esr_board.proofs.board.Board.settle.Goals as goal

pub loop-next-init : goal.loop-next-init
loop-next-init c = let e = c.in-Some.ensures.items in let l = c.in-Some.last in record {
  seats = (all_popped (IsSeatOf c.args.self) _ _ _ e c.requires).0;
  table = (all_popped (IsSeatOf c.args.self) _ _ _ e c.requires).1.0;
  no_slot = search rules;
  counted = search rules;
  fits = search rules;
  numbers = (λ weight. popped (λ s. sum_by weight (claimed s)) _ _ l e);
  passes = popped (λ s. passes_of c.args.self.jobs (hand_of s)) _ _ l e;
}

pub join_seat-requires : goal.join_seat-requires
join_seat-requires c = let e = c.in-Some-pop.ensures.items in (
  search rules,
  (all_popped (IsSeatOf c.args.self) _ _ _ e c.loop-next.invariant.seats).1.0,
  search rules,
  search rules,
  joins _ _ _ _ _,
)

pub loop-next-preserved : goal.loop-next-preserved
loop-next-preserved c = let e = c.in-Some-pop.ensures.items in let n = c.in-Some-pop.next in let m = c.join_seat.ensures.2 in record {
  seats = (all_popped (IsSeatOf c.args.self) _ _ _ e c.loop-next.invariant.seats).0;
  table = search rules;
  no_slot = search rules;
  counted = (let k = joined_count c.loop-next.all.me c.join_seat.new.seat.me n.seat.me.0 m in omega arith);
  fits = search rules;
  numbers = (λ weight. let p = popped (λ s. sum_by weight (claimed s)) _ _ n e in let k = joined_numbers c.loop-next.all.me c.join_seat.new.seat.me n.seat.me.0 m weight in let was = c.loop-next.invariant.numbers weight in omega arith);
  passes = (let p = popped (λ s. passes_of c.args.self.jobs (hand_of s)) _ _ n e in let k = joined_passes c.args.self.jobs c.loop-next.all.me c.join_seat.new.seat.me n.seat.me.0 m in let was = c.loop-next.invariant.passes in omega arith);
}

pub returns-in_default-clause-word : goal.returns-in_default-clause-word
returns-in_default-clause-word c = let final = c.close-closed.ensures.values.2 in let b = c.args.self in
    let none_given : c.args.seats.items ≡ [] = search rules in
    let fair = settles b.table.shared.key b.jobs b.seats _ _ final.0 final.1 b.jobs_known b.seats_known final.2 c.word-word.ensures in
    subst (λ (l : List BoardSeat). IsBoardAt b.jobs b.seats (map hand_of l) c.word-word.result) (sym none_given) (final.0.views, fair)

pub returns-clause-count : goal.returns-clause-count
returns-clause-count c = grind (arith, counted_all, none_left, sum_by)

pub returns-clause-word : goal.returns-clause-word
returns-clause-word c = let final = c.close_with-closed.ensures.values.2 in let b = c.args.self in
    let fair = settles b.table.shared.key b.jobs b.seats _ _ final.0 final.1.0 b.jobs_known b.seats_known final.2 c.word-word-2.ensures in
    let nothing : c.loop-next.seats.items ≡ [] = search rules in
    given_at b.jobs b.seats c.word-word-2.result c.args.seats.items final.0.views c.loop-next.all.id c.loop-next.all.me.0 fair final.1.1
    (λ weight. none_left (λ s. sum_by weight (claimed s)) _ _ c.loop-next.seats.items nothing (c.loop-next.invariant.numbers weight))
    (none_left (λ s. passes_of b.jobs (hand_of s)) _ _ c.loop-next.seats.items nothing c.loop-next.invariant.passes)
    (λ k d l. (c.requires k d l).1)
