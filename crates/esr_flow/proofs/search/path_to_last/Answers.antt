use Rattle.std.proofs.Common.{arith, ◌<◌, subst, sym}
use Rattle.esr_flow.specs.Search.{visit_at}
use Rattle.esr_flow.proofs.PathLaws.{Back, back_more}
use Rattle.esr_flow.proofs.search.path_to_last.Goals as goal

pub loop-at-preserved : goal.loop-at-preserved
loop-at-preserved c =
    let visits = c.args.visits.now in
    let pos : 0 < c.loop-at.at = omega arith in
    let earlier = c.requires.earlier c.loop-at.at pos c.loop-at.invariant.in_visits in
    record {
      in_visits = omega (arith, earlier, c.loop-at.invariant.in_visits);
      opposite_has_residual = λ net flow found. subst (λ p. Back net flow visits p (visit_at visits c.loop-at.at).parent) (sym c.in_ok-push.ensures.items)
          (back_more net flow visits found c.loop-at.path.items c.loop-at.at pos (c.loop-at.invariant.opposite_has_residual net flow found));
    }
