use Rattle.std.proofs.Common.{arith, ◌≡◌, ℕ, ◌-◌, ◌<◌, ◌≤◌, false, length, inl, inr, sym, ◌∙◌, subst}
use Rattle.std.proofs.lemmas.Bool.{cases_lt}
use Rattle.esr_flow.specs.ResidualGraph.{network_arcs, network_of}
use Rattle.esr_flow.specs.Reached.{AreReached, IsKeptOver}
use Rattle.esr_flow.proofs.PassLaws.{pair_kept_by}
use Rattle.esr_flow.proofs.reach.pass_back.Goals as goal
use Rattle.esr_flow.proofs.reach.pass_back.Goals.{else-not-is_pair_alike-via-then-not-is_pair_alike+else-spread, else-not-is_pair_alike-via-else-not-is_pair_alike}

pub loop-i-preserved : goal.loop-i-preserved
loop-i-preserved c =
    let arcs = network_arcs c.args.graph.now in let flow = c.args.flow.now in let marks = c.loop-i.marks in let at : ℕ = c.loop-i.i - 1 in let after = c.else-not-is_pair_alike.marks in
    let kept : after ≡ marks → IsKeptOver arcs flow marks at → c.loop-i.more ≡ false → (k : ℕ) → at ≤ k → k < length arcs → IsKeptOver arcs flow after k =
    λ same here quiet k l m. subst (λ ms. IsKeptOver arcs flow ms k) (sym same) (elim (cases_lt k c.loop-i.i) [
      | inl b ↦ subst (IsKeptOver arcs flow marks) (omega (arith, b, l)) here
      | inr b ↦ c.loop-i.invariant.kept quiet k b m
    ]) in
    elim c.else-not-is_pair_alike.branch [
      | else-not-is_pair_alike-via-then-not-is_pair_alike+else-spread w ↦
          let same : after ≡ marks = w.marks-is ∙ w.spread.ensures.marks w.if-spread.false in record {
            reached = subst (AreReached (network_of c.args.graph.now) flow) (sym same) c.loop-i.invariant.reached;
            same = λ quiet. same ∙ c.loop-i.invariant.same quiet;
            kept = kept same (w.spread.ensures.kept w.if-spread.false);
          }
      | else-not-is_pair_alike-via-else-not-is_pair_alike w ↦
          let same : after ≡ marks = w.marks-is in record {
            reached = subst (AreReached (network_of c.args.graph.now) flow) (sym same) c.loop-i.invariant.reached;
            same = λ quiet. same ∙ c.loop-i.invariant.same quiet;
            kept = kept same (pair_kept_by c.args.graph.now.problem.now c.before-pairs.ensures.well_formed flow marks c.before-pairs.result.now c.before-pairs.ensures.list c.args.first c.requires.first at (omega (arith, c.loop-i-test.true)) (c.is_pair_alike.ensures.place w.if-not-is_pair_alike.false) (c.is_pair_alike.ensures.ends w.if-not-is_pair_alike.false));
          }
    ]
