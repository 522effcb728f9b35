use Rattle.std.proofs.Common.{arith, ◌≡◌, ℕ, ◌+◌, ◌<◌, true, false, inl, inr, sym, ◌∙◌, subst, true≢false}
use Rattle.std.proofs.lemmas.Bool.{cases_lt}
use Rattle.esr_flow.specs.ResidualGraph.{network_arcs, network_of}
use Rattle.esr_flow.specs.Reached.{AreReached, IsKeptOver}
use Rattle.esr_flow.proofs.PassLaws.{link_kept}
use Rattle.esr_flow.proofs.reach.pass_chain.Goals as goal
use Rattle.esr_flow.proofs.reach.pass_chain.Goals.{then-not-is_link_alike+then-spread, else-not-is_link_alike, else-not-is_link_alike-via-then-not-is_link_alike+else-spread, else-not-is_link_alike-via-else-not-is_link_alike}

pub loop-j-preserved : goal.loop-j-preserved
loop-j-preserved c =
    let arcs = network_arcs c.args.graph.now in let flow = c.args.flow.now in let marks = c.loop-j.marks in let begin : ℕ = c.args.begin in let after = c.if-not-is_link_alike.marks in
    let kept : after ≡ marks → c.if-not-is_link_alike.more ≡ c.loop-j.more → IsKeptOver arcs flow marks (begin + c.loop-j.j) → c.if-not-is_link_alike.more ≡ false → (k : ℕ) → k < c.loop-j.j + 1 → IsKeptOver arcs flow after (begin + k) =
    λ same more here quiet k l. subst (λ ms. IsKeptOver arcs flow ms (begin + k)) (sym same) (elim (cases_lt k c.loop-j.j) [
      | inl b ↦ c.loop-j.invariant.kept (sym more ∙ quiet) k b
      | inr b ↦ subst (λ n. IsKeptOver arcs flow marks (begin + n)) (omega (arith, b, l)) here
    ]) in
    elim c.if-not-is_link_alike.branch [
      | then-not-is_link_alike+then-spread w ↦ record {
        reached = subst (AreReached (network_of c.args.graph.now) flow) (sym w.marks-is) w.spread.ensures.reached;
        same = λ quiet. absurd (true≢false (sym w.more-is ∙ quiet));
        kept = λ quiet. absurd (true≢false (sym w.more-is ∙ quiet));
      }
      | else-not-is_link_alike w ↦ elim w.else-not-is_link_alike.branch [
        | else-not-is_link_alike-via-then-not-is_link_alike+else-spread v ↦
            let same : after ≡ marks = w.marks-is ∙ (v.marks-is ∙ v.spread.ensures.marks v.if-spread.false) in record {
              reached = subst (AreReached (network_of c.args.graph.now) flow) (sym same) c.loop-j.invariant.reached;
              same = λ quiet. same ∙ c.loop-j.invariant.same (sym w.more-is ∙ quiet);
              kept = kept same w.more-is (v.spread.ensures.kept v.if-spread.false);
            }
        | else-not-is_link_alike-via-else-not-is_link_alike v ↦
            let same : after ≡ marks = w.marks-is ∙ v.marks-is in let alike : c.is_link_alike.result ≡ true = v.if-not-is_link_alike.false in let there = c.is_link_alike.ensures.place alike in record {
              reached = subst (AreReached (network_of c.args.graph.now) flow) (sym same) c.loop-j.invariant.reached;
              same = λ quiet. same ∙ c.loop-j.invariant.same (sym w.more-is ∙ quiet);
              kept = kept same w.more-is (link_kept arcs flow marks c.args.chain.now begin c.requires.chain c.loop-j.j there.0 there.1 (c.is_link_alike.ensures.ends alike));
            }
      ]
    ]

pub returns-clause-kept : goal.returns-clause-kept
returns-clause-kept c = λ quiet j l. c.loop-j.invariant.kept quiet j (omega (arith, c.len-j-end.ensures, c.args.chain.now.costs.ok.0, c.loop-j-test.false, l))
