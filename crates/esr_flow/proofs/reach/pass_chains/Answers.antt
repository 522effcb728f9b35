use Rattle.std.proofs.Common.{arith, ◌≡◌, ℕ, ◌+◌, ◌-◌, ◌≤◌, length, get_or, inl, inr, refl, sym, ap, ◌∙◌, subst, true≢false}
use Rattle.std.proofs.lemmas.Bool.{cases_lt}
use Rattle.esr_flow.specs.ResidualGraph.{network_arcs}
use Rattle.esr_cert.specs.ChainStarts.{chain_starts_from}
use Rattle.esr_flow.specs.Reached.{IsKeptOver, first_back}
use Rattle.esr_cert.proofs.ChainArcsLaws.{starts_first, next_begin, inside_all}
use Rattle.esr_flow.proofs.PassLaws.{count_is, has_links}
use Rattle.esr_flow.proofs.reach.pass_chains.Goals as goal
use Rattle.esr_flow.proofs.reach.pass_chains.Goals.{then-pass_chain, else-pass_chain}

pub loop-chain-init : goal.loop-chain-init
loop-chain-init c = record {
  place = sym (starts_first 0 c.args.graph.now.problem.now.chains);
  reached = c.requires.reached;
  same = λ quiet. refl;
  kept = λ quiet k l. absurd (omega (arith, l));
}

pub pass_chain-requires-clause-chain : goal.pass_chain-requires-clause-chain
pass_chain-requires-clause-chain c = has_links c.args.graph.now.problem.now c.chains-chain-items.ensures.well_formed c.chains-chain-items.result.now c.chains-chain-items.ensures.list c.loop-chain.chain-index c.loop-chain.begin c.chain-item.result c.loop-chain-test.true c.chain-item.is c.loop-chain.invariant.place

pub overflow_add-begin : goal.overflow_add-begin
overflow_add-begin c =
    let inside : c.loop-chain.begin + length c.chain-item.result.costs.items ≤ first_back c.args.graph.now.problem.now =
    inside_all c.args.graph.now.problem.now c.chains-chain-items.ensures.well_formed c.chains-chain-items.result.now c.chains-chain-items.ensures.list c.loop-chain.chain-index c.loop-chain.begin c.chain-item.result c.loop-chain-test.true c.chain-item.is c.loop-chain.invariant.place in
    omega (arith, inside, count_is c.args.graph.now.problem.now c.chains-chain-items.ensures.well_formed, c.requires.flow, c.len-begin.ensures, c.chain-item.result.costs.ok.0)

pub loop-chain-preserved : goal.loop-chain-preserved
loop-chain-preserved c =
    let arcs = network_arcs c.args.graph.now in let flow = c.args.flow.now in let marks = c.loop-chain.marks in let begin : ℕ = c.loop-chain.begin in let after = c.pass_chain.new.marks in
    let size : c.len-begin.result ≡ length c.chain-item.result.costs.items = omega (arith, c.len-begin.ensures, c.chain-item.result.costs.ok.0) in
    let next : begin + c.len-begin.result ≡ get_or (chain_starts_from 0 c.args.graph.now.problem.now.chains) (c.loop-chain.chain-index + 1) 0 =
    ap (λ n. begin + n) size ∙ next_begin c.args.graph.now.problem.now c.chains-chain-items.ensures.well_formed c.chains-chain-items.result.now c.chains-chain-items.ensures.list c.loop-chain.chain-index begin c.chain-item.result c.loop-chain-test.true c.chain-item.is c.loop-chain.invariant.place in
    elim c.if-pass_chain.branch [
      | then-pass_chain w ↦ record {
        place = next;
        reached = c.pass_chain.ensures.reached;
        same = λ quiet. absurd (true≢false (sym w.more-is ∙ quiet));
        kept = λ quiet. absurd (true≢false (sym w.more-is ∙ quiet));
      }
      | else-pass_chain w ↦
          let same : after ≡ marks = c.pass_chain.ensures.marks w.if-pass_chain.false in record {
            place = next;
            reached = c.pass_chain.ensures.reached;
            same = λ quiet. same ∙ c.loop-chain.invariant.same (sym w.more-is ∙ quiet);
            kept = λ quiet k l. elim (cases_lt k begin) [
              | inl b ↦ subst (λ ms. IsKeptOver arcs flow ms k) (sym same) (c.loop-chain.invariant.kept (sym w.more-is ∙ quiet) k b)
              | inr b ↦
                  let there : begin + (k - begin) ≡ k = omega (arith, b) in
                  subst (IsKeptOver arcs flow after) there (c.pass_chain.ensures.kept w.if-pass_chain.false (k - begin) (omega (arith, b, l, size)))
            ];
          }
    ]
