use Rattle.std.proofs.Common.{◌≡◌, map, ap, ◌∙◌, sym, subst}
use Rattle.esr_base.specs.declared.numbers.TxnId.{TxnId}
use Rattle.esr_order.specs.Relevant.{AreRelevant}
use Rattle.esr_cert.specs.Problem.{is_well_formed}
use Rattle.esr_cert.specs.Views.{problem_of}
use Rattle.esr_audit.specs.Problems.{IsProblemOf}
use Rattle.esr_audit.proofs.ProblemOfOrder.{problem_of_order, is_problem}
use Rattle.esr_audit.proofs.BuiltProblem as built_problem_equals_specified
use Rattle.esr_audit.proofs.problem.problem_of.Given.{Over}
use Rattle.esr_audit.proofs.problem.problem_of.Goals as goal

pub take_chains-requires-clause-count_within_max : goal.take_chains-requires-clause-count_within_max
take_chains-requires-clause-count_within_max g c =
    built_problem_equals_specified.item_reads_at_most_max g.M.Metric.distance_by c.args.history.now.schedule c.args.q.0 c.log-invariant.ensures.legal c.log-invariant.ensures.range c.deref.result.now (c.deref.ensures.value ∙ c.in_ok-reads.ensures) c.requires.query

pub take_chains-requires-clause-reads_in_range : goal.take_chains-requires-clause-reads_in_range
take_chains-requires-clause-reads_in_range g c =
    built_problem_equals_specified.item_reads_in_range g.M.Metric.distance_by c.args.history.now.schedule c.args.q.0 c.log-invariant.ensures.legal c.log-invariant.ensures.range c.deref.result.now (c.deref.ensures.value ∙ c.in_ok-reads.ensures)

pub take_chains-requires-clause-versions_in_range : goal.take_chains-requires-clause-versions_in_range
take_chains-requires-clause-versions_in_range g c =
    built_problem_equals_specified.versions_in_range g.M.Metric.distance_by c.args.history.now.schedule c.args.q.0 c.log-invariant.ensures.legal c.log-invariant.ensures.range (map (λ (t : TxnId). t.0) c.args.order.commits) c.requires.relevant c.args.order c.requires.order

-- the parts of the problem are those gathered from the order
problem_here : (g : Over) (c : goal.After-drop-reads-2 g) → problem_of c.into_parts-updates.result.0.items c.into_parts-updates.result.1.items c.in_ok-chains.chains.items c.into_parts-updates.result.2.items
    ≡ problem_of_order g.M.Metric.distance_by c.args.history.now.schedule c.args.q.0 c.args.order
problem_here g c =
    built_problem_equals_specified.built_problem_equals_specified g.M.Metric.distance_by c.args.history.now.schedule c.args.q.0 c.log-invariant.ensures.legal c.log-invariant.ensures.range (map (λ (t : TxnId). t.0) c.args.order.commits) c.requires.relevant c.args.order c.requires.order c.deref.result.now (c.deref.ensures.value ∙ c.in_ok-reads.ensures)
    _ _ _ _
    (c.into_parts-updates.ensures.commits ∙ c.in_ok-chains.ensures.commits_unchanged)
    (c.into_parts-updates.ensures.before ∙ c.in_ok-chains.ensures.before_unchanged)
    (c.into_parts-updates.ensures.must ∙ c.in_ok-chains.ensures.must_unchanged)
    c.in_ok-chains.ensures.chains

pub from_valid_parts-requires : goal.from_valid_parts-requires
from_valid_parts-requires g c = record {
  well_formed = ap is_well_formed (built_problem_equals_specified.built_problem_equals_specified g.M.Metric.distance_by c.args.history.now.schedule c.args.q.0 c.log-invariant.ensures.legal c.log-invariant.ensures.range (map (λ (t : TxnId). t.0) c.args.order.commits) c.requires.relevant c.args.order c.requires.order c.deref.result.now (c.deref.ensures.value ∙ c.in_ok-reads.ensures)
      _ _ _ _
      (c.into_parts-updates.ensures.commits ∙ c.in_ok-chains.ensures.commits_unchanged)
      (c.into_parts-updates.ensures.before ∙ c.in_ok-chains.ensures.before_unchanged)
      (c.into_parts-updates.ensures.must ∙ c.in_ok-chains.ensures.must_unchanged)
      c.in_ok-chains.ensures.chains)
      ∙ built_problem_equals_specified.problem_is_well_formed g.M.Metric.distance_by c.args.history.now.schedule c.args.q.0 c.log-invariant.ensures.legal c.log-invariant.ensures.range (map (λ (t : TxnId). t.0) c.args.order.commits) c.requires.relevant c.args.order c.requires.order c.log-invariant.ensures.items c.requires.query g.met.M.Metric.bounded;
}

pub returns-clause-is_problem : goal.returns-clause-is_problem
returns-clause-is_problem g c =
    subst (IsProblemOf g.M.Metric.distance_by c.args.history.now.schedule c.args.q.0) (sym (c.in_ok-problem.ensures ∙ problem_here g c))
    (is_problem g.M.Metric.distance_by c.args.history.now.schedule c.args.q.0 c.log-invariant.ensures.legal (map (λ (t : TxnId). t.0) c.args.order.commits) c.requires.relevant c.args.order c.requires.order)

pub returns-clause-relevant : goal.returns-clause-relevant
returns-clause-relevant g c = subst (λ p. AreRelevant c.args.history.now.schedule c.args.q.0 p.updates) (sym (c.in_ok-problem.ensures ∙ problem_here g c)) c.requires.relevant
