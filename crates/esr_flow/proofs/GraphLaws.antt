-- The graph of a problem.
use Rattle.std.proofs.Common.{◌≡◌, ℕ, ◌+◌, ◌^◌, ◌<◌, sym, ap, ◌∙◌, subst, arith}
use Rattle.esr_cert.specs.Problem.{Problem, update_count}
use Rattle.esr_cert.specs.Network.{IsNetwork, network}
use Rattle.esr_cert.specs.declared.adjacency.Adjacency.{Adjacency}
use Rattle.esr_cert.proofs.Sound.{IsProblem}
use Rattle.esr_cert.proofs.Least.{is_network}
use Rattle.esr_flow.specs.Graphs.{net_with, IsGraphOf}
use Rattle.std.specs.List.Sorted.{IsNonDecreasingBy}
use Rattle.esr_cert.specs.ResidualArcs.{rank_of, HasSteps}
use Rattle.esr_cert.specs.Adjacency.{IsAdjacencyOf}
use Rattle.esr_cert.proofs.ResidualArcsLaws.{has_steps, row_ascends}

module _ (p : Problem) (node_count source sink : ℕ) (a : node_count ≡ update_count p + 2) (b : source ≡ update_count p) (c : sink ≡ update_count p + 1) where
  pub net_is : net_with p node_count source sink ≡ network p
  net_is = ap (λ n. net_with p n source sink) a ∙ ap (λ n. net_with p (update_count p + 2) n sink) b ∙ ap (net_with p (update_count p + 2) (update_count p)) c

  pub graph_is : IsProblem p → (adjacency : Adjacency) → IsAdjacencyOf (network p) adjacency → node_count < 2 ^ 30 → IsGraphOf p adjacency node_count source sink
  graph_is ok adjacency given count_within_max =
      let adjacency : IsAdjacencyOf (net_with p node_count source sink) adjacency = subst (λ net. IsAdjacencyOf net adjacency) (sym net_is) given in
      record {
        is_network = subst IsNetwork (sym net_is) (is_network p ok);
        count = adjacency.rows.count;
        ordered = adjacency.rows.ordered;
        inside = adjacency.rows.inside;
        row = adjacency.rows.row;
        lists = λ v l. subst (HasSteps (network p).arcs v) (sym (adjacency.rows.row v l)) (has_steps (network p).arcs v);
        ascend = λ v l. subst (IsNonDecreasingBy rank_of) (sym (adjacency.rows.row v l)) (row_ascends (network p).arcs v);
        steps = adjacency.steps;
        sink_is_node = omega (arith, a, c);
        count_within_max = count_within_max;
      }
