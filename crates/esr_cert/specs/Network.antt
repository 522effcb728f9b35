-- Networks with one source and one sink, and the network of a problem.
use Rattle.std.specs.Prelude.{◌≢◌, ℕ, ◌+◌, ◌<◌, List, [], ◌∷◌, ◌++◌, length, get_or, map, Some, None, flat_map}
pub use Rattle.esr_cert.specs.declared.network.Arc.{Arc}
use Rattle.esr_cert.specs.Problem.{Chain, Problem, update_count}

-- nodes are numbered from 0
pub record Network : Type 0 where
  pub node_count : ℕ
  pub arcs : List Arc
  pub source : ℕ
  pub sink : ℕ

abbrev pub arc_at : List Arc → ℕ → Arc
arc_at arcs i = get_or arcs i (record { from = 0; to = 0; capacity = Some 0 })

-- the ends of the arcs are nodes
abbrev pub EndsAreNodes : List Arc → ℕ → Type 0
EndsAreNodes arcs node_count = (i : ℕ) → i < length arcs → ((arc_at arcs i).from < node_count) × ((arc_at arcs i).to < node_count)

-- arcs join nodes, and none enters the source
pub record IsNetwork (net : Network) : Type 0 where
  pub ends : EndsAreNodes net.arcs net.node_count
  pub none_into_source : (i : ℕ) → i < length net.arcs → (arc_at net.arcs i).to ≢ net.source
  pub source_is_not_sink : net.source ≢ net.sink
  pub source_is_node : net.source < net.node_count

-- from a node through the writers to the sink, with a cost as the capacity of each arc
abbrev pub path_arcs : ℕ → ℕ → List ℕ → List ℕ → List Arc
path_arcs from sink writers [] = []
path_arcs from sink [] (c ∷ costs) = record { from = from; to = sink; capacity = Some c } ∷ []
path_arcs from sink (w ∷ writers) (c ∷ costs) =
    record { from = from; to = w; capacity = Some c } ∷ path_arcs w sink writers costs

-- the arcs of a chain, in a network of n updates
abbrev pub arcs_of_chain : ℕ → Chain → List Arc
arcs_of_chain n chain = path_arcs n (n + 1) chain.writers chain.costs

-- for the pair (u, v) the arc from v back to u
abbrev pub predecessor_arc : ℕ × ℕ → Arc
predecessor_arc e = record { from = e.1; to = e.0; capacity = None }

abbrev pub must_arc : ℕ → ℕ → Arc
must_arc source u = record { from = source; to = u; capacity = None }

abbrev pub arcs_of_chains : Problem → List Arc
arcs_of_chains p = flat_map (arcs_of_chain (update_count p)) p.chains

abbrev pub predecessor_arcs : Problem → List Arc
predecessor_arcs p = map predecessor_arc p.before

abbrev pub must_arcs : Problem → List Arc
must_arcs p = map (must_arc (update_count p)) p.must

-- updates are nodes by their positions, followed by the source and the sink
abbrev pub network : Problem → Network
network p = record {
  node_count = update_count p + 2;
  arcs = arcs_of_chains p ++ predecessor_arcs p ++ must_arcs p;
  source = update_count p;
  sink = update_count p + 1;
}
