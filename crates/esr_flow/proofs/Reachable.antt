-- The nodes that the source reaches in the residual network, as a test.
use Rattle.std.proofs.Common.{◌≡◌, ℕ, suc, ◌+◌, ◌≤◌, Bool, true, leb, ltb, List, [], ◌∷◌, ◌++◌, length, refl, arith, lt-ltb}
use Rattle.std.proofs.lemmas.Bool.{ltb-true}
use Rattle.esr_cert.specs.Network.{Network, IsNetwork}
use Rattle.esr_cert.specs.ResidualArcs.{start}
use Rattle.esr_flow.specs.Types.{ResidualArc}
use Rattle.esr_flow.specs.Residual.{finish, IsPath}
use Rattle.esr_flow.specs.Augmentation.{IsReach}
use Rattle.esr_flow.specs.Search.{IsShortestPath}
use Rattle.esr_flow.proofs.Count.{count_le}
use Rattle.esr_flow.proofs.Labels.{Levels, levels_from}
use Rattle.esr_flow.proofs.Distance.{distance, distance_sink, distance_falls, distance_least, distance_path, steps_le_nodes}
use Rattle.esr_flow.proofs.SearchLaws.{path_append}

-- a node that a path leads to can be reached by a path with at most as many steps as there are nodes
pub short_path : (net : Network) → IsNetwork net → (flow : List ℕ) (path : List ResidualArc) (a b : ℕ) → IsPath net.arcs flow a path b
    → (short : List ResidualArc) × (length short ≤ net.node_count) × IsPath net.arcs flow a short b
short_path net ok flow path a b h =
    let limit : ℕ = suc (length path) in
    let d : ℕ → ℕ = distance net.arcs flow b limit in
    let near : d a ≤ length path = distance_least net.arcs flow b limit path a h in
    let found : (short : List ResidualArc) × (length short ≡ d a) × IsPath net.arcs flow a short b = distance_path net.arcs flow b limit a (omega arith) in
    let bottom : d b ≡ 0 = distance_sink net.arcs flow b limit in
    let levels : Levels d net.arcs (d a) found.0 = levels_from net.arcs flow d (distance_falls net.arcs flow b limit) found.0 a b found.2 (omega (arith, found.1)) in
    (found.0, omega (arith, steps_le_nodes net ok d (d a) found.0 levels, count_le (λ v. leb (d v) (d a)) net.node_count), found.2)

-- whether some path with at most as many steps as there are nodes leads from the source to a node
pub is_reached : Network → List ℕ → ℕ → Bool
is_reached net flow v = ltb (distance net.arcs flow v (suc net.node_count) net.source) (suc net.node_count)

-- a path to a reached node, with fewest steps
pub reached_path : (net : Network) (flow : List ℕ) (v : ℕ) → is_reached net flow v ≡ true
    → (path : List ResidualArc) × IsPath net.arcs flow net.source path v × ((other : List ResidualArc) → IsPath net.arcs flow net.source other v → length path ≤ length other)
unfolding is_reached
reached_path net flow v t =
    let found : (path : List ResidualArc) × (length path ≡ distance net.arcs flow v (suc net.node_count) net.source) × IsPath net.arcs flow net.source path v =
    distance_path net.arcs flow v (suc net.node_count) net.source (ltb-true _ _ t) in
    (found.0, found.2, λ other h. omega (arith, distance_least net.arcs flow v (suc net.node_count) other net.source h, found.1))

pub path_reached : (net : Network) → IsNetwork net → (flow : List ℕ) (path : List ResidualArc) (v : ℕ) → IsPath net.arcs flow net.source path v → is_reached net flow v ≡ true
unfolding is_reached
path_reached net ok flow path v h =
    let short : (short : List ResidualArc) × (length short ≤ net.node_count) × IsPath net.arcs flow net.source short v = short_path net ok flow path net.source v h in
    lt-ltb _ _ (omega (arith, distance_least net.arcs flow v (suc net.node_count) short.0 net.source short.2, short.1))

-- the reached nodes are those that the source reaches
pub reached_is_reach : (net : Network) → IsNetwork net → (flow : List ℕ) → IsReach net flow (is_reached net flow)
reached_is_reach net ok flow = record {
  source = path_reached net ok flow [] net.source refl;
  closed = λ s r t.
      let to_start = reached_path net flow (start net.arcs s) t in
      path_reached net ok flow (to_start.0 ++ s ∷ []) (finish net.arcs s) (path_append net.arcs flow to_start.0 net.source (start net.arcs s) s to_start.1 refl r);
  only_reachable = λ v t. let path = reached_path net flow v t in (path.0, path.1);
}

-- a shortest path to the sink, if it is reached
pub reached_sink : (net : Network) (flow : List ℕ) → is_reached net flow net.sink ≡ true → (path : List ResidualArc) × IsShortestPath net flow path
reached_sink net flow t = let found = reached_path net flow net.sink t in (found.0, record { is_path = found.1; is_shortest = found.2 })
