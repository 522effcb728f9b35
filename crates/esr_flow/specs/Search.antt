-- The state and the result of a breadth-first search of the residual network.
use Rattle.std.specs.Prelude.{◌≡◌, ℕ, suc, ◌+◌, ◌-◌, ◌<◌, ◌≤◌, Bool, true, false, if◌then◌else◌, List, [], ◌∷◌, length, get_or}
use Rattle.esr_flow.specs.Types.{ResidualArc, Forward, Arc}
pub use Rattle.esr_flow.specs.declared.search.Visit.{Visit}
use Rattle.esr_flow.specs.declared.search.Found.{Found}
use Rattle.esr_flow.specs.declared.search.Found.TheVariants.{Path, Reach}
use Rattle.esr_cert.specs.Network.{Network}
use Rattle.esr_cert.specs.ResidualArcs.{start}
use Rattle.esr_flow.specs.Residual.{finish, IsResidual, IsPath, Falls}
use Rattle.esr_flow.specs.Augmentation.{IsReach}

abbrev pub visit_at : List Visit → ℕ → Visit
visit_at visits j = get_or visits j (record { node = 0; level = 0; step = Forward 0; parent = 0 })

abbrev pub is_marked : List Bool → ℕ → Bool
is_marked marks v = get_or marks v false

abbrev pub unmarked : List Bool → ℕ
unmarked [] = 0
unmarked (b ∷ marks) = (if b then 0 else 1) + unmarked marks

-- a visit of the end of a step, at most one level further
abbrev pub EndsVisited : List Arc → List Visit → ℕ → ResidualArc → Type 0
EndsVisited arcs visits level step =
    (j : ℕ) × (j < length visits) × ((visit_at visits j).node ≡ finish arcs step)
    × ((visit_at visits j).level ≤ suc level)

-- a visit results from an earlier one
pub record IsReached (arcs : List Arc) (flow : List ℕ) (visits : List Visit) (j : ℕ) : Type 0 where
  pub earlier : (visit_at visits j).parent < j
  pub residual : IsResidual arcs flow (visit_at visits j).step
  pub ends : finish arcs (visit_at visits j).step ≡ (visit_at visits j).node
  pub begins : start arcs (visit_at visits j).step ≡ (visit_at visits (visit_at visits j).parent).node
  pub next_level : (visit_at visits j).level ≡ suc (visit_at visits (visit_at visits j).parent).level

-- each visit but the first results from an earlier one
abbrev pub ComeFromEarlier : List Visit → Type 0
ComeFromEarlier visits = (j : ℕ) → 0 < j → j < length visits → (visit_at visits j).parent < j

-- the visits before head are done: each residual step from them leads to a visit
pub record Searched (net : Network) (flow : List ℕ) (visits : List Visit) (marks : List Bool) (head : ℕ) : Type 0 where
  pub marks_length : length marks ≡ net.node_count
  pub some : 0 < length visits
  pub first_node : (visit_at visits 0).node ≡ net.source
  pub first_level : (visit_at visits 0).level ≡ 0
  pub is_reached : (j : ℕ) → 0 < j → j < length visits → IsReached net.arcs flow visits j
  pub sorted : (i j : ℕ) → i ≤ j → j < length visits → (visit_at visits i).level ≤ (visit_at visits j).level
  pub low : (j : ℕ) → j < length visits → (visit_at visits j).level ≤ j
  pub node_count : (j : ℕ) → j < length visits → (visit_at visits j).node < net.node_count
  pub marked : (j : ℕ) → j < length visits → is_marked marks (visit_at visits j).node ≡ true
  pub visited : (v : ℕ) → is_marked marks v ≡ true → (j : ℕ) × (j < length visits) × ((visit_at visits j).node ≡ v)
  pub done : (i : ℕ) → i < head → (step : ResidualArc) → IsResidual net.arcs flow step
      → start net.arcs step ≡ (visit_at visits i).node → EndsVisited net.arcs visits (visit_at visits i).level step
  pub relevant : (j : ℕ) → j < length visits → head < length visits
      → (visit_at visits j).level ≤ suc (visit_at visits head).level
  pub spare_capacity : length visits + unmarked marks ≡ net.node_count

-- a path with fewest arcs from the source to the sink
pub record IsShortestPath (net : Network) (flow : List ℕ) (path : List ResidualArc) : Type 0 where
  pub is_path : IsPath net.arcs flow net.source path net.sink
  pub is_shortest : (other : List ResidualArc) → IsPath net.arcs flow net.source other net.sink
      → length path ≤ length other

-- the last visit is of the sink, none of another level is, and no path there has fewer steps than its level
pub record FoundSink (net : Network) (flow : List ℕ) (visits : List Visit) : Type 0 where
  pub marks : List Bool
  pub head : ℕ
  pub searched : Searched net flow visits marks head
  pub at_sink : (visit_at visits (length visits - 1)).node ≡ net.sink
  pub in_visits : head < length visits
  pub only : (j : ℕ) → j < length visits → (visit_at visits j).node ≡ net.sink
      → (visit_at visits j).level ≡ (visit_at visits (length visits - 1)).level
  pub nearest : (other : List ResidualArc) → IsPath net.arcs flow net.source other net.sink
      → (visit_at visits (length visits - 1)).level ≤ length other

-- the state after a scan of the steps from one visit
abbrev pub AfterScan : Network → List ℕ → List Visit → List Bool → ℕ → Bool → Type 0
AfterScan net flow visits marks head true = FoundSink net flow visits
AfterScan net flow visits marks head false =
    Searched net flow visits marks (head + 1) × (is_marked marks net.sink ≡ false) × (head < length visits)

-- marks of all that the source reaches, which the sink is not
abbrev pub ReachesNoSink : Network → List ℕ → List Bool → Type 0
ReachesNoSink net flow marks =
    IsReach net flow (is_marked marks) × (is_marked marks net.sink ≡ false) × (length marks ≡ net.node_count)

-- the state after a search
abbrev pub AfterSearch : Network → List ℕ → List Visit → List Bool → Bool → Type 0
AfterSearch net flow visits marks true = FoundSink net flow visits
AfterSearch net flow visits marks false = ReachesNoSink net flow marks

abbrev pub label_at : List ℕ → ℕ → ℕ
label_at labels v = get_or labels v 0

-- labels that fall by at most one along each residual step, and are 0 at the sink:
-- a path along steps on which they fall, from the source to the sink, is a shortest one
pub record Guides (net : Network) (flow labels : List ℕ) : Type 0 where
  pub count : length labels ≡ net.node_count
  pub falls : Falls net.arcs flow (label_at labels)
  pub at_sink : label_at labels net.sink ≡ 0

-- a path to the sink with no more steps than the source's label
pub record IsGuided (net : Network) (flow labels : List ℕ) (path : List ResidualArc) : Type 0 where
  pub is_shortest_path : IsShortestPath net flow path
  pub steps : length path ≤ label_at labels net.source

-- a shortest path and labels that lead to more of its length, or the nodes that the source reaches
abbrev pub IsFound : Network → List ℕ → Found → Type 0
IsFound net flow (Path path labels) = IsGuided net flow labels.items path.items × Guides net flow labels.items
IsFound net flow (Reach marks) = ReachesNoSink net flow marks.items
