-- Augmentations along shortest paths (Edmonds and Karp, 1972), and the nodes that the source reaches in the residual
-- network.
use Rattle.std.specs.Prelude.{◌≡◌, ℕ, zero, suc, ◌≤◌, Bool, true, List, length, replicate, Some}
use Rattle.esr_cert.specs.Network.{Network}
use Rattle.esr_flow.specs.Types.{ResidualArc}
use Rattle.esr_cert.specs.ResidualArcs.{start}
use Rattle.esr_flow.specs.Residual.{finish, IsResidual, IsPath, bottleneck, raise}

-- one augmentation, along a residual path with fewest arcs, by its bottleneck
pub record Augments (net : Network) (flow after : List ℕ) : Type 0 where
  pub path : List ResidualArc
  pub amount : ℕ
  pub is_path : IsPath net.arcs flow net.source path net.sink
  pub is_shortest : (other : List ResidualArc) → IsPath net.arcs flow net.source other net.sink
      → length path ≤ length other
  pub is_bottleneck : bottleneck net.arcs flow path ≡ Some amount
  pub is_raised : after ≡ raise flow amount path

-- n augmentations lead from the flow of zeros to this one
abbrev pub AugmentsFromZero : Network → ℕ → List ℕ → Type 0
AugmentsFromZero net zero flow = flow ≡ replicate (length net.arcs) 0
AugmentsFromZero net (suc n) flow = (before : List ℕ) × AugmentsFromZero net n before × Augments net before flow

-- n augmentations lead from a flow to another
abbrev pub AugmentsFrom : Network → List ℕ → ℕ → List ℕ → Type 0
AugmentsFrom net first zero flow = flow ≡ first
AugmentsFrom net first (suc n) flow = (before : List ℕ) × AugmentsFrom net first n before × Augments net before flow

-- the nodes that the source reaches in the residual network: the source, the ends of residual steps, and no others
pub record IsReach (net : Network) (flow : List ℕ) (has : ℕ → Bool) : Type 0 where
  pub source : has net.source ≡ true
  pub closed : (step : ResidualArc) → IsResidual net.arcs flow step → has (start net.arcs step) ≡ true
      → has (finish net.arcs step) ≡ true
  pub only_reachable : (v : ℕ) → has v ≡ true → (path : List ResidualArc) × IsPath net.arcs flow net.source path v
