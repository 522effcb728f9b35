-- The arcs of chains among those of a network: they have the first numbers, chain by chain.
use Rattle.std.specs.Prelude.{◌≡◌, ℕ, ◌+◌, ◌<◌, ◌≤◌, List, [], ◌∷◌, ◌++◌, length, get_or, map}
use Rattle.esr_cert.specs.declared.problem.Chain.{Chain}
use Rattle.esr_cert.specs.Network.{arc_at, Arc}
use Rattle.esr_cert.specs.ChainStarts.{chain_starts_from}
use Rattle.esr_cert.specs.Views.{chain_view}

-- the arcs of a chain begin at a number, and lead from the source through its writers to the sink
pub record HasChainArcs (arcs : List Arc) (source : ℕ) (chain : Chain) (begin : ℕ) : Type 0 where
  pub whole : length chain.costs.items ≡ length chain.writers.items + 1
  pub inside : begin + length chain.costs.items ≤ length arcs
  pub from : (j : ℕ) → j < length chain.costs.items
      → (arc_at arcs (begin + j)).from ≡ get_or (source ∷ chain.writers.items) j 0
  pub to : (j : ℕ) → j < length chain.costs.items
      → (arc_at arcs (begin + j)).to ≡ get_or (chain.writers.items ++ (source + 1) ∷ []) j 0

-- so do those of each of some chains
abbrev pub HaveChainArcs : List Arc → ℕ → List Chain → Type 0
HaveChainArcs arcs source chains = (k : ℕ) (chain : Chain) → k < length chains → chain ≡ get_or chains k chain
    → HasChainArcs arcs source chain (get_or (chain_starts_from 0 (map chain_view chains)) k 0)
