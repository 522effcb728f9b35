-- The number of each chain's first arc; the arcs of chains have the first numbers in a network.
use Rattle.std.specs.Prelude.{◌≡◌, ℕ, suc, ◌+◌, ◌<◌, ◌≤◌, List, [], ◌∷◌, ◌++◌, length, get_or, take, replicate}
use Rattle.esr_cert.specs.Problem.{Chain}

-- from n on, the number of the first arc of each chain, and of the first arc after them all
abbrev pub chain_starts_from : ℕ → List Chain → List ℕ
chain_starts_from n [] = n ∷ []
chain_starts_from n (chain ∷ chains) = n ∷ chain_starts_from (n + length chain.costs) chains

-- from the k-th chain on, for each arc of the chains the number of its chain
abbrev pub chain_by_arc_from : ℕ → List Chain → List ℕ
chain_by_arc_from k [] = []
chain_by_arc_from k (chain ∷ chains) = replicate (length chain.costs) k ++ chain_by_arc_from (k + 1) chains

-- some rows, one after another
abbrev pub joined : {X : Type 0} → List (List X) → List X
joined [] = []
joined (row ∷ rows) = row ++ joined rows

-- the beginnings of some nonempty rows when they are joined, and the end of the last
pub record AreChainStarts {X : Type 0} (starts : List ℕ) (rows : List (List X)) : Type 0 where
  pub count : length starts ≡ suc (length rows)
  pub at : (k : ℕ) → k ≤ length rows → get_or starts k 0 ≡ length (joined (take k rows))
  pub filled : (k : ℕ) → k < length rows → 0 < length (get_or rows k [])
