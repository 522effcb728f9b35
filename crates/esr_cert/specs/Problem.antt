-- Problems, closed sets of their updates, and the cost of a set. Updates are identified by their positions, and a set
-- of them is a test of positions.
use Rattle.std.specs.Prelude.{◌≡◌, ℕ, suc, ◌<◌, ◌≤◌, max, List, [], ◌∷◌, length, get_or, Bool, true, not, ◌&&◌, ◌||◌, ◌==◌, nat_lt, nat_le, if◌then◌else◌, map}
use Rattle.std.specs.List.{list_all, list_any, sum_by}
use Rattle.esr_base.specs.declared.limits.TheConstants.{MAX_ITEMS, MAX_TRANSACTIONS}
use Rattle.esr_cert.specs.declared.range.TheConstants.{MAX_COST}

-- an item that a query read: its writers, ascending, and the costs of its versions, of which there is one more than writers
pub record Chain : Type 0 where
  pub item : ℕ
  pub writers : List ℕ
  pub costs : List ℕ

-- A closure problem: the transaction numbers of the updates and, by positions in this list, the pairs of updates of which
-- the first precedes the second, the chains, and the mandatory updates.
pub record Problem : Type 0 where
  pub updates : List ℕ
  pub before : List (ℕ × ℕ)
  pub chains : List Chain
  pub must : List ℕ

-- the number of updates
abbrev pub update_count : Problem → ℕ
update_count p = length p.updates

-- the set of the positions in a list
abbrev pub in_set : List ℕ → ℕ → Bool
in_set set u = list_any (λ v. v == u) set

-- with each update, a closed set contains all updates that precede it; and it contains the mandatory updates
abbrev pub is_closed : Problem → (ℕ → Bool) → Bool
is_closed p has = list_all (λ e. not (has e.1) || has e.0) p.before && list_all has p.must

-- the version that a set leaves: the number of writers up to the last one that is in the set
abbrev pub version : (ℕ → Bool) → List ℕ → ℕ
version has [] = 0
version has (w ∷ writers) = if list_any has (w ∷ writers) then suc (version has writers) else 0

abbrev pub chain_cost : (ℕ → Bool) → Chain → ℕ
chain_cost has chain = get_or chain.costs (version has chain.writers) 0

-- the cost of a set
abbrev pub cost : Problem → (ℕ → Bool) → ℕ
cost p has = sum_by (chain_cost has) p.chains

-- a closed set of least cost that is contained in every closed set of least cost
pub record IsSmallestLeastCostSet (p : Problem) (has : ℕ → Bool) : Type 0 where
  pub closed : is_closed p has ≡ true
  pub least : (other : ℕ → Bool) → is_closed p other ≡ true → cost p has ≤ cost p other
  pub smallest : (other : ℕ → Bool) → is_closed p other ≡ true → cost p other ≤ cost p has → (u : ℕ) → u < update_count p
      → has u ≡ true → other u ≡ true

-- ---- the rules of shape

abbrev pub is_strictly_ascending : List ℕ → Bool
is_strictly_ascending [] = true
is_strictly_ascending (x ∷ []) = true
is_strictly_ascending (x ∷ y ∷ rest) = nat_lt x y && is_strictly_ascending (y ∷ rest)

-- by the first, then by the second
abbrev pub pair_lt : ℕ × ℕ → ℕ × ℕ → Bool
pair_lt a b = nat_lt a.0 b.0 || ((a.0 == b.0) && nat_lt a.1 b.1)

abbrev pub are_pairs_ascending : List (ℕ × ℕ) → Bool
are_pairs_ascending [] = true
are_pairs_ascending (x ∷ []) = true
are_pairs_ascending (x ∷ y ∷ rest) = pair_lt x y && are_pairs_ascending (y ∷ rest)

abbrev pub has_pair : List (ℕ × ℕ) → ℕ → ℕ → Bool
has_pair before u v = list_any (λ e. (e.0 == u) && (e.1 == v)) before

-- each two neighbours are a pair
abbrev pub are_linked : List (ℕ × ℕ) → List ℕ → Bool
are_linked before [] = true
are_linked before (w ∷ []) = true
are_linked before (w ∷ x ∷ rest) = has_pair before w x && are_linked before (x ∷ rest)

-- no number occurs twice
abbrev pub is_distinct : List ℕ → Bool
is_distinct [] = true
is_distinct (x ∷ xs) = not (in_set xs x) && is_distinct xs

abbrev pub chain_has_shape : List (ℕ × ℕ) → Chain → Bool
chain_has_shape before chain =
    (length chain.costs == suc (length chain.writers)) && is_strictly_ascending chain.writers && are_linked before chain.writers

abbrev pub has_valid_shape : Problem → Bool
has_valid_shape p =
    is_distinct p.updates && are_pairs_ascending p.before && list_all (λ e. nat_lt e.0 e.1) p.before
    && is_strictly_ascending (map (λ chain. chain.item) p.chains) && list_all (chain_has_shape p.before) p.chains
    && is_strictly_ascending p.must

-- ---- the rules of range

abbrev pub greatest : List ℕ → ℕ
greatest [] = 0
greatest (x ∷ xs) = max x (greatest xs)

abbrev pub chain_is_in_range : ℕ → Chain → Bool
chain_is_in_range n chain = nat_lt chain.item MAX_ITEMS && list_all (λ w. nat_lt w n) chain.writers

abbrev pub is_in_range : Problem → Bool
is_in_range p =
    list_all (λ t. nat_lt 0 t && nat_le t MAX_TRANSACTIONS) p.updates && list_all (chain_is_in_range (update_count p)) p.chains
    && list_all (λ e. nat_lt e.0 (update_count p) && nat_lt e.1 (update_count p)) p.before
    && list_all (λ u. nat_lt u (update_count p)) p.must && nat_le (sum_by (λ chain. greatest chain.costs) p.chains) MAX_COST

-- no rule of shape or range is broken
abbrev pub is_well_formed : Problem → Bool
is_well_formed p = has_valid_shape p && is_in_range p
