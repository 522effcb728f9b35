-- The contents of the order of a query.
use Rattle.std.specs.Prelude.{◌≡◌, ◌↔◌, ◌<◌, ◌≤◌, ◌+◌, ℕ, Bool, IsTrue, List, Option, None, Some, All, AllPairs, Contains, length, filter, map, slice_get, slice_index_or}
use Rattle.esr_base.specs.declared.numbers.TxnId.{TxnId}
use Rattle.esr_base.specs.declared.limits.TheConstants.{MAX_TRANSACTIONS}
use Rattle.esr_history.specs.Machine.{Schedule}
use Rattle.esr_history.specs.Operations.{Operation, operations}
use Rattle.esr_history.specs.Serial.{is_before, IsSerialOrder}
use Rattle.esr_history.specs.Queries.{updates_committed_before, must}
use Rattle.esr_order.specs.Placements.{is_among, IsClosed}
use Rattle.esr_order.specs.Chains.{Chain, some_chain, update_at, chain_of, nth, chain_among}
use Rattle.esr_order.specs.ConflictPairs.{IsLexLess}

-- an order as contracts see it: its updates in commit order; pairs of positions of conflicting updates, the earlier first; the
-- positions of the updates that the query must see; and for each item the updates that wrote it
pub record ConflictOrder : Type 0 where
  pub commits : List TxnId
  pub before : List (ℕ × ℕ)
  pub must : List ℕ
  pub chains : List Chain

abbrev pub written_chain : Option Chain → Option Chain
written_chain None = None
written_chain (Some c) = some_chain c

-- the chain of item x, if an update wrote it
abbrev pub chain_at : ConflictOrder → ℕ → Option Chain
chain_at o x = written_chain (slice_get o.chains x)

-- S is closed by the pairs of the order, and contains the updates that q must see
pub record IsClosedIn (h : Schedule) (q : ℕ) (o : ConflictOrder) (S : ℕ → Bool) : Type 0 where
  pub downward : All (λ p. IsTrue (S (update_at h q p.1)) → IsTrue (S (update_at h q p.0))) o.before
  pub holds_must : All (λ i. IsTrue (S (update_at h q i))) o.must

-- the accepted reads and writes of the updates of q
abbrev pub operations_of : Schedule → ℕ → List Operation
operations_of h q = filter (λ o. is_among (updates_committed_before h q) o.txn) (operations h)

-- The updates that committed before q, with the necessary parts of their conflict order and their versions. Updates are
-- identified by their positions in commit order.
pub record IsConflictOrder (h : Schedule) (q : ℕ) (o : ConflictOrder) : Type 0 where
  pub commits : map (λ t. t.0) o.commits ≡ updates_committed_before h q
  pub serial : IsSerialOrder h (updates_committed_before h q) (updates_committed_before h q)
  pub count_within_max : length o.commits ≤ MAX_TRANSACTIONS
  -- pairs of the conflict order, from a lower to a higher position, by which the same sets are closed
  pub ascending : AllPairs IsLexLess o.before
  pub pairs : All (λ p. (p.0 < p.1) × (p.1 < length o.commits)
      × IsTrue (is_before h (update_at h q p.0) (update_at h q p.1))) o.before
  pub closed : (S : ℕ → Bool) → IsClosedIn h q o S ↔ IsClosed h q S
  pub rising : AllPairs (λ i j. i < j) o.must
  pub within : All (λ i. i < length o.commits) o.must
  pub musts : map (update_at h q) o.must ≡ must h q
  -- all that wrote an item, in commit order, each a pair with the next
  pub chains : (x : ℕ) → chain_at o x ≡ chain_of h q x
  pub neighbours : (x i : ℕ) (c : Chain) → chain_at o x ≡ Some c → i + 1 < length c.writers
      → Contains o.before (slice_index_or c.writers i 0, slice_index_or c.writers (i + 1) 0)

-- The same definitions for a subset `us` of the updates that includes all that q must see.

pub record IsClosedOn (h : Schedule) (q : ℕ) (us : List ℕ) (S : ℕ → Bool) : Type 0 where
  pub downward : (u v : ℕ) → Contains us u → Contains us v → IsTrue (is_before h u v) → IsTrue (S v) → IsTrue (S u)
  pub holds_must : (u : ℕ) → Contains (must h q) u → IsTrue (S u)

pub record IsClosedAt (us : List ℕ) (o : ConflictOrder) (S : ℕ → Bool) : Type 0 where
  pub downward : All (λ p. IsTrue (S (nth us p.1)) → IsTrue (S (nth us p.0))) o.before
  pub holds_must : All (λ i. IsTrue (S (nth us i))) o.must

-- IsConflictOrder, over the updates us: some of the updates of history h that include every update that query q must see
pub record IsConflictOrderOn (h : Schedule) (q : ℕ) (us : List ℕ) (o : ConflictOrder) : Type 0 where
  pub commits : map (λ t. t.0) o.commits ≡ us
  pub serial : IsSerialOrder h us us
  pub count_within_max : length o.commits ≤ MAX_TRANSACTIONS
  pub ascending : AllPairs IsLexLess o.before
  pub pairs : All (λ p. (p.0 < p.1) × (p.1 < length o.commits)
      × IsTrue (is_before h (nth us p.0) (nth us p.1))) o.before
  pub closed : (S : ℕ → Bool) → IsClosedAt us o S ↔ IsClosedOn h q us S
  pub rising : AllPairs (λ i j. i < j) o.must
  pub within : All (λ i. i < length o.commits) o.must
  pub musts : map (nth us) o.must ≡ must h q
  pub chains : (x : ℕ) → chain_at o x ≡ chain_among h us x
  pub neighbours : (x i : ℕ) (c : Chain) → chain_at o x ≡ Some c → i + 1 < length c.writers
      → Contains o.before (slice_index_or c.writers i 0, slice_index_or c.writers (i + 1) 0)
