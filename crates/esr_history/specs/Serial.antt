-- The conflict order of a history's transactions, serial orders, and the state after a serial run (textbook).
use Rattle.std.specs.Prelude.{◌≡◌, ◌≢◌, ◌↔◌, ℕ, ℤ, Bool, false, not, ◌&&◌, ◌||◌, ◌==◌, IsTrue, List, [], ◌∷◌, ◌++◌, filter, flat_map, AllPairs, Contains}
use Rattle.std.specs.List.{before_first, filter_map, list_any}
use Rattle.esr_items.specs.Values.{value_at}
use Rattle.esr_history.specs.Events.{accepted, is_update, is_committed, written, last_value, committed_value, ItemId, TxnId, Read, Value, Entry}
use Rattle.esr_history.specs.Machine.{Schedule, accepted_in}
use Rattle.esr_history.specs.Operations.{Operation, operations, commit_order}

-- whether some element and some later element pass the test
abbrev pub any_ordered_pair : {X : Type 0} → (X → X → Bool) → List X → Bool
any_ordered_pair r [] = false
any_ordered_pair r (x ∷ xs) = list_any (r x) xs || any_ordered_pair r xs

-- two operations conflict: different transactions, the same item, and at least one writes
abbrev pub conflict : Operation → Operation → Bool
conflict a b = not (a.txn == b.txn) && ((a.item == b.item) && (a.writes || b.writes))

-- whether an operation of u precedes one of v that conflicts with it
abbrev pub is_before : Schedule → ℕ → ℕ → Bool
is_before h u v = any_ordered_pair (λ a b. (a.txn == u) && ((b.txn == v) && conflict a b)) (operations h)

-- the committed updates, in commit order
abbrev pub committed_updates : Schedule → List ℕ
committed_updates h = filter (is_update (accepted_in h)) (commit_order (accepted_in h))

-- a serial order of the members: each occurs once, and u comes before v wherever u precedes v
pub record IsSerialOrder (h : Schedule) (members : List ℕ) (order : List ℕ) : Type 0 where
  pub lists : (u : ℕ) → Contains order u ↔ Contains members u
  pub once : AllPairs (λ u v. u ≢ v) order
  pub keeps : AllPairs (λ u v. is_before h v u ≡ false) order

-- the values that u wrote to item x, in order
abbrev pub values_by : Schedule → ℕ → ℕ → List ℤ
values_by h x u = filter_map (written (λ t. t == u) x) (accepted_in h)

-- the value of item x after the updates us, run one after another in this order from the opening values
abbrev pub state : Schedule → List ℕ → ℕ → ℤ
state h us x = last_value (value_at h.opening x) (flat_map (values_by h x) us)

-- The commit order of the committed updates is a serial order, and run one after another in it they read and leave the
-- same values.
pub record IsSerializable (h : Schedule) : Type 0 where
  pub serial : IsSerialOrder h (committed_updates h) (committed_updates h)
  -- a read of x by a committed update returns its own last earlier write of x, or else the value in the state after the
  -- updates before it
  pub reads : (before after : List Entry) (t : TxnId) (x : ItemId) (v : ℤ)
      → h.entries ≡ before ++ record { event = Read t x; reply = Value v } ∷ after
      → IsTrue (is_update (accepted_in h) t.0 && is_committed (accepted_in h) t.0)
      → v ≡ last_value (state h (before_first (λ u. u == t.0) (committed_updates h)) x.0)
      (filter_map (written (λ u. u == t.0) x.0) (accepted before))
  pub leaves : (x : ℕ) → state h (committed_updates h) x ≡ committed_value h.opening (accepted_in h) x
