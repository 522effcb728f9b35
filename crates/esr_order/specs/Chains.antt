-- The versions of an item that the updates of a query leave.
use Rattle.std.specs.Prelude.{ℕ, ℤ, Bool, false, ◌-◌, List, [], ◌∷◌, ◌++◌, if◌then◌else◌, ◌&&◌, ◌==◌, Option, None, Some, is_some, filter, map, length, reverse, slice_get, slice_index_or}
use Rattle.std.specs.List.{filter_map, range_with_len, last_or}
use Rattle.esr_history.specs.Machine.{Schedule}
use Rattle.esr_history.specs.Serial.{values_by}
use Rattle.esr_history.specs.Queries.{updates_committed_before}
use Rattle.esr_order.specs.UpdateOperations.{UpdateOperation}
use Rattle.esr_order.specs.declared.links.Links.{Links}

-- the updates that wrote an item, by their positions in commit order, and the values that they wrote last
pub record Chain : Type 0 where
  pub writers : List ℕ
  pub values : List ℤ

-- the chain of those of the first n positions that have a last value
abbrev pub chain_from : (ℕ → Option ℤ) → ℕ → Chain
chain_from last n =
    record {
      writers = filter (λ i. is_some (last i)) (range_with_len 0 n);
      values = filter_map last (range_with_len 0 n);
    }

-- the updates that wrote an item, by their positions
abbrev pub writers_in : Option Chain → List ℕ
writers_in None = []
writers_in (Some c) = c.writers

-- a chain that has a writer
abbrev pub if_written : List ℕ → Chain → Option Chain
if_written [] c = None
if_written (w ∷ ws) c = Some c

abbrev pub some_chain : Chain → Option Chain
some_chain c = if_written c.writers c

-- the last of some values, if there is one
abbrev pub last_of : List ℤ → Option ℤ
last_of vs = last_or None vs

-- the update of q at a position in commit order
abbrev pub update_at : Schedule → ℕ → ℕ → ℕ
update_at h q i = slice_index_or (updates_committed_before h q) i 0

-- the last value that it wrote to item x, if it wrote it
abbrev pub last_written : Schedule → ℕ → ℕ → ℕ → Option ℤ
last_written h q x i = last_of (values_by h x (update_at h q i))

-- the update at a position in a list of updates
abbrev pub nth : List ℕ → ℕ → ℕ
nth us i = slice_index_or us i 0

abbrev pub last_among : Schedule → List ℕ → ℕ → ℕ → Option ℤ
last_among h us x i = last_of (values_by h x (nth us i))

abbrev pub chain_among : Schedule → List ℕ → ℕ → Option Chain
chain_among h us x = some_chain (chain_from (last_among h us x) (length us))

-- the updates of q that wrote item x, if there is one
abbrev pub chain_of : Schedule → ℕ → ℕ → Option Chain
chain_of h q x = some_chain (chain_from (last_written h q x) (length (updates_committed_before h q)))

-- the last value that the update at position i wrote, of writes of one item
abbrev pub last_in : List UpdateOperation → ℕ → Option ℤ
last_in writes i = last_of (map (λ s. s.value) (filter (λ s. s.update_index == i) writes))

-- the last value that the update at position i wrote to item x
abbrev pub last_by_update : List UpdateOperation → ℕ → ℕ → Option ℤ
last_by_update operations x i = last_in (filter (λ s. s.writes && (s.item == x)) operations) i

-- A chain in reverse order, from the last writer to the first.

-- the writer that was added last
abbrev pub latest_writer : Chain → Option ℕ
latest_writer c = slice_get c.writers (length c.writers - 1)

abbrev pub is_latest : Option ℕ → ℕ → Bool
is_latest None i = false
is_latest (Some w) i = w == i

-- with a write of the update at a position, unless a later one of that update is there
abbrev pub with_write : Chain → ℕ → ℤ → Chain
with_write c i v =
    if is_latest (latest_writer c) i then c else record { writers = c.writers ++ i ∷ []; values = c.values ++ v ∷ [] }

-- the other way round
abbrev pub reversed_chain : Chain → Chain
reversed_chain c = record { writers = reverse c.writers; values = reverse c.values }

abbrev pub links_view : Links → Chain
links_view l = record { writers = l.writers.items; values = l.values.items }
