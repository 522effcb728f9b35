-- The state of a scan of operations from the last to the first: the chain of each item, and the readers of each item
-- before its next write.
use Rattle.std.specs.Prelude.{◌≡◌, ◌<◌, ◌==◌, ℕ, List, [], ◌∷◌, ◌++◌, Option, None, Some, length, slice_index_or, if◌then◌else◌}
use Rattle.esr_order.specs.UpdateOperations.{UpdateOperation}
use Rattle.esr_order.specs.Chains.{Chain, latest_writer, with_write}

abbrev pub no_one : Chain
no_one = record { writers = []; values = [] }

-- a chain, and the readers, with an operation before
abbrev pub with_operation : Chain → UpdateOperation → Chain
with_operation c s = if s.writes then with_write c s.update_index s.value else c

abbrev pub readers_with : List ℕ → UpdateOperation → List ℕ
readers_with readers s = if s.writes then [] else readers ++ s.update_index ∷ []

-- the chain of item x, back from the last writer to the first
abbrev pub chain_back : ℕ → List UpdateOperation → Chain
chain_back x [] = no_one
chain_back x (s ∷ operations) =
    if s.item == x then with_operation (chain_back x operations) s else chain_back x operations

-- the positions of the reads of item x that precede all its writes, from the last to the first
abbrev pub readers_of : ℕ → List UpdateOperation → List ℕ
readers_of x [] = []
readers_of x (s ∷ operations) =
    if s.item == x then readers_with (readers_of x operations) s else readers_of x operations

abbrev pub writer_in : Option ℕ → List ℕ
writer_in None = []
writer_in (Some w) = w ∷ []

-- the positions of later operations to which an operation is tied: of the next write of its item, and for a write of
-- the reads until then
abbrev pub conflicts_of : Chain → List ℕ → UpdateOperation → List ℕ
conflicts_of c readers s = writer_in (latest_writer c) ++ (if s.writes then readers else [])

abbrev pub later_conflicts : UpdateOperation → List UpdateOperation → List ℕ
later_conflicts s later = conflicts_of (chain_back s.item later) (readers_of s.item later) s

-- those of the operations of one update
abbrev pub batch_conflicts : List UpdateOperation → List UpdateOperation → List ℕ
batch_conflicts [] later = []
batch_conflicts (s ∷ batch) later = batch_conflicts batch later ++ later_conflicts s (batch ++ later)

-- the chains and the readers of the items, by number
pub record SummarizeLater (links : List Chain) (rows : List (List ℕ)) (operations : List UpdateOperation) : Type 0 where
  pub chains : (x : ℕ) → x < length links → slice_index_or links x no_one ≡ chain_back x operations
  pub readers : (x : ℕ) → x < length rows → slice_index_or rows x [] ≡ readers_of x operations
