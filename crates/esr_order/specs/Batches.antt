-- The operations of updates, one update after another in commit order.
use Rattle.std.specs.Prelude.{ℕ, List, [], ◌∷◌, ◌++◌, ◌+◌, ◌==◌, filter, map}
use Rattle.esr_base.specs.declared.numbers.TxnId.{TxnId}
use Rattle.esr_history.specs.Machine.{Schedule}
use Rattle.esr_history.specs.Operations.{Operation, operations}
use Rattle.esr_order.specs.Scans.{Access}
use Rattle.esr_order.specs.UpdateOperations.{UpdateOperation}

-- an operation, and an access, of the update at position i
abbrev pub placed_operation : ℕ → Operation → UpdateOperation
placed_operation i o = record { update_index = i; item = o.item; writes = o.writes; value = o.value }

abbrev pub operation_at : ℕ → Access → UpdateOperation
operation_at i a = record { update_index = i; item = a.item.0; writes = a.writes; value = a.value }

-- the operations of t, which has position i
abbrev pub batch : List Operation → ℕ → ℕ → List UpdateOperation
batch os i t = map (placed_operation i) (filter (λ o. o.txn == t) os)

-- those of some updates, of which the first has position i
abbrev pub batches : List Operation → ℕ → List ℕ → List UpdateOperation
batches os i [] = []
batches os i (t ∷ ts) = batch os i t ++ batches os (i + 1) ts

-- the operations of some updates
abbrev pub update_operations : Schedule → List TxnId → List UpdateOperation
update_operations h updates = batches (operations h) 0 (map (λ t. t.0) updates)
