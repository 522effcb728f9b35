-- The data that an audit gathers: the values that a query read, and their distances from the versions of an item.
use Rattle.std.specs.Prelude.{ℕ, ℤ, ◌==◌, List, [], ◌∷◌, Option, Some, None, filter, map}
use Rattle.std.specs.List.{list_any, range_with_len}
use Rattle.esr_items.specs.Values.{value_at}
use Rattle.esr_history.specs.Operations.{Operation}
use Rattle.esr_order.specs.declared.accesses.Access.{Access}
use Rattle.esr_order.specs.Chains.{writers_in}
use Rattle.esr_order.specs.Chains as orders
use Rattle.esr_order.specs.Orders.{ConflictOrder, chain_at}
use Rattle.esr_cert.specs.Problem.{Chain}
pub use Rattle.esr_order.specs.ReadValues.{list_at, distance_sum}
pub use Rattle.esr_audit.specs.declared.reads.ItemRead.{ItemRead}

-- the item and value of a read
abbrev pub item_read_of : Operation → ItemRead
item_read_of o = record { item = o.item; value = o.value }

-- the item and value of an access that is a read
abbrev pub item_read_in : Access → ItemRead
item_read_in a = record { item = a.item.0; value = a.value }

-- the values read of item x
abbrev pub values_of : List ItemRead → ℕ → List ℤ
values_of reads x = map (λ r. r.value) (filter (λ r. r.item == x) reads)

abbrev pub version_values : Option orders.Chain → List ℤ
version_values None = []
version_values (Some c) = c.values

-- the chain of item x, given its writers with the values that they left, and the values that were read of it
abbrev pub audit_chain_by : (ℕ → ℤ → ℤ → ℕ) → List ℤ → Option orders.Chain → List ℤ → ℕ → Chain
audit_chain_by d opening chain values x = record {
  item = x;
  writers = writers_in chain;
  costs = map (distance_sum d x values) (value_at opening x ∷ version_values chain);
}

-- the same, given all reads
abbrev pub audit_chain_from : (ℕ → ℤ → ℤ → ℕ) → List ℤ → Option orders.Chain → List ItemRead → ℕ → Chain
audit_chain_from d opening chain reads x = audit_chain_by d opening chain (values_of reads x) x

-- the chain of item x of an order
abbrev pub chain_of_item : (ℕ → ℤ → ℤ → ℕ) → List ℤ → ConflictOrder → List ItemRead → ℕ → Chain
chain_of_item d opening order reads x = audit_chain_from d opening (chain_at order x) reads x

-- the items below n that were read
abbrev pub items_in : List ItemRead → ℕ → List ℕ
items_in reads n = filter (λ x. list_any (λ r. r.item == x) reads) (range_with_len 0 n)
