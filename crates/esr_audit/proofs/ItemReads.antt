-- The gathered reads are the reads of the query.
use Rattle.std.proofs.Common.{◌≡◌, ℕ, ◌≤◌, ◌<◌, not, List, [], ◌∷◌, length, filter, map, refl, ap, ◌∙◌, arith, All, IsTrue}
use Rattle.std.specs.List.{AllByRecursion}
use Rattle.std.proofs.lemmas.List.{length-map}
use Rattle.std.proofs.lemmas.List.Elements.{All-from_recursion}
use Rattle.esr_items.specs.Values.{IsValue}
use Rattle.esr_history.specs.Events.{is_query}
use Rattle.esr_history.specs.Machine.{Schedule, accepted_in}
use Rattle.esr_history.specs.Operations.{Operation}
use Rattle.esr_history.specs.Queries.{reads_by}
use Rattle.esr_history.specs.Ranges.{IsWithinRanges}
use Rattle.esr_order.specs.declared.accesses.Access.{Access}
use Rattle.esr_order.specs.Scans.{access_of, accesses_in}
use Rattle.esr_order.proofs.Accessed.{reads_are}
use Rattle.esr_audit.specs.Reads.{item_read_in, item_read_of, ItemRead}
use Rattle.esr_order.proofs.QueryReads.{reads_counted, reads_in_range}

-- the reads among the accesses of q are its reads
pub item_reads_are : (h : Schedule) (q : ℕ) → map item_read_in (filter (λ (a : Access). not a.writes) (accesses_in h.entries q)) ≡ map item_read_of (reads_by h q)
item_reads_are h q = ap (map item_read_in) (reads_are h q) ∙ twice (reads_by h q)
  where
    twice : (os : List Operation) → map item_read_in (map access_of os) ≡ map item_read_of os
    twice [] = refl
    twice (o ∷ os) = ap (λ l. item_read_of o ∷ l) (twice os)

module _ (h : Schedule) (q : ℕ) (range : IsWithinRanges h) (opening_values_in_range : All IsValue h.opening) where
  pub item_reads_at_most_max : IsTrue (is_query (accepted_in h) q) → length (map item_read_of (reads_by h q)) ≤ 1000
  item_reads_at_most_max query = let r = range.reads q query in omega (arith, length-map (reads_by h q) item_read_of, reads_counted h q, r)

  pub item_reads_in_range : All (λ (r : ItemRead). IsValue r.value) (map item_read_of (reads_by h q))
  item_reads_in_range = All-from_recursion (λ (r : ItemRead). IsValue r.value) (map item_read_of (reads_by h q)) (go (reads_by h q) (reads_in_range h range q))
    where
      go : (os : List Operation) → AllByRecursion (λ (o : Operation). IsValue o.value × (o.item < length h.opening)) os → AllByRecursion (λ (r : ItemRead). IsValue r.value) (map item_read_of os)
      go [] all = tt
      go (o ∷ os) all = ((all.0).0, go os all.1)
