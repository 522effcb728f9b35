-- The reads of an active query, over any number of histories, and their distance from the values that the items have
-- now.
use Rattle.std.specs.Prelude.{◌≡◌, ℕ, ℤ, ◌+◌, ◌≤◌, ◌⊎◌, Bool, not, ◌&&◌, ◌==◌, IsTrue, List, ◌++◌, filter, count_by, sum_by}
use Rattle.esr_history.specs.Events.{is_query, is_active, read_count, committed_value, current_value, Entry}
use Rattle.esr_history.specs.Machine.{DistanceFunction, Schedule, accepted_in, value_distance, charges_in, import_in, IsLegal}
use Rattle.esr_history.specs.Legal.{continued}
use Rattle.esr_history.specs.Operations.{Operation, operations_in}
use Rattle.esr_history.specs.Serial.{state}
use Rattle.esr_history.specs.Queries.{is_committed_query, updates_committed_before, reads_by, distance_from}

-- The distances are a metric of each item, on which the laws of active queries are based.
pub record AreDistances (d : DistanceFunction) : Type 0 where
  pub same : (w : List ℕ) (x : ℕ) (a : ℤ) → d w x a a ≡ 0
  pub symmetric : (w : List ℕ) (x : ℕ) (a b : ℤ) → d w x a b ≡ d w x b a
  pub triangle : (w : List ℕ) (x : ℕ) (a b c : ℤ) → d w x a c ≤ d w x a b + d w x b c

abbrev pub is_active_query : Schedule → ℕ → Bool
is_active_query h q = is_query (accepted_in h) q && is_active (accepted_in h) q

-- each item at its committed or at its current value
abbrev pub IsMixture : Schedule → (ℕ → ℤ) → Type 0
IsMixture h w =
    (x : ℕ) → (w x ≡ committed_value h.opening (accepted_in h) x) ⊎ (w x ≡ current_value h.opening (accepted_in h) x)

-- An active query is no farther from any mixture than it has imported so far.
abbrev pub ImportBoundsActive : DistanceFunction → Schedule → Type 0
ImportBoundsActive d h =
    (q : ℕ) → IsTrue (is_active_query h q) → (w : ℕ → ℤ) → IsMixture h w
    → distance_from d h q w ≤ import_in (charges_in d h) q

-- the distance of the reads, items with the values read, from the values w of the items
abbrev pub distance_of_reads : DistanceFunction → Schedule → List Operation → (ℕ → ℤ) → ℕ
distance_of_reads d h read_ops w = sum_by (λ o. value_distance d h o.item o.value (w o.item)) read_ops

-- q is active, it has read each item at least as often as these reads contain it, and they are within the bound
-- of every mixture. They may be of earlier histories: those of this one say only which items, and how often.
pub record AreReadsWithinBound (d : DistanceFunction) (h : Schedule) (q : ℕ) (read_ops : List Operation) (bound : ℕ) : Type 0 where
  pub active : IsTrue (is_active_query h q)
  pub held : (x : ℕ) → count_by (λ o. o.item == x) read_ops ≤ read_count (accepted_in h) q x
  pub within : (w : ℕ → ℤ) → IsMixture h w → distance_of_reads d h read_ops w ≤ bound

-- the reads of q in further entries
abbrev pub reads_in : List Entry → ℕ → List Operation
reads_in entries q = filter (λ o. not o.writes && (o.txn == q)) (operations_in entries)

-- As its history continues, the bound of an active query grows by its further imports only.
abbrev pub BoundGrowsByImport : DistanceFunction → Schedule → Type 0
BoundGrowsByImport d h =
    (q : ℕ) (read_ops : List Operation) (bound : ℕ) → AreReadsWithinBound d h q read_ops bound
    → (later : List Entry) → IsLegal d (continued h later) → IsTrue (is_active_query (continued h later) q)
    → (more : ℕ) → import_in (charges_in d h) q + more ≡ import_in (charges_in d (continued h later)) q
    → AreReadsWithinBound d (continued h later) q (read_ops ++ reads_in later q) (bound + more)

-- Once it has committed, its reads are within its bound, plus its further imports, of the values that its updates left.
abbrev pub BoundHoldsAtCommit : DistanceFunction → Schedule → Type 0
BoundHoldsAtCommit d h =
    (q : ℕ) (read_ops : List Operation) (bound : ℕ) → AreReadsWithinBound d h q read_ops bound
    → (later : List Entry) → IsLegal d (continued h later) → IsTrue (is_committed_query (continued h later) q)
    → (more : ℕ) → import_in (charges_in d h) q + more ≡ import_in (charges_in d (continued h later)) q
    → distance_of_reads d h (read_ops ++ reads_in later q) (state (continued h later) (updates_committed_before (continued h later) q)) ≤ bound + more

-- the charges of the reads of q if each were repeated now: the open charges
abbrev pub open_import : DistanceFunction → Schedule → ℕ → ℕ
open_import d h q =
    sum_by (λ o. value_distance d h o.item (current_value h.opening (accepted_in h) o.item)
    (committed_value h.opening (accepted_in h) o.item)) (reads_by h q)

-- No more is open than was imported.
abbrev pub OpenIsImported : DistanceFunction → Schedule → Type 0
OpenIsImported d h = (q : ℕ) → IsTrue (is_active_query h q) → open_import d h q ≤ import_in (charges_in d h) q
