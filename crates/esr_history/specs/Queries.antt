-- The data of the audit of a committed query: its updates, its reads, and their distances from the values that sets of
-- updates leave.
use Rattle.std.specs.Prelude.{◌≡◌, ℕ, ℤ, Bool, true, false, not, ◌&&◌, ◌==◌, ◌≤◌, IsTrue, List, [], filter, Contains, sum_by, unwrap_or, if◌then◌else◌, option_map}
use Rattle.std.specs.List.{before_first}
use Rattle.esr_history.specs.Events.{begin_record, is_query, is_update, is_committed, accepted, Reply, Begun, Event, Entry}
use Rattle.esr_history.specs.Machine.{DistanceFunction, Schedule, accepted_in, value_distance, charges_in, import_in}
use Rattle.esr_history.specs.Operations.{Operation, operations, commit_order}
use Rattle.esr_history.specs.Serial.{is_before, state}

abbrev pub is_committed_query : Schedule → ℕ → Bool
is_committed_query h q = is_query (accepted_in h) q && is_committed (accepted_in h) q

-- the updates that committed before q did, in commit order
abbrev pub updates_committed_before : Schedule → ℕ → List ℕ
updates_committed_before h q = filter (is_update (accepted_in h)) (before_first (λ t. t == q) (commit_order (accepted_in h)))

abbrev pub is_strict : List Event → ℕ → Bool
is_strict events t = unwrap_or (option_map (λ b. b.strict) (begin_record events t)) false

abbrev pub begins : ℕ → Reply → Bool
begins q (Begun t) = t.0 == q
begins q _ = false

-- the entries before the begin of q
abbrev pub before_begin : Schedule → ℕ → List Entry
before_begin h q = before_first (λ e. begins q e.reply) h.entries

-- the mandatory updates: of a strict query, the updates that committed before it began; of any other query, none
abbrev pub must : Schedule → ℕ → List ℕ
must h q = if is_strict (accepted_in h) q then filter (is_committed (accepted (before_begin h q))) (updates_committed_before h q) else []

-- the accepted reads of q
abbrev pub reads_by : Schedule → ℕ → List Operation
reads_by h q = filter (λ o. not o.writes && (o.txn == q)) (operations h)

-- the distance between the values that q read and the values w of the items
abbrev pub distance_from : DistanceFunction → Schedule → ℕ → (ℕ → ℤ) → ℕ
distance_from d h q w = sum_by (λ o. value_distance d h o.item o.value (w o.item)) (reads_by h q)

-- the members of S among the updates of q, in commit order
abbrev pub members : Schedule → ℕ → (ℕ → Bool) → List ℕ
members h q S = filter S (updates_committed_before h q)

-- the distance between the values that q read and the version that S leaves: its members run in commit order
abbrev pub cost : DistanceFunction → Schedule → ℕ → (ℕ → Bool) → ℕ
cost d h q S = distance_from d h q (state h (members h q S))

-- The distance between the reads of a committed query and the state after all its updates is at most its import.
abbrev pub ImportBoundsDistance : DistanceFunction → Schedule → Type 0
ImportBoundsDistance d h =
    (q : ℕ) → IsTrue (is_committed_query h q) → cost d h q (λ _. true) ≤ import_in (charges_in d h) q

-- Two histories agree on the data of the audit of q: its updates, those that it must see, their order, the cost of each
-- set, and the import.
pub record HasSameAudit (d : DistanceFunction) (h longer : Schedule) (q : ℕ) : Type 0 where
  pub committed : is_committed_query longer q ≡ is_committed_query h q
  pub updates : updates_committed_before longer q ≡ updates_committed_before h q
  pub musts : must longer q ≡ must h q
  pub order : (u v : ℕ) → Contains (updates_committed_before h q) u → Contains (updates_committed_before h q) v
      → is_before longer u v ≡ is_before h u v
  pub costs : (S : ℕ → Bool) → cost d longer q S ≡ cost d h q S
  pub import : import_in (charges_in d longer) q ≡ import_in (charges_in d h) q
