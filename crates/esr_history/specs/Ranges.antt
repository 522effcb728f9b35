-- Bounds on the sizes and values of a history.
use Rattle.std.specs.Prelude.{ℕ, ◌≤◌, ◌<◌, length, All, IsTrue}
use Rattle.esr_items.specs.Values.{IsValue}
use Rattle.esr_base.specs.declared.limits.TheConstants.{MAX_READS, MAX_TRANSACTIONS}
use Rattle.esr_history.specs.Events.{begin_records, total_read_count, is_query}
use Rattle.esr_history.specs.Machine.{Schedule, accepted_in}
use Rattle.esr_history.specs.Operations.{operations}

pub record IsWithinRanges (h : Schedule) : Type 0 where
  pub begins : length (begin_records (accepted_in h)) ≤ MAX_TRANSACTIONS
  pub reads : (q : ℕ) → IsTrue (is_query (accepted_in h) q) → total_read_count (accepted_in h) q ≤ MAX_READS
  pub values : All (λ o. IsValue o.value) (operations h)
  pub items : All (λ o. o.item < length h.opening) (operations h)
