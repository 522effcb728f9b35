-- The kinds of transactions, and the distances of queries.
use Rattle.std.specs.Prelude.{ℕ, Option, None, Some, if◌then◌else◌, option_map, unwrap_or}
use Rattle.esr_history.specs.Events.{BeginRecord, begin_record}
use Rattle.esr_history.specs.Machine.{DistanceFunction, Schedule, accepted_in}
use Rattle.esr_history.specs.Queries.{is_committed_query}
use Rattle.esr_order.specs.Least.{least_distance}
use Rattle.esr_history.specs.declared.event.TxnKind.{TxnKind}
use Rattle.esr_history.specs.declared.event.TxnKind.TheVariants.{Update, Query, StrictQuery}

-- ---- kinds

-- the kind of the transaction that such a begin begins
abbrev pub kind_of_begin : BeginRecord → TxnKind
kind_of_begin b = if b.query then (if b.strict then StrictQuery else Query) else Update

-- the kind of transaction t
abbrev pub kind_of_txn : Schedule → ℕ → TxnKind
kind_of_txn h t = unwrap_or (option_map kind_of_begin (begin_record (accepted_in h) t)) Update

-- ---- distances

-- the distance of a committed query from the nearest serial placement
abbrev pub distance_of : DistanceFunction → Schedule → ℕ → Option ℕ
distance_of d h t = if is_committed_query h t then Some (least_distance d h t) else None
