-- The charges of a blocked event to the limits that it would have exceeded.
use Rattle.std.specs.Prelude.{ℕ, ◌+◌, List, [], ◌∷◌, ◌++◌, Option, Some, None, nat_lt, if◌then◌else◌}
use Rattle.std.specs.List.{filter_map}
use Rattle.esr_history.specs.declared.event.Event.{Event}
use Rattle.esr_history.specs.Events.{limit_of}
use Rattle.esr_history.specs.Machine.{DistanceFunction, Schedule, Charge, accepted_in, due_in, charges_in, import_in, export_in, total}
use Rattle.esr_why.specs.declared.shortfall.Side.{Side}
use Rattle.esr_why.specs.declared.shortfall.Side.TheVariants.{Import, Export}
use Rattle.esr_why.specs.declared.shortfall.Shortfall.{Shortfall}

-- The shortfall of a transaction that has been charged `used` of its limit and would be charged `due` more: none if
-- the sum is within the limit. The smallest sufficient limit is the sum.
abbrev pub lack : Side → ℕ → (due used limit : ℕ) → Option Shortfall
lack side t due used limit =
    if nat_lt limit (used + due)
    then Some (record {
      side = side;
      txn = record { 0 = t };
      due = due;
      used = used;
      limit = limit;
      enough = used + due;
    })
    else None

-- the shortfall of a query to import this amount, and of an update to export it
abbrev pub import_lack : DistanceFunction → Schedule → ℕ → ℕ → Option Shortfall
import_lack d h q due = lack Import q due (import_in (charges_in d h) q) (limit_of (accepted_in h) q)

abbrev pub export_lack : DistanceFunction → Schedule → ℕ → ℕ → Option Shortfall
export_lack d h u due = lack Export u due (export_in (charges_in d h) u) (limit_of (accepted_in h) u)

abbrev pub listed : Option Shortfall → List Shortfall
listed None = []
listed (Some s) = s ∷ []

-- the shortfall of the update for all these charges together
abbrev pub export_shortfall : DistanceFunction → Schedule → List Charge → List Shortfall
export_shortfall d h [] = []
export_shortfall d h (c ∷ cs) = listed (export_lack d h c.update (total (c ∷ cs)))

-- the shortfalls for charges: of the queries' limits, and then of the update's
abbrev pub shortfalls_of : DistanceFunction → Schedule → List Charge → List Shortfall
shortfalls_of d h cs = filter_map (λ c. import_lack d h c.query c.amount) cs ++ export_shortfall d h cs

-- the shortfalls of the event after a history for the charges due
abbrev pub shortfalls : DistanceFunction → Schedule → Event → List Shortfall
shortfalls d h e = shortfalls_of d h (due_in d h e)
