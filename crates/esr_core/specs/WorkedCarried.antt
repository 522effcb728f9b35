-- A worked example: a report and an update that are carried over.
use Rattle.std.specs.Prelude.{◌≡◌, pos, [], ◌∷◌, false, refl, map}
use Rattle.esr_core.specs.Types.{BeginUpdate, BeginQuery, Read, Write, Commit, Begun, Value, Wrote, Committed, Refused, BlockedByImport}
use Rattle.esr_history.specs.Machine.{Schedule, charges_in, import_in}
use Rattle.esr_history.specs.WorkedExamples.{plain, started_from, played, replies, txn, item}
use Rattle.esr_core.specs.Carried.{new_number, open_charges, settled, carried}

-- The report (1) reads item 0, and an update (2) writes that by 3 and commits. Another (3) writes item 1 by 7, then the
-- report reads it: 10 are charged, of which 3 are settled and 7 are open.
abbrev pub two_active : Schedule
two_active =
    played (started_from (pos 100 ∷ pos 50 ∷ [])) (
    BeginQuery 12 false ∷ BeginUpdate 9 ∷ BeginUpdate 9 ∷ Read (txn 1) (item 0) ∷ Write (txn 2) (item 0) (pos 103)
    ∷ Commit (txn 2) ∷ Read (txn 3) (item 1) ∷ Write (txn 3) (item 1) (pos 57) ∷ Read (txn 1) (item 1) ∷ [])

two_active_replies : replies two_active
    ≡ Begun (txn 1) ∷ Begun (txn 2) ∷ Begun (txn 3) ∷ Value (pos 100) ∷ Wrote ∷ Committed ∷ Value (pos 50) ∷ Wrote
    ∷ Value (pos 57) ∷ []
two_active_replies = refl

charged : import_in (charges_in plain two_active) 1 ≡ 10
charged = refl

is_open : map (import_in (open_charges plain two_active)) (1 ∷ []) ≡ 7 ∷ []
is_open = refl

are_settled : map (settled plain two_active) (1 ∷ 3 ∷ []) ≡ 3 ∷ 0 ∷ []
are_settled = refl

renumbered : map (λ t. (new_number two_active t).0) (1 ∷ 3 ∷ []) ≡ 1 ∷ 2 ∷ []
renumbered = refl

-- The carried schedule has the replies of the machine: the report begins with 9 of its 12, and is charged the 7 again.
is_answered : carried plain two_active
    ≡ played (started_from (pos 103 ∷ pos 50 ∷ [])) (
    BeginQuery 9 false ∷ BeginUpdate 9 ∷ Read (txn 2) (item 1) ∷ Write (txn 2) (item 1) (pos 57)
    ∷ Read (txn 1) (item 0) ∷ Read (txn 1) (item 1) ∷ [])
is_answered = refl

its_replies : replies (carried plain two_active)
    ≡ Begun (txn 1) ∷ Begun (txn 2) ∷ Value (pos 50) ∷ Wrote ∷ Value (pos 103) ∷ Value (pos 57) ∷ []
its_replies = refl

charged_after_carry : import_in (charges_in plain (carried plain two_active)) 1 ≡ 7
charged_after_carry = refl

-- With only the rest of its limit, 2, it could not be carried: the 7 would be charged twice.
left_alone : replies (played (started_from (pos 103 ∷ pos 50 ∷ [])) (
    BeginQuery 2 false ∷ BeginUpdate 9 ∷ Read (txn 2) (item 1) ∷ Write (txn 2) (item 1) (pos 57)
    ∷ Read (txn 1) (item 0) ∷ Read (txn 1) (item 1) ∷ []))
    ≡ Begun (txn 1) ∷ Begun (txn 2) ∷ Value (pos 50) ∷ Wrote ∷ Value (pos 103) ∷ Refused (BlockedByImport (txn 1)) ∷ []
left_alone = refl

-- An update that writes back and forth: its reads and writes are replayed before the reads of reports, which are
-- charged by the present values. In the other order its way would be charged, 100 to a report that imported nothing.
abbrev pub to_and_fro : Schedule
to_and_fro =
    played (started_from (pos 0 ∷ [])) (
    BeginQuery 0 false ∷ BeginUpdate 0 ∷ Write (txn 2) (item 0) (pos 50) ∷ Write (txn 2) (item 0) (pos 0)
    ∷ Read (txn 1) (item 0) ∷ [])

to_and_fro_carried : replies (carried plain to_and_fro) ≡ Begun (txn 1) ∷ Begun (txn 2) ∷ Wrote ∷ Wrote ∷ Value (pos 0) ∷ []
to_and_fro_carried = refl

reads_first : replies (played (started_from (pos 0 ∷ [])) (
    BeginQuery 0 false ∷ BeginUpdate 0 ∷ Read (txn 1) (item 0) ∷ Write (txn 2) (item 0) (pos 50) ∷ []))
    ≡ Begun (txn 1) ∷ Begun (txn 2) ∷ Value (pos 0) ∷ Refused (BlockedByImport (txn 1)) ∷ []
reads_first = refl
