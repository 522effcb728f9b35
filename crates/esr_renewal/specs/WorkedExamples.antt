-- A worked example: a renewal with an update whose item two reports have read, and a second renewal.
use Rattle.std.specs.Prelude.{◌≡◌, pos, [], ◌∷◌, false, refl, map}
use Rattle.esr_history.specs.Machine.{Schedule, charges_in, export_in}
use Rattle.esr_history.specs.WorkedExamples.{plain, started_from, played, replies, txn, item}
use Rattle.esr_core.specs.Carried.{open_charges, settled, carried}
use Rattle.esr_renewal.specs.Types.{BeginUpdate, BeginQuery, Read, Write, Commit, Begun, Value, Wrote, Committed}

-- Two reports (1 and 2) read item 0, and an update (3) writes it, 5 higher. The first report commits: the update has
-- exported 10, of which 5 are settled and 5 are open.
abbrev pub one_report_left : Schedule
one_report_left =
    played (started_from (pos 100 ∷ [])) (
    BeginQuery 9 false ∷ BeginQuery 9 false ∷ BeginUpdate 12 ∷ Read (txn 1) (item 0) ∷ Read (txn 2) (item 0)
    ∷ Write (txn 3) (item 0) (pos 105) ∷ Commit (txn 1) ∷ [])

one_report_left_replies : replies one_report_left
    ≡ Begun (txn 1) ∷ Begun (txn 2) ∷ Begun (txn 3) ∷ Value (pos 100) ∷ Value (pos 100) ∷ Wrote ∷ Committed ∷ []
one_report_left_replies = refl

exported : export_in (charges_in plain one_report_left) 3 ≡ 10
exported = refl

is_open : map (export_in (open_charges plain one_report_left)) (3 ∷ []) ≡ 5 ∷ []
is_open = refl

are_settled : map (settled plain one_report_left) (2 ∷ 3 ∷ []) ≡ 0 ∷ 5 ∷ []
are_settled = refl

-- The update begins again with 7 of its 12. Its write comes first, so the report is charged the open 5 for its read.
abbrev pub after_renewal : Schedule
after_renewal =
    played (started_from (pos 100 ∷ [])) (
    BeginQuery 9 false ∷ BeginUpdate 7 ∷ Write (txn 2) (item 0) (pos 105) ∷ Read (txn 1) (item 0) ∷ [])

is_answered : carried plain one_report_left ≡ after_renewal
is_answered = refl

-- A second renewal right after the first changes nothing, since all that is charged is open.
renewed_again : carried plain after_renewal ≡ after_renewal
renewed_again = refl
