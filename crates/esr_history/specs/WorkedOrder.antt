-- Worked examples: the conflict order, costs and imports of some histories.
use Rattle.std.specs.Prelude.{◌≡◌, pos, [], ◌∷◌, Bool, true, false, refl, map, ◌==◌}
use Rattle.esr_history.specs.Events.{BeginUpdate, BeginQuery, Read, Write, Commit, Abort, Begun, Value, Wrote, Committed}
use Rattle.esr_history.specs.Machine.{Schedule, charges_in, import_in}
use Rattle.esr_history.specs.WorkedExamples.{plain, started_from, played, replies, txn, item}
use Rattle.esr_history.specs.Serial.{is_before, committed_updates, state}
use Rattle.esr_history.specs.Queries.{updates_committed_before, must, cost}

-- One update wrote a value that the next read, so that a query which saw the second has seen the first.
abbrev pub order_through_a_third_item : Schedule
order_through_a_third_item =
    played (started_from (pos 0 ∷ pos 0 ∷ pos 0 ∷ [])) (
    BeginQuery 9 false ∷ BeginUpdate 9 ∷ BeginUpdate 9 ∷ Read (txn 1) (item 0) ∷ Write (txn 2) (item 0) (pos 6)
    ∷ Write (txn 2) (item 2) (pos 1) ∷ Commit (txn 2)
    ∷ Read (txn 3) (item 2) ∷ Write (txn 3) (item 1) (pos 2) ∷ Commit (txn 3) ∷ Read (txn 1) (item 1)
    ∷ Commit (txn 1) ∷ [])

third_item_replies :
    replies order_through_a_third_item
    ≡ Begun (txn 1) ∷ Begun (txn 2) ∷ Begun (txn 3) ∷ Value (pos 0) ∷ Wrote ∷ Wrote ∷ Committed ∷ Value (pos 1)
    ∷ Wrote ∷ Committed ∷ Value (pos 2) ∷ Committed ∷ []
third_item_replies = refl

third_item_updates : updates_committed_before order_through_a_third_item 1 ≡ 2 ∷ 3 ∷ []
third_item_updates = refl

third_item_committed : committed_updates order_through_a_third_item ≡ 2 ∷ 3 ∷ []
third_item_committed = refl

third_item_before : is_before order_through_a_third_item 2 3 ≡ true
third_item_before = refl

third_item_not_before : is_before order_through_a_third_item 3 2 ≡ false
third_item_not_before = refl

third_item_leaves : map (state order_through_a_third_item (2 ∷ 3 ∷ [])) (0 ∷ 1 ∷ 2 ∷ []) ≡ pos 6 ∷ pos 2 ∷ pos 1 ∷ []
third_item_leaves = refl

-- with no update, with the first, and with both before the query
third_item_costs : map (cost plain order_through_a_third_item 1) ((λ _. false) ∷ (λ u. u == 2) ∷ (λ _. true) ∷ [])
    ≡ 2 ∷ 8 ∷ 6 ∷ []
third_item_costs = refl

third_item_import : import_in (charges_in plain order_through_a_third_item) 1 ≡ 6
third_item_import = refl

-- Two updates write items that a report has read.
abbrev pub two_updates_over_a_report : Schedule
two_updates_over_a_report =
    played (started_from (pos 0 ∷ pos 0 ∷ [])) (
    BeginQuery 100 false ∷ BeginUpdate 100 ∷ BeginUpdate 100 ∷ Read (txn 1) (item 0) ∷ Write (txn 2) (item 0) (pos 10)
    ∷ Commit (txn 2)
    ∷ Write (txn 3) (item 0) (pos 1) ∷ Write (txn 3) (item 1) (pos 8) ∷ Commit (txn 3) ∷ Read (txn 1) (item 1)
    ∷ Commit (txn 1) ∷ [])

two_updates_costs : map (cost plain two_updates_over_a_report 1) ((λ _. false) ∷ (λ u. u == 2) ∷ (λ _. true) ∷ [])
    ≡ 8 ∷ 18 ∷ 1 ∷ []
two_updates_costs = refl

two_updates_import : import_in (charges_in plain two_updates_over_a_report) 1 ≡ 19
two_updates_import = refl

-- Updates that committed before a strict query began are before it.
abbrev pub strict_report : Bool → Schedule
strict_report strict =
    played (started_from (pos 0 ∷ [])) (
    BeginUpdate 9 ∷ Write (txn 1) (item 0) (pos 5) ∷ Commit (txn 1) ∷ BeginQuery 9 strict ∷ BeginUpdate 9
    ∷ Write (txn 3) (item 0) (pos 0) ∷ Read (txn 2) (item 0) ∷ Abort (txn 3) ∷ Commit (txn 2) ∷ [])

strict_report_must : must (strict_report true) 2 ≡ 1 ∷ []
strict_report_must = refl

free_report_must : must (strict_report false) 2 ≡ []
free_report_must = refl

strict_report_costs : map (cost plain (strict_report true) 2) ((λ _. false) ∷ (λ _. true) ∷ []) ≡ 0 ∷ 5 ∷ []
strict_report_costs = refl

strict_report_import : import_in (charges_in plain (strict_report true)) 2 ≡ 5
strict_report_import = refl
