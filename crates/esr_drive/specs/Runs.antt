-- The results of a session's thread.
use Rattle.std.specs.Prelude.{◌≡◌, ℕ, List, All, length, ◌<◌, ◌≤◌, ◌*◌, ◌++◌, true, Option, Some, take, slice_get, slice_index_or, option_map}
use Rattle.esr_history.specs.declared.event.Event.{Event}
use Rattle.esr_history.specs.declared.event.Reply.{Reply}
use Rattle.esr_session.specs.declared.receipt.Receipt.{Receipt}
use Rattle.esr_session.specs.Receipts.{is_blocked}
use Rattle.esr_plan.specs.declared.call.Call.{Call}
use Rattle.esr_plan.specs.Calls.{AreResolved, answers_of, event_by}
use Rattle.esr_plan.specs.Blocks.{AreRuns}

-- the event of the next call, by the last replies to those before it
abbrev pub next_event : List Call → List Reply → Option Event
next_event calls replies = option_map (event_by replies) (slice_get calls (length replies))

-- the first calls of the block have these last replies, and the next call was blocked `blocked` times after them
pub record IsUnderWay (calls : List Call) (replies : List Reply) (blocked : ℕ) (receipts : List Receipt) : Type 0 where
  pub count_within_max : length replies ≤ length calls
  pub done : List Receipt
  pub again : List Receipt
  pub parts : receipts ≡ done ++ again
  pub runs : (names : List (List ℕ)) → AreResolved names calls
      → AreRuns names (answers_of (take (length replies) calls) replies) done
  pub were_blocked : All (λ r. (next_event calls replies ≡ Some r.event) × (is_blocked r.reply ≡ true)) again
  pub times : length again ≡ blocked
  pub upper_bound : length done ≤ 100 * length replies

-- all calls of the block have their last replies; the names are those of the items
pub record IsBlockRun (calls : List Call) (replies : List Reply) (receipts : List Receipt) : Type 0 where
  pub every : length replies ≡ length calls
  pub runs : (names : List (List ℕ)) → AreResolved names calls → AreRuns names (answers_of calls replies) receipts

-- at each place the relation holds of the elements of both lists
abbrev pub AllPairs : {J R : Type 0} → (J → R → Type 0) → List J → List R → Type 0
AllPairs P js rs = (i : ℕ) (j : _) (r : _) → i < length js → P (slice_index_or js i j) (slice_index_or rs i r)
