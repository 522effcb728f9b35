-- A run of sessions on one thread: at each turn one of them executes its next line. A session of a drive file (a workload
-- script) is a list of lines, its calls, and is called a block here. The word has nothing to do with blocked lines.
use Rattle.std.specs.Prelude.{◌≡◌, ℕ, ◌+◌, ◌<◌, ◌-◌, ◌^◌, ℤ, List, [], ◌∷◌, ◌++◌, Bool, false, ◌&&◌, Option, Some, None, cond, is_some, length, map, min, nat_lt, option_map, slice_get, slice_index_or, slice_set}
use Rattle.std.specs.List.{fold, range_with_len}
use Rattle.esr_items.specs.Weights.{weighted}
use Rattle.esr_history.specs.declared.event.Event.{Event}
use Rattle.esr_history.specs.declared.event.Reply.{Reply}
use Rattle.esr_history.specs.declared.event.Reply.TheVariants.{Refused}
use Rattle.esr_history.specs.Machine.{Schedule, extended, reply_to, schedule_of}
use Rattle.esr_history.specs.Refusals.{refusal_blocker}
use Rattle.esr_plan.specs.declared.call.Call.{Call}
use Rattle.esr_plan.specs.Calls.{event_by}

-- whether an event was refused because of a lock, an import limit or an export limit, so that a retry may succeed
abbrev pub is_blocked : Reply → Bool
is_blocked (Refused why) = is_some (refusal_blocker why)
is_blocked _ = false

-- the progress of a block (what a contract says of a `BlockProgress`): the final reply to each line executed so far, the number of
-- tries of the next line, and how often any of its lines was blocked
pub record BlockProgressView : Type 0 where
  pub replies : List Reply
  pub tries : ℕ
  pub blocked : ℕ

abbrev pub no_progress : BlockProgressView
no_progress = record { replies = []; tries = 0; blocked = 0 }

-- a number, or 2^64 - 1 if it is greater
abbrev pub saturated_u64 : ℕ → ℕ
saturated_u64 n = min n (2 ^ 64 - 1)

-- whether the line is retried: it was blocked, and tried fewer than 100 times (`MAX_TRIES`)
abbrev pub is_retried : Reply → BlockProgressView → Bool
is_retried reply s = is_blocked reply && nat_lt (s.tries + 1) 100

-- the progress after a reply to the next line
abbrev pub with_reply : Reply → BlockProgressView → BlockProgressView
with_reply reply s = record {
  replies = cond (is_retried reply s) s.replies (s.replies ++ reply ∷ []);
  tries = cond (is_retried reply s) (s.tries + 1) 0;
  blocked = cond (is_blocked reply) (saturated_u64 (s.blocked + 1)) s.blocked;
}

-- the event of the next line, if one is left
abbrev pub next_event : List Call → BlockProgressView → Option Event
next_event calls s = option_map (event_by s.replies) (slice_get calls (length s.replies))

-- the history after an event, if there is one
abbrev pub history_after : Option Event → Schedule → Schedule
history_after None h = h
history_after (Some e) h = extended h e (reply_to weighted h e)

-- the progress of a block after its event, if there is one
abbrev pub progress_after : Option Event → Schedule → BlockProgressView → BlockProgressView
progress_after None h s = s
progress_after (Some e) h s = with_reply (reply_to weighted h e) s

-- the state of a run: the history, and the progress of each block
pub record RunState : Type 0 where
  pub history : Schedule
  pub all_progress : List BlockProgressView

abbrev pub run_state : Schedule → List BlockProgressView → RunState
run_state h all_progress = record { history = h; all_progress = all_progress }

-- the state after the turn of a block with these calls and this progress; unchanged if there is no such block
abbrev pub after_turn_from : List Call → ℕ → RunState → Option BlockProgressView → RunState
after_turn_from calls block before None = before
after_turn_from calls block before (Some s) = record {
  history = history_after (next_event calls s) before.history;
  all_progress = slice_set before.all_progress block (progress_after (next_event calls s) before.history s);
}

-- the state after one turn of a block
abbrev pub after_turn : List (List Call) → RunState → ℕ → RunState
after_turn blocks before block = after_turn_from (slice_index_or blocks block []) block before (slice_get before.all_progress block)

-- the state before the first turn: no entry, and no progress of any block
abbrev pub initial_run_state : List ℤ → List ℕ → List (List Call) → RunState
initial_run_state opening weights blocks =
    record { history = schedule_of opening weights []; all_progress = map (λ _. no_progress) (range_with_len 0 (length blocks)) }

-- the state after turns of the blocks with these numbers, one after another
abbrev pub after_turns : List (List Call) → RunState → List ℕ → RunState
after_turns blocks before order = fold (after_turn blocks) before order

-- no block has a line left
abbrev pub AreDone : List (List Call) → List BlockProgressView → Type 0
AreDone blocks all_progress =
    (length all_progress ≡ length blocks)
    × ((k : ℕ) → k < length blocks → length (slice_index_or all_progress k no_progress).replies ≡ length (slice_index_or blocks k []))

-- `end` is the state after a run: the turns in `order`, then extra turns, after which no block has a line left. (A retry uses
-- up a turn of `order`, so lines may be left.)
pub record IsRun (opening : List ℤ) (weights : List ℕ) (blocks : List (List Call)) (order : List ℕ) (end : RunState) : Type 0 where
  pub extra_turns : List ℕ
  pub end_is : end ≡ after_turns blocks (initial_run_state opening weights blocks) (order ++ extra_turns)
  pub done : AreDone blocks end.all_progress
