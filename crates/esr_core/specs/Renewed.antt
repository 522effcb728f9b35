-- Going on from the committed values of a history.
use Rattle.std.specs.Prelude.{◌≡◌, ◌<◌, ℕ, ℤ, Bool, ◌&&◌, ◌==◌, IsTrue, List, [], ◌∷◌, ◌++◌, length, map, flat_map}
use Rattle.std.specs.List.{before_first, filter_map, list_any, range_with_len}
use Rattle.esr_core.specs.Types.{ItemId, TxnId, Read, Value, Entry}
use Rattle.esr_history.specs.Events.{accepted, txn_numbers, is_active, is_update, is_committed, written, last_value, committed_value}
use Rattle.esr_history.specs.Machine.{Schedule, schedule_of, accepted_in}
use Rattle.esr_history.specs.Serial.{IsSerialOrder, IsSerializable, committed_updates, values_by, state}

-- the committed values of the items, in their order
abbrev pub committed_values : Schedule → List ℤ
committed_values h = map (committed_value h.opening (accepted_in h)) (range_with_len 0 (length h.opening))

-- whether a transaction is active
abbrev pub has_active : Schedule → Bool
has_active h = list_any (is_active (accepted_in h)) (txn_numbers (accepted_in h))

-- a history with no entry over the committed values of another
abbrev pub renewed : Schedule → List ℕ → Schedule
renewed h weights = schedule_of (committed_values h) weights []

-- the value of item x after the updates us of a history and then the updates vs of one that follows it, run one after
-- another
abbrev pub state_over : Schedule → List ℕ → Schedule → List ℕ → ℕ → ℤ
state_over h us k vs x = last_value (state h us x) (flat_map (values_by k x) vs)

-- Two consecutive histories are serializable as one: the committed updates of the first in commit order, then those of
-- the second in theirs, run in sequence from the opening values of the first, read and leave the same values.
pub record AreSerializableAsOne (h k : Schedule) : Type 0 where
  pub first : IsSerializable h
  pub serial : IsSerialOrder k (committed_updates k) (committed_updates k)
  pub reads : (before after : List Entry) (t : TxnId) (x : ItemId) (v : ℤ) → x.0 < length h.opening
      → k.entries ≡ before ++ record { event = Read t x; reply = Value v } ∷ after
      → IsTrue (is_update (accepted_in k) t.0 && is_committed (accepted_in k) t.0)
      → v ≡ last_value (state_over h (committed_updates h) k (before_first (λ u. u == t.0) (committed_updates k)) x.0)
      (filter_map (written (λ u. u == t.0) x.0) (accepted before))
  pub leaves : (x : ℕ) → x < length h.opening
      → state_over h (committed_updates h) k (committed_updates k) x ≡ committed_value k.opening (accepted_in k) x
