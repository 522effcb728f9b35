-- The waits among transactions, and their cycles.
use Rattle.std.specs.Prelude.{◌≡◌, ℕ, ◌<◌, List, [], ◌∷◌, ◌++◌, length, All, Option, Some, slice_get, map, option_map}
use Rattle.esr_base.specs.declared.numbers.TxnId.{TxnId}
use Rattle.esr_history.specs.declared.event.Entry.{Entry}
use Rattle.esr_history.specs.declared.event.Reply.{Reply}
use Rattle.esr_history.specs.declared.event.Reply.TheVariants.{Refused}
use Rattle.esr_history.specs.declared.event.Refusal.TheVariants.{BlockedByLock}
use Rattle.esr_history.specs.BackLinks.{last_place, txn_in}
use Rattle.esr_why.specs.declared.waits.Wait.{Wait}

-- Of the entries so far: the last event of a transaction, at this place, was blocked by a lock of another. So it has
-- neither ended nor made another event since.
pub record IsWaiting (es : List Entry) (w : Wait) : Type 0 where
  pub last : last_place txn_in w.txn.0 es ≡ Some w.place
  pub blocked : option_map (λ e. e.reply) (slice_get es w.place) ≡ Some (Refused (BlockedByLock w.holder))

-- the first element is moved to the end
abbrev pub turned : List TxnId → List TxnId
turned [] = []
turned (t ∷ ts) = ts ++ t ∷ []

-- a list of waits that begins with this one
abbrev pub BeginsWith : Wait → List Wait → Type 0
BeginsWith first ws = (rest : List Wait) × (ws ≡ first ∷ rest)

-- each waits for the next, and the last for the first
pub record IsCycle (es : List Entry) (ws : List Wait) : Type 0 where
  pub waiting : All (IsWaiting es) ws
  pub round : map (λ w. w.holder) ws ≡ turned (map (λ w. w.txn) ws)

-- the last place of each transaction
abbrev pub AreLastEntries : List Entry → List (Option ℕ) → Type 0
AreLastEntries es places = (t : ℕ) → t < length places → slice_get places t ≡ Some (last_place txn_in t es)
