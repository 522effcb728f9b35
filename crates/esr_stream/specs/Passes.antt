-- A pass visits the updates that committed before a query, once, in commit order. It marks updates that every closed set of
-- least cost contains. The cost of a version of an item is the distance of the query's reads of the item from it. The amount of
-- a version is the part of its cost that the lower bound counts. An update that reads a version may raise its amount, or take a
-- loan from it, which the next writer repays. Amounts are proposed beforehand, and the pass checks them: each is at most the
-- cost, and no update decreases the sum of the amounts of the current versions less the loans (else the pass ends). So this sum
-- at the start, the `worth`, is a lower bound on the cost of every closed set (`esr_bound`).
--
-- These are the state of each item along a pass, the effect of one update on it, the invariant of a pass, and its result. In
-- all of them value v of item x costs C x v, and there are n items.
use Rattle.std.specs.Prelude.{pos, ◌≡◌, ◌≤◌, ◌<◌, ◌+◌, ◌%◌, ◌^◌, ◌&&◌, ◌||◌, ◌⊎◌, ◌==◌, ℕ, ℤ, Bool, true, false, nat_lt, List, [], length, filter, map, sum_by, slice_index_or}
use Rattle.esr_items.specs.Values.{value_at}
use Rattle.esr_history.specs.Events.{last_value}
use Rattle.esr_history.specs.Machine.{DistanceFunction, Schedule}
use Rattle.esr_history.specs.Queries.{updates_committed_before}
use Rattle.esr_order.specs.Placements.{IsClosed}
use Rattle.esr_order.specs.Least.{nearest_placement, least_distance}
use Rattle.std.specs.List.{list_any}
use Rattle.esr_bound.specs.Amounts.{Amount, left_by_all, mark_at, among_marked, cost_by, AreCovered, AreForced, Carries, HasMarked, Shows}
use Rattle.esr_order.specs.declared.accesses.Access.{Access}
pub use Rattle.esr_stream.specs.declared.items.ItemState.{ItemState}
use Rattle.esr_stream.specs.declared.rounds.MarkedPrefix.{MarkedPrefix}
use Rattle.esr_stream.specs.declared.amounts.ProposedAmount.{ProposedAmount}
use Rattle.esr_stream.specs.declared.reads.TheConstants.{OFFSET}

abbrev pub no_state : ItemState
no_state = record { cost = 0; amount = 0; loan = 0; owed = false; covered = false }

abbrev pub state_at : List ItemState → ℕ → ItemState
state_at states x = slice_index_or states x no_state

-- whether an access writes item x
abbrev pub is_write : ℕ → Access → Bool
is_write x a = a.writes && (a.item.0 == x)

-- the values that accesses write to item x, in order
abbrev pub written_in : ℕ → List Access → List ℤ
written_in x accesses = map (λ a. a.value) (filter (is_write x) accesses)

-- the access at a position
abbrev pub nth_access : List Access → ℕ → Access
nth_access accesses j = slice_index_or accesses j (record { value = pos 0; item = record { 0 = 0 }; writes = false })

-- whether an access is of item x
abbrev pub is_access : ℕ → Access → Bool
is_access x a = a.item.0 == x

-- the amount of the current version of item x, what it carries, and the sums of the amounts, the loans and the costs of the
-- current versions
abbrev pub amount_at : List ItemState → ℕ → ℕ
amount_at states x = (state_at states x).amount

abbrev pub carried_at : List ItemState → ℕ → Amount
carried_at states x = record { amount = (state_at states x).amount; loan = (state_at states x).loan; owed = (state_at states x).owed }

-- the same, if no marked update has a loan
abbrev pub unowed_at : List ItemState → ℕ → Amount
unowed_at states x = record { amount = (state_at states x).amount; loan = (state_at states x).loan; owed = false }

abbrev pub amounts_sum : List ItemState → ℕ
amounts_sum states = sum_by (λ i. i.amount) states

abbrev pub loans_sum : List ItemState → ℕ
loans_sum states = sum_by (λ i. i.loan) states

abbrev pub costs_sum : List ItemState → ℕ
costs_sum states = sum_by (λ i. i.cost) states

-- the amount that is proposed for the read at position j of an update: the offset and the raise, or the offset less the loan
abbrev pub read_amount : List ProposedAmount → ℕ → ℕ
read_amount amounts j = (slice_index_or amounts j (record { bits = OFFSET })).bits % (2 ^ 62)

-- The state if each update so far is marked. An item is covered if each writer of it that the pass has visited is marked, or a
-- writer visited after that one is. It is owed if a marked update has a loan from its current version.
abbrev pub as_covered : ItemState → ItemState
as_covered s = record { cost = s.cost; amount = s.amount; loan = s.loan; owed = nat_lt 0 s.loan; covered = true }

-- whether the amount of the current version of item x is below the cost of this version, and x is covered
abbrev pub has_slack_at : List ItemState → ℕ → Bool
has_slack_at states x = (state_at states x).covered && nat_lt (state_at states x).amount (state_at states x).cost

-- whether a marked update has a loan from the current version of item x, and x is covered
abbrev pub is_owed_at : List ItemState → ℕ → Bool
is_owed_at states x = (state_at states x).covered && (state_at states x).owed

-- whether an update with these accesses has to be marked because of a version that it overwrites
abbrev pub has_write_reason : List ItemState → List Access → Bool
has_write_reason states accesses = list_any (λ a. a.writes && (has_slack_at states a.item.0 || is_owed_at states a.item.0)) accesses

-- an update with these accesses raises the amount of a version with slack that it reads
pub record HasReadReason (states : List ItemState) (accesses : List Access) (proposed : ℕ → ℕ) : Type 0 where
  pub place : ℕ
  pub within : place < length accesses
  pub reads : (nth_access accesses place).writes ≡ false
  pub raises : OFFSET < proposed place
  pub slack : has_slack_at states (nth_access accesses place).item.0 ≡ true

-- the states after the first k of the updates committed before q
pub record AreStates (C : ℕ → ℤ → ℕ) (h : Schedule) (q k : ℕ) (marks : List Bool) (states : List ItemState) : Type 0 where
  pub len : length states ≡ length h.opening
  pub cost : (x : ℕ) → x < length h.opening → (state_at states x).cost ≡ C x (left_by_all h q k x)
  pub under : (x : ℕ) → x < length h.opening → amount_at states x ≤ (state_at states x).cost
  pub covered : (x : ℕ) → x < length h.opening → (state_at states x).covered ≡ true → AreCovered h q k marks x
  pub owed : (x : ℕ) → x < length h.opening → (state_at states x).owed ≡ true → 0 < (state_at states x).loan

-- the change of an item's state by the reads of an update, marked or not
pub record IsReadOf (marked : Bool) (old new : ItemState) : Type 0 where
  pub cost : new.cost ≡ old.cost
  pub covered : new.covered ≡ old.covered
  pub raised : old.amount ≤ new.amount
  pub lent : old.loan ≤ new.loan
  pub owed : new.owed ≡ true → (old.owed ≡ true) ⊎ ((marked ≡ true) × (old.loan < new.loan))

-- an item's state after an update, marked or not, that wrote the item
pub record IsWrittenBy (marked : Bool) (new : ItemState) : Type 0 where
  pub covered : new.covered ≡ marked
  pub owed : new.owed ≡ true → 0 < new.loan

-- The effect of the accesses of one update, marked or not, on the states, if `proposed j` is the amount proposed for a read at
-- position j. `after` minus `before` is the change of the sum of the amounts less the loans.
pub record IsUpdateApplied (C : ℕ → ℤ → ℕ) (marked : Bool) (proposed : ℕ → ℕ) (accesses : List Access) (old new : List ItemState) (before after : ℕ) : Type 0 where
  pub len : length new ≡ length old
  pub others : (x : ℕ) → list_any (is_access x) accesses ≡ false → state_at new x ≡ state_at old x
  pub cost : (x : ℕ) (v : ℤ) → x < length old → (state_at old x).cost ≡ C x v → (state_at new x).cost ≡ C x (last_value v (written_in x accesses))
  pub under : (x : ℕ) → x < length old → amount_at old x ≤ (state_at old x).cost → amount_at new x ≤ (state_at new x).cost
  pub read : (x : ℕ) → x < length old → written_in x accesses ≡ [] → IsReadOf marked (state_at old x) (state_at new x)
  pub written : (x : ℕ) → x < length old → (written_in x accesses ≡ [] → ⊥) → IsWrittenBy marked (state_at new x)
  pub raises : (j : ℕ) → j < length accesses → (nth_access accesses j).writes ≡ false → (nth_access accesses j).item.0 < length old → OFFSET < proposed j
      → written_in (nth_access accesses j).item.0 accesses ≡ [] → amount_at old (nth_access accesses j).item.0 < (state_at old (nth_access accesses j).item.0).cost
      → amount_at old (nth_access accesses j).item.0 < amount_at new (nth_access accesses j).item.0
  pub sum : amounts_sum new + loans_sum old + before ≡ amounts_sum old + loans_sum new + after

-- the states of the first n items before all updates
pub record AreOpening (C : ℕ → ℤ → ℕ) (opening : List ℤ) (n : ℕ) (states : List ItemState) : Type 0 where
  pub len : length states ≡ n
  pub cost : (x : ℕ) → x < n → (state_at states x).cost ≡ C x (value_at opening x)
  pub under : (x : ℕ) → x < n → amount_at states x ≤ (state_at states x).cost
  pub owed : (x : ℕ) → x < n → (state_at states x).owed ≡ false

-- The invariant of a pass that started with the marks `seeds`, after the first k updates: the states are those after k updates,
-- the updates not yet visited have the marks of the seeds, and for each closed set with all seeds, the amounts of the versions
-- that are current after its members sum to at least the worth and the loans (`Carries`).
pub record IsPassInvariant (n : ℕ) (C : ℕ → ℤ → ℕ) (h : Schedule) (q worth k : ℕ) (seeds marks : List Bool) (states_after : List ItemState) : Type 0 where
  pub states : AreStates C h q k marks states_after
  pub later : (j : ℕ) → k ≤ j → mark_at marks j ≡ mark_at seeds j
  pub carries : (S : ℕ → Bool) → IsClosed h q S → HasMarked h q seeds S → Carries n C h q worth k (carried_at states_after) marks S

-- Every closed set costs at least `worth`; each closed set of this cost has all marked updates; the marked updates are
-- themselves a closed set.
pub record AreForcedAndClosed (n : ℕ) (C : ℕ → ℤ → ℕ) (h : Schedule) (q worth : ℕ) (marks : List Bool) : Type 0 where
  pub bound : (S : ℕ → Bool) → IsClosed h q S → worth ≤ cost_by n C h q S
  pub forced : AreForced n C h q worth marks
  pub closed : IsClosed h q (among_marked (updates_committed_before h q) marks)

-- the first k updates are all marked
abbrev pub IsPrefixMarked : ℕ → List Bool → Type 0
IsPrefixMarked k marks = (i : ℕ) → i < k → mark_at marks i ≡ true

-- each update that was marked still is
abbrev pub StayMarked : List Bool → List Bool → Type 0
StayMarked old new = (i : ℕ) → mark_at old i ≡ true → mark_at new i ≡ true

-- whether `distance` is the least distance of a query, and `before` are the updates before it in its nearest placement, in
-- commit order
abbrev pub IsNearestPlacement : DistanceFunction → Schedule → ℕ → ℕ → List ℕ → Type 0
IsNearestPlacement d h q distance before = (distance ≡ least_distance d h q) × (before ≡ nearest_placement d h q)

-- no update from position k on is marked
abbrev pub NoneMarkedFrom : ℕ → List Bool → Type 0
NoneMarkedFrom k marks = (i : ℕ) → k ≤ i → mark_at marks i ≡ false

-- The amounts after the first k updates are enough for the bound: if each closed set with the seeds carries a worth in them, the
-- marks, all before position k, are forced as at the end of a pass. This holds if the updates from position k on do not decrease
-- the sum of the amounts less the loans.
abbrev pub AreEnough : ℕ → (ℕ → ℤ → ℕ) → Schedule → ℕ → ℕ → (ℕ → Amount) → Type 0
AreEnough n C h q k amounts = (worth : ℕ) (seeds marks : List Bool) → NoneMarkedFrom k marks
    → ((S : ℕ → Bool) → IsClosed h q S → HasMarked h q seeds S → Carries n C h q worth k amounts marks S)
    → Shows n C h q worth seeds marks

-- the amounts of these states are enough at their position
abbrev pub IsEnough : ℕ → (ℕ → ℤ → ℕ) → Schedule → ℕ → MarkedPrefix → Type 0
IsEnough n C h q prefix = AreEnough n C h q prefix.len (unowed_at prefix.states.items)

-- these prefixes have the same length, amounts and loans
abbrev pub IsSame : MarkedPrefix → MarkedPrefix → Type 0
IsSame a b = (a.len ≡ b.len) × ((x : ℕ) → unowed_at a.states.items x ≡ unowed_at b.states.items x)

-- these are the states at the position, if all updates before it are marked
abbrev pub HasStates : (ℕ → ℤ → ℕ) → Schedule → ℕ → MarkedPrefix → Type 0
HasStates C h q prefix = (ms : List Bool) → IsPrefixMarked prefix.len ms → AreStates C h q prefix.len ms prefix.states.items

-- every closed set costs at least `worth`
abbrev pub HasBound : ℕ → (ℕ → ℤ → ℕ) → Schedule → ℕ → ℕ → Type 0
HasBound n C h q worth = (S : ℕ → Bool) → IsClosed h q S → worth ≤ cost_by n C h q S

-- a pass from position k to position m keeps its invariant
abbrev pub KeepsInvariant : ℕ → (ℕ → ℤ → ℕ) → Schedule → ℕ → ℕ → ℕ → List Bool → List ItemState → List Bool → List ItemState → Type 0
KeepsInvariant n C h q k m old_marks old_states new_marks new_states = (worth : ℕ) (seeds : List Bool)
    → IsPassInvariant n C h q worth k seeds old_marks old_states → IsPassInvariant n C h q worth m seeds new_marks new_states

-- if the amounts after a pass from position k to position m are enough, those before it are
abbrev pub KeepsEnough : ℕ → (ℕ → ℤ → ℕ) → Schedule → ℕ → ℕ → ℕ → List Bool → List ItemState → List ItemState → Type 0
KeepsEnough n C h q k m old_marks old_states new_states = (worth : ℕ) (seeds : List Bool)
    → IsPassInvariant n C h q worth k seeds old_marks old_states → AreEnough n C h q m (unowed_at new_states) → AreEnough n C h q k (unowed_at old_states)
