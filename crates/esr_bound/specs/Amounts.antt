-- A lower bound on the cost of every closed set of a query's updates, from an amount for each version of an item, which the
-- updates that read the version may raise, or lower by loans. These definitions mention no problem, no network and no flow.
use Rattle.std.specs.Prelude.{◌≡◌, ◌≤◌, ◌<◌, ◌+◌, ◌⊎◌, ◌&&◌, ◌==◌, ℕ, ℤ, Bool, true, false, List, [], length, take, filter, sum_by, slice_index_or}
use Rattle.std.specs.List.{range_with_len, list_any}
use Rattle.esr_history.specs.Machine.{DistanceFunction, Schedule, IsLegal}
use Rattle.esr_history.specs.Operations.{operations}
use Rattle.esr_history.specs.Serial.{state, values_by}
use Rattle.esr_history.specs.Queries.{updates_committed_before, members, must, cost}
use Rattle.esr_order.specs.Placements.{IsClosed, IsSmallestLeastSet}
use Rattle.esr_order.specs.Chains.{nth}

-- the sum of f over the first n items
abbrev pub total : ℕ → (ℕ → ℕ) → ℕ
total n f = sum_by f (range_with_len 0 n)

-- whether the update at position i is marked
abbrev pub mark_at : List Bool → ℕ → Bool
mark_at marks i = slice_index_or marks i false

-- the total cost of the versions of n items that S leaves, if version v of item x costs C x v
abbrev pub cost_by : ℕ → (ℕ → ℤ → ℕ) → Schedule → ℕ → (ℕ → Bool) → ℕ
cost_by n C h q S = total n (λ x. C x (state h (members h q S) x))

-- the marked updates of a list, as a test
abbrev pub among_marked : List ℕ → List Bool → ℕ → Bool
among_marked us marks u = list_any (λ i. mark_at marks i && (nth us i == u)) (range_with_len 0 (length us))

-- S contains all marked updates of q
abbrev pub HasMarked : Schedule → ℕ → List Bool → (ℕ → Bool) → Type 0
HasMarked h q marks S = (i : ℕ) → i < length (updates_committed_before h q) → mark_at marks i ≡ true → S (nth (updates_committed_before h q) i) ≡ true

-- each closed set that costs at most `worth` contains all marked updates
abbrev pub AreForced : ℕ → (ℕ → ℤ → ℕ) → Schedule → ℕ → ℕ → List Bool → Type 0
AreForced n C h q worth marks = (S : ℕ → Bool) → IsClosed h q S → cost_by n C h q S ≤ worth → HasMarked h q marks S

-- What a pass shows that starts with the marks `seeds` and ends with `marks`, if the seeds are forced: no closed set costs
-- less than `worth`, and each one that costs no more contains all marked updates.
pub record Shows (n : ℕ) (C : ℕ → ℤ → ℕ) (h : Schedule) (q worth : ℕ) (seeds marks : List Bool) : Type 0 where
  pub bound : AreForced n C h q worth seeds → (S : ℕ → Bool) → IsClosed h q S → worth ≤ cost_by n C h q S
  pub forced : AreForced n C h q worth seeds → AreForced n C h q worth marks

-- update u wrote item x
abbrev pub Wrote : Schedule → ℕ → ℕ → Type 0
Wrote h x u = values_by h x u ≡ [] → ⊥

-- whether update u read or wrote item x
abbrev pub accessed : Schedule → ℕ → ℕ → Bool
accessed h x u = list_any (λ o. (o.txn == u) && (o.item == x)) (operations h)

-- the value of item x after the members of S among the first k updates of q
abbrev pub left_by : Schedule → ℕ → (ℕ → Bool) → ℕ → ℕ → ℤ
left_by h q S k x = state h (filter S (take k (updates_committed_before h q))) x

-- the value of item x after the first k updates of q
abbrev pub left_by_all : Schedule → ℕ → ℕ → ℕ → ℤ
left_by_all h q k x = state h (take k (updates_committed_before h q)) x

-- What a version carries: its amount, and the loans that updates took which read it. A reader may raise the amount, or take a
-- loan, which counts against the sum of the amounts until the next writer of the item repays it. `owed` says that a marked
-- reader took one.
pub record Amount : Type 0 where
  pub amount : ℕ
  pub loan : ℕ
  pub owed : Bool

-- the sums of the amounts and of the loans of n items
abbrev pub total_amounts : ℕ → (ℕ → Amount) → ℕ
total_amounts n amounts = total n (λ x. (amounts x).amount)

abbrev pub total_loans : ℕ → (ℕ → Amount) → ℕ
total_loans n amounts = total n (λ x. (amounts x).loan)

-- S contains each of the first k updates that wrote item x
abbrev pub HasWriters : Schedule → ℕ → (ℕ → Bool) → ℕ → ℕ → Type 0
HasWriters h q S k x = (i : ℕ) → i < k → Wrote h x (nth (updates_committed_before h q) i) → S (nth (updates_committed_before h q) i) ≡ true

-- S contains each of the first k updates that read or wrote item x
abbrev pub HasAccessors : Schedule → ℕ → (ℕ → Bool) → ℕ → ℕ → Type 0
HasAccessors h q S k x = (i : ℕ) → i < k → accessed h x (nth (updates_committed_before h q) i) ≡ true → S (nth (updates_committed_before h q) i) ≡ true

-- S lacks one of the first k updates that wrote item x
abbrev pub LacksWriter : Schedule → ℕ → (ℕ → Bool) → ℕ → ℕ → Type 0
LacksWriter h q S k x = (i : ℕ) × (i < k) × Wrote h x (nth (updates_committed_before h q) i) × (S (nth (updates_committed_before h q) i) ≡ false)

-- S contains the marked updates among the first k
abbrev pub HasMarkedSoFar : Schedule → ℕ → List Bool → (ℕ → Bool) → ℕ → Type 0
HasMarkedSoFar h q marks S k = (i : ℕ) → i < k → mark_at marks i ≡ true → S (nth (updates_committed_before h q) i) ≡ true

-- S costs more than the worth, because of item x: S lacks a writer of x, so it keeps a version whose amount less the loans is
-- below its cost; or it has all writers so far, and lacks a reader that raised the amount.
abbrev pub CostsMore : ℕ → (ℕ → ℤ → ℕ) → Schedule → ℕ → ℕ → (ℕ → Amount) → (ℕ → Bool) → (ℕ → ℕ) → (ℕ → ℕ) → Type 0
CostsMore n C h q k amounts S own loan = (x : ℕ) × (x < n)
    × ((LacksWriter h q S k x × (own x < C x (left_by h q S k x) + loan x)) ⊎ (HasWriters h q S k x × (own x < (amounts x).amount)))

-- After the first k updates, the versions that the closed set S leaves carry the worth. Each of these versions has an amount
-- `own` that is at most its cost, and loans; the amounts are at least the worth and the loans. An item whose writers are all in
-- S has the version of the full order, with an amount that is at most the amount there; if its readers are in S, too, the amount
-- and the loans are those of the full order. Either S contains all marked updates so far, or it costs more than `worth`.
pub record Carries (n : ℕ) (C : ℕ → ℤ → ℕ) (h : Schedule) (q worth k : ℕ) (amounts : ℕ → Amount) (marks : List Bool) (S : ℕ → Bool) : Type 0 where
  pub own : ℕ → ℕ
  pub loan : ℕ → ℕ
  pub under : (x : ℕ) → x < n → own x ≤ C x (left_by h q S k x)
  pub cap : (x : ℕ) → x < n → (amounts x).amount ≤ C x (left_by_all h q k x)
  pub most : (x : ℕ) → x < n → HasWriters h q S k x → own x ≤ (amounts x).amount
  pub same : (x : ℕ) → x < n → HasAccessors h q S k x → (own x ≡ (amounts x).amount) × (loan x ≡ (amounts x).loan)
  pub sum : worth + total n loan ≤ total n own
  pub owed : HasMarkedSoFar h q marks S k → (x : ℕ) → x < n → (amounts x).owed ≡ true → HasWriters h q S k x → 0 < loan x
  pub marked : HasMarkedSoFar h q marks S k ⊎ CostsMore n C h q k amounts S own loan

-- each writer of item x among the first k updates is marked, or a later writer among them is
abbrev pub AreCovered : Schedule → ℕ → ℕ → List Bool → ℕ → Type 0
AreCovered h q k marks x = (i : ℕ) → i < k → Wrote h x (nth (updates_committed_before h q) i) → (mark_at marks i ≡ true)
    ⊎ ((j : ℕ) × (i < j) × (j < k) × Wrote h x (nth (updates_committed_before h q) j) × (mark_at marks j ≡ true))

-- The reason to mark the update at position k: an item whose earlier writers are covered by marks. The update overwrites a
-- version whose amount is below its cost, or from which a marked reader has a loan; or it reads a version and raises its amount.
-- A closed set without this update costs more.
pub record HasReason (n : ℕ) (C : ℕ → ℤ → ℕ) (h : Schedule) (q k : ℕ) (amounts after : ℕ → Amount) (marks : List Bool) : Type 0 where
  pub item : ℕ
  pub known : item < n
  pub writers : AreCovered h q k marks item
  pub why : (Wrote h item (nth (updates_committed_before h q) k) × (((amounts item).amount < C item (left_by_all h q k item)) ⊎ ((amounts item).owed ≡ true)))
      ⊎ ((values_by h item (nth (updates_committed_before h q) k) ≡ []) × (accessed h item (nth (updates_committed_before h q) k) ≡ true) × ((amounts item).amount < (after item).amount))

-- The update at position k, which does not decrease the sum of the amounts less the loans: it gives each version that it
-- writes an amount; it may raise the amount of each version that it reads, and take a loan from it.
pub record IsStep (n : ℕ) (C : ℕ → ℤ → ℕ) (h : Schedule) (q k : ℕ) (amounts after : ℕ → Amount) (seed : Bool) (marks marked : List Bool) : Type 0 where
  pub others : (x : ℕ) → x < n → accessed h x (nth (updates_committed_before h q) k) ≡ false → after x ≡ amounts x
  pub under : (x : ℕ) → x < n → accessed h x (nth (updates_committed_before h q) k) ≡ true → (after x).amount ≤ C x (left_by_all h q (k + 1) x)
  pub raised : (x : ℕ) → x < n → values_by h x (nth (updates_committed_before h q) k) ≡ [] → (amounts x).amount ≤ (after x).amount
  pub lent : (x : ℕ) → x < n → values_by h x (nth (updates_committed_before h q) k) ≡ [] → (amounts x).loan ≤ (after x).loan
  pub owed_by_writer : (x : ℕ) → x < n → Wrote h x (nth (updates_committed_before h q) k) → (after x).owed ≡ true → 0 < (after x).loan
  pub owed_by_reader : (x : ℕ) → x < n → values_by h x (nth (updates_committed_before h q) k) ≡ [] → (after x).owed ≡ true
      → ((amounts x).owed ≡ true) ⊎ ((mark_at marked k ≡ true) × ((amounts x).loan < (after x).loan))
  pub sum : total_amounts n amounts + total_loans n after ≤ total_amounts n after + total_loans n amounts
  pub earlier : (i : ℕ) → i < k → mark_at marked i ≡ mark_at marks i
  pub mark : mark_at marked k ≡ true → (seed ≡ true) ⊎ HasReason n C h q k amounts after marks

-- the amounts after the updates that q must see
pub record IsStart (n : ℕ) (C : ℕ → ℤ → ℕ) (h : Schedule) (q worth k : ℕ) (amounts : ℕ → Amount) : Type 0 where
  pub seen : k ≡ length (must h q)
  pub under : (x : ℕ) → x < n → (amounts x).amount ≤ C x (left_by_all h q k x)
  pub owed : (x : ℕ) → x < n → (amounts x).owed ≡ true → 0 < (amounts x).loan
  pub sum : worth + total_loans n amounts ≡ total_amounts n amounts

-- Three laws: the amounts at the start carry the worth; each update preserves this; at the end it shows the bound.
abbrev pub LawOfStart : Type 0
LawOfStart = (d : DistanceFunction) (h : Schedule) (q n : ℕ) (C : ℕ → ℤ → ℕ) (worth k : ℕ) (amounts : ℕ → Amount) (marks : List Bool) (S : ℕ → Bool)
    → IsLegal d h → IsStart n C h q worth k amounts → IsClosed h q S → Carries n C h q worth k amounts marks S

abbrev pub LawOfUpdates : Type 0
LawOfUpdates = (d : DistanceFunction) (h : Schedule) (q n : ℕ) (C : ℕ → ℤ → ℕ) (worth k : ℕ) (amounts after : ℕ → Amount) (seed : Bool) (marks marked : List Bool) (S : ℕ → Bool)
    → IsLegal d h → k < length (updates_committed_before h q) → IsStep n C h q k amounts after seed marks marked
    → IsClosed h q S → (seed ≡ true → S (nth (updates_committed_before h q) k) ≡ true)
    → Carries n C h q worth k amounts marks S → Carries n C h q worth (k + 1) after marked S

abbrev pub LawOfEnd : Type 0
LawOfEnd = (h : Schedule) (q n : ℕ) (C : ℕ → ℤ → ℕ) (worth : ℕ) (amounts : ℕ → Amount) (seeds marks : List Bool)
    → ((S : ℕ → Bool) → IsClosed h q S → HasMarked h q seeds S → Carries n C h q worth (length (updates_committed_before h q)) amounts marks S)
    → Shows n C h q worth seeds marks

-- A marked set that is closed and forced, and whose cost is a lower bound for all closed sets, is the smallest set of
-- least cost. Costs here are those of the query plus a constant.
abbrev pub LawOfSet : Type 0
LawOfSet = (d : DistanceFunction) (h : Schedule) (q n : ℕ) (C : ℕ → ℤ → ℕ) (extra worth : ℕ) (marks : List Bool)
    → ((S : ℕ → Bool) → cost_by n C h q S ≡ extra + cost d h q S)
    → ((S : ℕ → Bool) → IsClosed h q S → worth ≤ cost_by n C h q S)
    → AreForced n C h q worth marks
    → IsClosed h q (among_marked (updates_committed_before h q) marks)
    → cost_by n C h q (among_marked (updates_committed_before h q) marks) ≡ worth
    → IsSmallestLeastSet d h q (among_marked (updates_committed_before h q) marks)
    × (worth ≡ extra + cost d h q (among_marked (updates_committed_before h q) marks))
