-- Two histories, one after the other.
use Rattle.std.proofs.Common.{◌≡◌, ℕ, ℤ, ◌<◌, ◌∙◌, ap, refl, sym, List, [], ◌∷◌, length, map, flat_map, pos, ◌||◌, arith}
use Rattle.std.specs.List.{list_any, range_with_len}
use Rattle.std.proofs.lemmas.List.{get_or-map, length-map, same_lists}
use Rattle.std.proofs.lemmas.List.FromFn.{get_or-map-range_with_len, length-map-range_with_len}
use Rattle.esr_items.specs.Values.{value_at, both_versions}
use Rattle.esr_core.specs.Types.{Versions, Event}
use Rattle.esr_history.specs.Events.{txn_numbers, is_active, last_value, committed_value}
use Rattle.esr_history.specs.Machine.{DistanceFunction, Schedule, IsLegal}
use Rattle.esr_history.specs.Serial.{committed_updates, state, values_by}
use Rattle.esr_history.proofs.Laws.{legal_serializable}
use Rattle.esr_history.specs.ItemLocks.{ItemLocks}
use Rattle.esr_ledgers.specs.declared.account.Account.{Account}
use Rattle.esr_core.specs.Represented.{Represents, transaction_after, transactions_after, Transaction}
use Rattle.esr_core.specs.Renewed.{committed_values, state_over, AreSerializableAsOne}

-- the rows of active transactions
active_in : (events : List Event) (ts : List ℕ) → list_any (λ (r : Transaction). r.active) (map (transaction_after events) ts) ≡ list_any (is_active events) ts
active_in events [] = refl
active_in events (t ∷ ts) = ap (λ b. is_active events t || b) (active_in events ts)

pub active_rows : (events : List Event) → list_any (λ (r : Transaction). r.active) (transactions_after events) ≡ list_any (is_active events) (txn_numbers events)
active_rows events = active_in events (txn_numbers events)

-- the committed values of a state, in their order
pub tied_values : (d : ℕ → ℤ → ℤ → ℕ) (opening : List ℤ) (events : List Event) (items : List Versions) (table : List Transaction) (locks : List ItemLocks) (accounts : List Account)
    → Represents d opening events items table locks accounts → map (λ (w : Versions). w.committed) items ≡ map (committed_value opening events) (range_with_len 0 (length opening))
tied_values d opening events items table locks accounts rep =
    let f : ℕ → ℤ = committed_value opening events in
    let long : length (map (λ (w : Versions). w.committed) items) ≡ length opening = length-map items (λ (w : Versions). w.committed) ∙ rep.count in
    same_lists (map (λ (w : Versions). w.committed) items) (map f (range_with_len 0 (length opening))) (long ∙ sym (length-map-range_with_len f 0 (length opening))) (λ x e l.
    let in_opening : x < length opening = rw (← long) l in
    get_or-map (λ (w : Versions). w.committed) items x (both_versions (pos 0)) e (rw rep.count in_opening)
    ∙ (rep.committed x in_opening ∙ sym (get_or-map-range_with_len f 0 (length opening) x x e in_opening (omega arith))))

module _ (d : DistanceFunction) (h k : Schedule) (first : IsLegal d h) (second : IsLegal d k) (opens : k.opening ≡ committed_values h) where
  -- the second opens as the first leaves its items
  starts : (x : ℕ) → x < length h.opening → value_at k.opening x ≡ state h (committed_updates h) x
  starts x l = grind (arith, get_or-map-range_with_len, pos 0, legal_serializable d h first)

  continues : (vs : List ℕ) (x : ℕ) → x < length h.opening → state k vs x ≡ state_over h (committed_updates h) k vs x
  continues vs x l = ap (λ v. last_value v (flat_map (values_by k x) vs)) (starts x l)

  pub as_one : AreSerializableAsOne h k
  as_one = grind (arith, legal_serializable d k second, legal_serializable d h first, continues)
