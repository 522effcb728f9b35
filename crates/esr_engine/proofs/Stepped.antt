-- An engine whose machine has executed an event still satisfies its invariant, whichever call executed it.
use Rattle.std.proofs.Common.{◌≡◌, ◌<◌, ◌≤◌, ◌∙◌, ◌+◌, ℕ, List, All, ap, sym, subst, arith, true, false, length}
use Rattle.esr_base.specs.declared.limits.TheConstants.{MAX_ENTRIES, MAX_ITEMS}
use Rattle.esr_items.specs.Weights.{IsWeight, weighted}
use Rattle.esr_history.specs.declared.event.Event.{Event}
use Rattle.esr_history.specs.declared.event.Reply.{Reply}
use Rattle.esr_history.specs.Machine.{IsLegal, Schedule, accepted_in, extended, reply_to}
use Rattle.esr_history.proofs.LegalWellFormed.{legal_orderly}
use Rattle.esr_order.specs.Index.{Indexed, IsIndexOf}
use Rattle.esr_engine.specs.Capacity.{active_after, active_count, is_end, is_full, taken}
use Rattle.esr_engine.proofs.Active.{Counted, counted, capacity_after}
use Rattle.esr_engine.proofs.Ends.{index_later}

module _ (h : Schedule) (legal : IsLegal weighted h) (e : Event) (r : Reply) (is : r ≡ reply_to weighted h e) (active : ℕ) (count : active ≡ active_count (accepted_in h)) where
  count_of : Counted h e r
  count_of = subst (Counted h e) (sym is) (counted weighted h (legal_orderly weighted h legal) e)

  -- if a reply is an end, some transaction was active
  pub some_active : is_end r ≡ true → 0 < active
  some_active ends = let some : 0 < active_count (accepted_in h) = count_of.some ends in omega (arith, some, count)

  -- the count follows from the reply, and there is capacity for the ends of the transactions active then
  pub count_after : (g : Schedule) → g ≡ extended h e r → (after : ℕ) → after ≡ active_after active r → after ≡ active_count (accepted_in g)
  count_after g added after by_reply =
      by_reply ∙ (ap (λ n. active_after n r) count ∙ (sym count_of.count ∙ sym (ap (λ (k : Schedule). active_count (accepted_in k)) added)))

  pub capacity_kept : length h.entries + active ≤ MAX_ENTRIES → is_full h e ≡ false → (g : Schedule) → g ≡ extended h e r → (after : ℕ) → after ≡ active_after active r
      → length g.entries + after ≤ MAX_ENTRIES
  capacity_kept fits free g added after by_reply =
      let upper_bound : taken h ≤ 1000000 = omega (arith, count, fits) in
      let left : length (extended h e r).entries + active_after (active_count (accepted_in h)) r ≤ 1000000 =
      subst (λ (reply : Reply). length (extended h e reply).entries + active_after (active_count (accepted_in h)) reply ≤ 1000000) (sym is) (capacity_after weighted h (legal_orderly weighted h legal) e free upper_bound) in
      let grown : length g.entries ≡ length (extended h e r).entries = ap (λ (k : Schedule). length k.entries) added in
      let same : after ≡ active_after (active_count (accepted_in h)) r = by_reply ∙ ap (λ n. active_after n r) count in
      omega (arith, left, grown, same)

-- the invariant of an engine, by its parts
abbrev pub IsEngine : Schedule → List ℕ → ℕ → Indexed → Type 0
IsEngine h weights active index =
    (weights ≡ h.weights) × (length weights ≤ MAX_ITEMS) × All IsWeight weights × (active ≡ active_count (accepted_in h))
    × (length h.entries + active ≤ MAX_ENTRIES) × IsIndexOf h.entries index

pub stepped : (h : Schedule) → IsLegal weighted h → (e : Event) (r : Reply) → r ≡ reply_to weighted h e → is_full h e ≡ false
    → (weights : List ℕ) (active : ℕ) (index : Indexed) → IsEngine h weights active index
    → (g : Schedule) → g ≡ extended h e r → (after : ℕ) → after ≡ active_after active r → IsEngine g weights after index
stepped h legal e r is free weights active index engine g added after by_reply = (
  engine.0 ∙ sym (ap (λ (k : Schedule). k.weights) added),
  engine.1,
  engine.2,
  count_after h legal e r is active engine.3 g added after by_reply,
  capacity_kept h legal e r is active engine.3 engine.4 free g added after by_reply,
  subst (λ (k : Schedule). IsIndexOf k.entries index) (sym added) (index_later h.entries _ index engine.5),
)
