-- The last places of transactions, entry after entry; and the cycles of waits.
use Rattle.std.proofs.Common.{◌≡◌, ℕ, ◌<◌, ◌≤◌, List, [], ◌∷◌, ◌++◌, length, set, get_or, get_or-set_other, get_or-set_same, refl, sym, ◌∙◌, ap, subst, arith, inl, inr, Option, None, Some, slice_get, map, All, true, false}
use Rattle.std.specs.List.{AllByRecursion}
use Rattle.std.proofs.Math.ListN.{length-set}
use Rattle.std.proofs.lemmas.Bool.{cases_eq, eq-eqb, ne_eqb}
use Rattle.std.proofs.lemmas.List.Elements.{All-append, All-from_recursion}
use Rattle.std.proofs.lemmas.Option.{slice_get-get_or}
use Rattle.esr_history.specs.declared.event.Entry.{Entry}
use Rattle.esr_history.specs.BackLinks.{is_some_eq, last_place, txn_in}
use Rattle.esr_history.proofs.Linking.{last_same, last_here}
use Rattle.esr_why.specs.declared.waits.Wait.{Wait}
use Rattle.esr_why.specs.Waits.{AreLastEntries, IsWaiting}

pub last_entries_none : (es : List Entry) (e : Entry) (places : List (Option ℕ)) → None ≡ txn_in e → AreLastEntries es places → AreLastEntries (es ++ e ∷ []) places
last_entries_none es e places none last_entries t l = last_entries t l ∙ ap Some (sym (last_same txn_in t es e (ap (λ o. is_some_eq o t) (sym none))))

other_than : (es : List Entry) (e : Entry) (u t : ℕ) → Some u ≡ txn_in e → (u ≡ t → ⊥) → last_place txn_in t es ≡ last_place txn_in t (es ++ e ∷ [])
other_than es e u t some other = sym (last_same txn_in t es e (ap (λ o. is_some_eq o t) (sym some) ∙ ne_eqb u t other))

pub last_entries_past : (es : List Entry) (e : Entry) (places : List (Option ℕ)) (u : ℕ) → Some u ≡ txn_in e → length places ≤ u → AreLastEntries es places → AreLastEntries (es ++ e ∷ []) places
last_entries_past es e places u some past last_entries t l =
    let other : u ≡ t → ⊥ = λ (same : u ≡ t). omega (arith, same, past, l) in
    last_entries t l ∙ ap Some (other_than es e u t some other)

pub last_entries_some : (es : List Entry) (e : Entry) (places : List (Option ℕ)) (u place : ℕ) → Some u ≡ txn_in e → u < length places → place ≡ length es → AreLastEntries es places → AreLastEntries (es ++ e ∷ []) (set places u (Some place))
last_entries_some es e places u place some inside at last_entries t l =
    elim (cases_eq u t) [
      | inl same ↦
          let here : last_place txn_in t (es ++ e ∷ []) ≡ Some (length es) = last_here txn_in t es e (ap (λ o. is_some_eq o t) (sym some) ∙ eq-eqb u t same) in
          slice_get-get_or (set places u (Some place)) t None l
          ∙ ap Some (ap (λ k. get_or (set places u (Some place)) k None) (sym same) ∙ (get_or-set_same places u (Some place) None inside ∙ (ap Some at ∙ sym here)))
      | inr other ↦
          let l' : t < length places = subst (λ n. t < n) (length-set places u (Some place)) l in
          slice_get-get_or (set places u (Some place)) t None l
          ∙ (ap Some (get_or-set_other places u t (Some place) None (λ (f : t ≡ u). other (sym f)))
          ∙ (sym (slice_get-get_or places t None l') ∙ (last_entries t l' ∙ ap Some (other_than es e u t some other))))
    ]

-- one more that waits
pub more_waits : (es : List Entry) (ws new : List Wait) (w : Wait) → new ≡ ws ++ w ∷ [] → All (IsWaiting es) ws → IsWaiting es w → All (IsWaiting es) new
more_waits es ws new w is all one =
    subst (All (IsWaiting es)) (sym is) (All-append (IsWaiting es) ws (w ∷ []) all (All-from_recursion (IsWaiting es) (w ∷ []) (one, tt)))
