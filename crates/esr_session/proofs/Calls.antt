-- Retried calls.
use Rattle.std.proofs.Common.{◌≡◌, ◌∙◌, ℕ, ◌+◌, true, List, [], ◌∷◌, ◌++◌, All, Result, Ok, Err, IfErr, ℤ, length, length-append, append_assoc, ap, arith, false, get_or, subst, sym, ◌<◌}
use Rattle.std.proofs.lemmas.List.Elements.{All-push}
use Rattle.esr_history.specs.Machine.{DistanceFunction}
use Rattle.esr_history.specs.declared.event.Event.{Event}
use Rattle.std.proofs.lemmas.List.{get_or_append_left}
use Rattle.esr_session.specs.Receipts.{IsReceipt, AreBlocked, BlockedOnlyLast, is_blocked, Receipt}

pub blocked_more : (d : DistanceFunction) (opening : List ℤ) (weights : List ℕ) (event : Event) (rs : List Receipt) (r : Receipt)
    → AreBlocked d opening weights event rs → r.event ≡ event → IsReceipt d opening weights r → is_blocked r.reply ≡ true → AreBlocked d opening weights event (rs ++ r ∷ [])
blocked_more d opening weights event rs r all same known blocked =
    All-push (λ (s : Receipt). (s.event ≡ event) × IsReceipt d opening weights s × (is_blocked s.reply ≡ true)) rs r all (same, known, blocked)

pub if_err : {T E : Type 0} (r : Result T E) (P : Type 0) → P → IfErr r (λ _. P)
if_err (Ok x) P p = tt
if_err (Err e) P p = p

-- one more call after these
pub one_more : (P : Receipt → Type 0) (old now new : List Receipt) (n : ℕ) (r : Receipt)
    → (more : List Receipt) × (now ≡ old ++ more) × (length more ≡ n) × All P more → new ≡ now ++ r ∷ [] → P r
    → (more : List Receipt) × (new ≡ old ++ more) × (length more ≡ n + 1) × All P more
one_more P old now new n r so_far grown known =
    let more = so_far.0 in (
      more ++ r ∷ [],
      grown ∙ ap (λ (rs : List Receipt). rs ++ r ∷ []) so_far.1 ∙ append_assoc old more (r ∷ []),
      omega (arith, length-append more (r ∷ []), so_far.2),
      All-push P more r so_far.3 known,
    )

-- none of these is blocked
abbrev pub AreFree : List Receipt → Type 0
AreFree rs = All (λ r. is_blocked r.reply ≡ false) rs

pub free_so_far : (old now : List Receipt) (n : ℕ) → (more : List Receipt) × (now ≡ old ++ more) × (length more ≡ n) × AreFree more
    → (more : List Receipt) × (now ≡ old ++ more) × BlockedOnlyLast more
free_so_far old now n so_far = (so_far.0, so_far.1, λ i d lt. so_far.3 i d (omega (arith, lt)))

pub free_but_last : (old now new : List Receipt) (n : ℕ) (r : Receipt)
    → (more : List Receipt) × (now ≡ old ++ more) × (length more ≡ n) × AreFree more → new ≡ now ++ r ∷ []
    → (more : List Receipt) × (new ≡ old ++ more) × BlockedOnlyLast more
free_but_last old now new n r so_far grown =
    let more = so_far.0 in (
      more ++ r ∷ [],
      grown ∙ ap (λ (rs : List Receipt). rs ++ r ∷ []) so_far.1 ∙ append_assoc old more (r ∷ []),
      λ i d lt.
          let at : i < length more = omega (arith, length-append more (r ∷ []), lt) in
          subst (λ (s : Receipt). is_blocked s.reply ≡ false) (sym (get_or_append_left more (r ∷ []) d i at)) (so_far.3 i d at),
    )
