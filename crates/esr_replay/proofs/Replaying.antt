-- The steps of a replay, from prefix to prefix of its history.
use Rattle.std.proofs.Common.{◌≡◌, ℕ, zero, suc, ◌+◌, true, false, List, [], ◌∷◌, ◌++◌, take, drop, refl, sym, ◌∙◌, ap, subst, arith, Option, None, Some, IfSome, slice_get}
use Rattle.std.proofs.lemmas.Option.{same_Some}
use Rattle.esr_base.specs.declared.numbers.TxnId.{TxnId}
use Rattle.esr_history.specs.declared.event.Event.{Event}
use Rattle.esr_history.specs.declared.event.Reply.{Reply}
use Rattle.esr_history.specs.declared.event.Reply.TheVariants.{Begun, Value, Wrote, Committed, Aborted, Refused}
use Rattle.esr_history.specs.declared.event.Refusal.{Refusal}
use Rattle.esr_history.specs.declared.event.Entry.{Entry}
use Rattle.esr_history.specs.Events.{is_refusal}
use Rattle.esr_history.specs.Imports.{AreDue}
use Rattle.esr_history.specs.Machine.{DistanceFunction, Schedule, IsLegal, IsLegalAfter, accepted_in, charges, charges_in, value_distance, empty_schedule, extended, import_in, reply_to}
use Rattle.esr_history.proofs.Charges.{import-push}
use Rattle.esr_history.proofs.Linking.{accepted_push, accepted_refused}
use Rattle.esr_history.proofs.Onward.{legal_parts}
use Rattle.esr_replay.specs.Replays.{ImportsGrowBy, until}

-- a list in three parts: before the entry at a place, the entry, and after it
parts_at : (es : List Entry) (i : ℕ) (e : Entry) → slice_get es i ≡ Some e → es ≡ take i es ++ e ∷ drop (suc i) es
parts_at [] i e is = absurd (cc)
parts_at (x ∷ es) zero e is = ap (λ y. y ∷ es) (same_Some x e is)
parts_at (x ∷ es) (suc i) e is = ap (λ l. x ∷ l) (parts_at es i e is)

one_more : (es : List Entry) (i : ℕ) (e : Entry) → slice_get es i ≡ Some e → take (suc i) es ≡ take i es ++ e ∷ []
one_more [] i e is = absurd (cc)
one_more (x ∷ es) zero e is = ap (λ y. y ∷ []) (same_Some x e is)
one_more (x ∷ es) (suc i) e is = ap (λ l. x ∷ l) (one_more es i e is)

-- the reply of each entry is the machine's, after the entries before it
pub reply_at : (d : DistanceFunction) (h : Schedule) (i : ℕ) (e : Entry) → IsLegal d h → slice_get h.entries i ≡ Some e → e.reply ≡ reply_to d (until i h) e.event
reply_at d h i e legal is =
    (legal_parts d (empty_schedule h) (take i h.entries) (e ∷ drop (suc i) h.entries) (subst (IsLegalAfter d (empty_schedule h)) (parts_at h.entries i e is) legal)).1.0

pub reply_next : (d : DistanceFunction) (h : Schedule) (i : ℕ) → IsLegal d h → (o : Option Entry) → o ≡ slice_get h.entries i → IfSome o (λ e. e.reply ≡ reply_to d (until i h) e.event)
reply_next d h i legal None is = tt
reply_next d h i legal (Some e) is = reply_at d h i e legal (sym is)

-- one entry more
pub until_next : (h : Schedule) (i : ℕ) (e : Entry) → slice_get h.entries i ≡ Some e → extended (until i h) e.event e.reply ≡ until (i + 1) h
until_next h i e is =
    let next : i + 1 ≡ suc i = omega arith in
    ap (λ (es : List Entry). record h { entries = es }) (sym (one_more h.entries i e is)) ∙ ap (λ n. until n h) (sym next)

-- a reply that is not a refusal
pub not_refused : (r : Reply) → ((w : Refusal) → r ≡ Refused w → ⊥) → is_refusal r ≡ false
not_refused (Refused w) isnt = absurd (isnt w refl)
not_refused (Begun t) isnt = refl
not_refused (Value v) isnt = refl
not_refused Wrote isnt = refl
not_refused Committed isnt = refl
not_refused Aborted isnt = refl

-- ---- imports

module _ (d : DistanceFunction) (h : Schedule) (e : Event) (r : Reply) where
  pub grow_accepted : (charges : List (TxnId × ℕ)) → is_refusal r ≡ false → AreDue d h e r charges → ImportsGrowBy d h (extended h e r) charges
  grow_accepted cs ok due q =
      ap (λ (es : List Event). import_in (charges (value_distance d h) h.opening es) q) (accepted_push h.entries (record { event = e; reply = r }) ok)
      ∙ (import-push (value_distance d h) h.opening (accepted_in h) e q ∙ ap (λ n. import_in (charges_in d h) q + n) (sym (due ok q)))

  pub grow_refused : is_refusal r ≡ true → ImportsGrowBy d h (extended h e r) []
  grow_refused refused q =
      ap (λ (es : List Event). import_in (charges (value_distance d h) h.opening es) q) (accepted_refused h.entries (record { event = e; reply = r }) refused)
      ∙ omega arith

-- between equal histories, by equal charges
pub grow_is : (d : DistanceFunction) (a b x y : Schedule) (cs es : List (TxnId × ℕ)) → a ≡ x → b ≡ y → cs ≡ es → ImportsGrowBy d a b cs → ImportsGrowBy d x y es
grow_is d a b x y cs es p q r grow =
    subst (λ (l : List (TxnId × ℕ)). ImportsGrowBy d x y l) r (subst (λ (s : Schedule). ImportsGrowBy d x s cs) q (subst (λ (s : Schedule). ImportsGrowBy d s b cs) p grow))
