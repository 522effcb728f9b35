-- The first reason to refuse, and the transaction that it names.
use Rattle.std.proofs.Common.{◌≡◌, Bool, true, false, List, [], ◌∷◌, refl, sym, ◌∙◌, ap, Option, None, Some, inl, inr}
use Rattle.std.specs.List.{AllByRecursion, find}
use Rattle.std.proofs.lemmas.Bool.{cases_Bool}
use Rattle.std.proofs.lemmas.Option.{same_Some}
use Rattle.esr_base.specs.declared.numbers.TxnId.{TxnId}
use Rattle.esr_history.specs.declared.event.Refusal.{Refusal}
use Rattle.esr_history.specs.declared.event.Reply.{Reply}
use Rattle.esr_history.specs.Machine.{answered, first_reason, when}
use Rattle.esr_history.specs.Refusals.{refusal_blocker}
use Rattle.esr_liveness.specs.Liveness.{blocker_in}

-- the transaction that a reason names, if it names one, has this property
abbrev pub Names : (TxnId → Type 0) → Option Refusal → Type 0
Names P r = (why : Refusal) (u : TxnId) → r ≡ Some why → refusal_blocker why ≡ Some u → P u

none_is_not_some : {A : Type 0} (x : A) → None ≡ Some x → ⊥
none_is_not_some x e = cc

pub blocked_by_reason : (P : TxnId → Type 0) (rs : List (Option Refusal)) (reply : Reply) → AllByRecursion (Names P) rs
    → blocker_in reply ≡ None → (u : TxnId) → blocker_in (answered (first_reason rs) reply) ≡ Some u → P u
blocked_by_reason P [] reply all plain u is = absurd (none_is_not_some u (sym plain ∙ is))
blocked_by_reason P (None ∷ rs) reply all plain u is = blocked_by_reason P rs reply all.1 plain u is
blocked_by_reason P (Some why ∷ rs) reply all plain u is = all.0 why u refl is

-- a reason without a blocker
pub names_none : (P : TxnId → Type 0) (b : Bool) (r : Refusal) → refusal_blocker r ≡ None → Names P (when b r)
names_none P true r plain why u is names =
    absurd (none_is_not_some u (sym plain ∙ (ap refusal_blocker (same_Some r why is) ∙ names)))
names_none P false r plain why u is names = absurd (none_is_not_some why is)

pub none_names : (P : TxnId → Type 0) → Names P None
none_names P why u is names = absurd (none_is_not_some why is)

pub find_each : {X : Type 0} (P : X → Type 0) (p : X → Bool) (xs : List X) (x : X) → AllByRecursion P xs
    → find p xs ≡ Some x → P x
find_each P p [] x all is = absurd (none_is_not_some x is)
find_each P p (y ∷ ys) x all is =
    elim (cases_Bool (p y)) [
      | inl passes ↦ let same : Some y ≡ Some x = rw passes at is in rw (← same_Some y x same) all.0
      | inr fails ↦ find_each P p ys x all.1 (rw fails at is)
    ]

pub find_fails : {X : Type 0} (p : X → Bool) (xs : List X) → ((x : X) → p x ≡ false) → find p xs ≡ None
find_fails p [] fails = refl
find_fails p (x ∷ xs) fails = rw (fails x) (find_fails p xs fails)

-- no reason has a blocker, so the reply has none
pub unblocked : (rs : List (Option Refusal)) (reply : Reply) → AllByRecursion (Names (λ u. ⊥)) rs → blocker_in reply ≡ None
    → blocker_in (answered (first_reason rs) reply) ≡ None
unblocked rs reply all plain = is_none (blocker_in (answered (first_reason rs) reply)) (blocked_by_reason (λ u. ⊥) rs reply all plain)
  where
    is_none : (o : Option TxnId) → ((u : TxnId) → o ≡ Some u → ⊥) → o ≡ None
    is_none None never = refl
    is_none (Some u) never = absurd (never u refl)
