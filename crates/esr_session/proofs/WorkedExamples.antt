-- An example of a refused close: one call was executed, and no session was returned.
use Rattle.std.proofs.Common.{ℕ, ℤ, pos, List, [], ◌∷◌, refl, arith}
use Rattle.esr_items.specs.Weights.{weighted}
use Rattle.esr_history.specs.declared.event.Event.TheVariants.{BeginUpdate}
use Rattle.esr_history.specs.declared.event.Reply.TheVariants.{Begun}
use Rattle.esr_history.specs.declared.event.Entry.{Entry}
use Rattle.esr_session.specs.declared.receipt.CloseError.TheVariants.{SessionMissing}
use Rattle.esr_session.specs.Engine.{IsRefusal}

abbrev begun : Entry
begun = record { event = BeginUpdate 0; reply = Begun (record { 0 = 1 }) }

none_of_one : IsRefusal weighted (pos 0 ∷ []) (1 ∷ []) [] (SessionMissing 0 1)
none_of_one = record {
  history = record { opening = pos 0 ∷ []; weights = 1 ∷ []; entries = begun ∷ [] };
  legal = (refl, tt);
  opening_is = refl;
  weights_are = refl;
  upper_bound = omega arith;
  verdict = (refl, refl, omega arith);
}

-- the two numbers are not reported in the wrong order
not_one_of_none : (opening : List ℤ) (weights : List ℕ) → ¬ IsRefusal weighted opening weights [] (SessionMissing 1 0)
not_one_of_none opening weights refused = absurd (omega (arith, refused.verdict.2))
