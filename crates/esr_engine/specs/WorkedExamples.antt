-- Rooms of small histories.
use Rattle.std.specs.Prelude.{◌≡◌, refl, false, [], ◌∷◌, pos}
use Rattle.esr_history.specs.declared.event.Event.TheVariants.{BeginUpdate, Write, Commit}
use Rattle.esr_history.specs.declared.event.Reply.TheVariants.{Begun, Wrote}
use Rattle.esr_history.specs.Machine.{Schedule}
use Rattle.esr_engine.specs.Capacity.{taken, transaction_count, is_full}

-- an update has begun and written: three places are taken, one of them by its end
abbrev pub one_active : Schedule
one_active = record {
  opening = pos 5 ∷ [];
  weights = [];
  entries =
      record { event = BeginUpdate 0; reply = Begun (record { 0 = 1 }) }
      ∷ record { event = Write (record { 0 = 1 }) (record { 0 = 0 }) (pos 6); reply = Wrote } ∷ [];
}

pub three_taken : taken one_active ≡ 3
three_taken = refl

pub one_begun : transaction_count one_active ≡ 1
one_begun = refl

pub not_full : is_full one_active (BeginUpdate 0) ≡ false
not_full = refl

pub its_end_fits : is_full one_active (Commit (record { 0 = 1 })) ≡ false
its_end_fits = refl
