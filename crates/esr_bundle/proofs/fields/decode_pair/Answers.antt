use Rattle.std.proofs.Common.{◌≡◌, ◌≤◌, ◌<◌, None, List, ◌∷◌, length, refl, sym, arith}
use Rattle.serde_json.specs.declared.value.Value.{Value}
use Rattle.serde_json.specs.View.{items_view}
use Rattle.esr_bundle.specs.Fields.{two_of}
use Rattle.esr_bundle.proofs.fields.decode_pair.Goals as goal

two_of_short : (vs : List Value) → length vs < 2 → two_of (items_view vs) ≡ None
two_of_short (a ∷ b ∷ vs) h = absurd (omega arith)
two_of_short _ h = refl

two_of_long : (vs : List Value) → 3 ≤ length vs → two_of (items_view vs) ≡ None
two_of_long (a ∷ b ∷ d ∷ vs) h = refl
two_of_long _ h = absurd (omega arith)

pub returns-in_default : goal.returns-in_default
returns-in_default c = rw (← c.in_ok-items.ensures) (sym (two_of_short c.in_ok-items.items.now.items (omega (arith, c.as_slice.ensures.value, c.in_default.len_below))))

pub returns-in_default-2 : goal.returns-in_default-2
returns-in_default-2 c = rw (← c.in_ok-items.ensures) (sym (two_of_long c.in_ok-items.items.now.items (omega (arith, c.as_slice.ensures.value))))
