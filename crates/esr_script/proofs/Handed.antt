-- The fault that `?` passes on: the fault itself, since a fault converts to itself.
use Rattle.std.proofs.Common.{◌≡◌, Result, Ok, Err, IsErrAnd, ap}

pub handed_on : {T E : Type 0} (r : Result T E) (e : E) → IsErrAnd r (λ f. f ≡ e) → r ≡ Err e
handed_on (Ok value) e h = absurd h
handed_on (Err f) e h = ap (λ x. Err x) h
