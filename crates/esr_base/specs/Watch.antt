-- The properties of a watched reader or writer that clauses refer to.
use Rattle.std.specs.Prelude.{Bool, true, not, ◌&&◌, ◌≡◌, ◌++◌, List, ℕ, nat_eq, Result, Ok, Err}
use Rattle.esr_base.specs.declared.watched.Watched.{Watched}

-- `w.inner`, the reader or writer that is watched
abbrev pub inner : {T : Type 0} → Watched T → T
inner w = w.inner

-- whether one of its calls has failed
abbrev pub failed : {T : Type 0} → Watched T → Bool
failed w = w.failed

-- an error, or none taken of some bytes
abbrev pub took_none : {E : Type 0} → Result ℕ E → ℕ → Bool
took_none (Ok n) length = nat_eq n 0 && not (nat_eq length 0)
took_none (Err e) length = true

-- the second is a prefix of the whole
abbrev pub BeginsWith : List ℕ → List ℕ → Type 0
BeginsWith whole prefix = (rest : List ℕ) × (whole ≡ prefix ++ rest)
