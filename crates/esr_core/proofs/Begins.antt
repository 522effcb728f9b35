-- Begins of queries and of updates alike.
use Rattle.std.proofs.Common.{◌≡◌, ℕ, ℤ, ◌+◌, List, [], ◌∷◌, length, Bool, true, false, ◌&&◌, refl, None}
use Rattle.esr_core.specs.Types.{Begun, Event}
use Rattle.esr_history.specs.Events.{BeginRecord, begin_records, written}
use Rattle.esr_history.specs.Machine.{DistanceFunction, Schedule, accepted_in, due, refusal, acceptance, first_reason, limit_too_high, too_many}
use Rattle.esr_core.specs.States.{begin_event}
use Rattle.esr_core.proofs.Held.{IsBegin, begin_update, begin_query}

abbrev pub begin_record_as : Bool → ℕ → Bool → BeginRecord
begin_record_as query limit strict = record { query = query; strict = query && strict; limit = limit }

pub begin_is : (query : Bool) (limit : ℕ) (strict : Bool) → IsBegin (begin_event query limit strict) (begin_record_as query limit strict)
begin_is true limit strict = begin_query limit strict
begin_is false limit strict = begin_update limit

pub begin_due : (d : ℕ → ℤ → ℤ → ℕ) (opening : List ℤ) (events : List Event) (query : Bool) (limit : ℕ) (strict : Bool) → due d opening events (begin_event query limit strict) ≡ []
begin_due d opening events true limit strict = refl
begin_due d opening events false limit strict = refl

pub begin_writes : (query : Bool) (limit : ℕ) (strict : Bool) (x : ℕ) (k : ℕ → Bool) → written k x (begin_event query limit strict) ≡ None
begin_writes true limit strict x k = refl
begin_writes false limit strict x k = refl

pub begin_accepted : (h : Schedule) (query : Bool) (limit : ℕ) (strict : Bool) → Begun (record { 0 = length (begin_records (accepted_in h)) + 1 }) ≡ acceptance h (begin_event query limit strict)
begin_accepted h true limit strict = refl
begin_accepted h false limit strict = refl

pub begin_reason : (d : DistanceFunction) (h : Schedule) (query : Bool) (limit : ℕ) (strict : Bool) → first_reason (limit_too_high limit ∷ too_many h ∷ []) ≡ refusal d h (begin_event query limit strict)
begin_reason d h true limit strict = refl
begin_reason d h false limit strict = refl
