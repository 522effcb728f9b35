-- The effect of one more accepted event on the active transactions and on the held locks.
use Rattle.std.proofs.Common.{◌≡◌, ℕ, suc, ◌+◌, ◌<◌, ◌≤◌, List, [], ◌∷◌, ◌++◌, length, Bool, true, false, not, ◌&&◌, ◌||◌, ◌==◌, refl, sym, ◌∙◌, ap, arith, inl, inr, Option, None, Some, is_some, unwrap_or, slice_get, option_map}
use Rattle.std.specs.List.{list_any, range_with_len}
use Rattle.std.proofs.lemmas.Bool.{cases_Bool, false≢true, and_parts, and_right, or_right, or_left, or_cases, false_from_ne_true, not-true}
use Rattle.esr_core.specs.Types.{TxnId, Event, BeginUpdate, BeginQuery, Read, Write, Commit, Abort}
use Rattle.esr_history.specs.Events.{BeginRecord, begin_record_of, begin_records, begin_record, txn_numbers, limit_of, commits, aborts, reads, reads_any, writes, is_committed, is_aborted, is_active, is_begun, is_query, is_update}
use Rattle.esr_history.proofs.Lists.{any_push, any_push_no, filter_map_push_none, filter_map_push_some, slice_get_push_last}
use Rattle.esr_history.specs.WellFormed.{IsWellFormed, names}
use Rattle.esr_history.proofs.WellFormed.{begin_record-unchanged, begin_record-push, is_begun-push}
use Rattle.esr_history.proofs.LegalWellFormed.{begun_in_range}

-- an event that begins and ends nothing does not change which transactions are active
pub is_active-unchanged : (events : List Event) (e : Event) → begin_record_of e ≡ None → ((t : ℕ) → commits t e ≡ false) → ((t : ℕ) → aborts t e ≡ false) → (t : ℕ) → is_active (events ++ e ∷ []) t ≡ is_active events t
is_active-unchanged events e begins c a t = rw (begin_record-unchanged events e t begins, any_push_no (commits t) events e (c t), any_push_no (aborts t) events e (a t)) refl

-- a commit or an abort ends its transaction, and no other
end_cases : (begun committed aborted ends : Bool) → ((begun && (not (committed || ends) && not aborted)) ≡ ((begun && (not committed && not aborted)) && not ends)) × ((begun && (not committed && not (aborted || ends))) ≡ ((begun && (not committed && not aborted)) && not ends))
end_cases false c a e = (refl, refl)
end_cases true true a e = (refl, refl)
end_cases true false true true = (refl, refl)
end_cases true false true false = (refl, refl)
end_cases true false false true = (refl, refl)
end_cases true false false false = (refl, refl)

pub active-commit : (events : List Event) (t : TxnId) (u : ℕ) → is_active (events ++ Commit t ∷ []) u ≡ (is_active events u && not (t.0 == u))
active-commit events t u = rw (begin_record-unchanged events (Commit t) u refl, any_push (commits u) events (Commit t), any_push_no (aborts u) events (Commit t) refl) (end_cases (is_begun events u) (is_committed events u) (is_aborted events u) (t.0 == u)).0

pub active-abort : (events : List Event) (t : TxnId) (u : ℕ) → is_active (events ++ Abort t ∷ []) u ≡ (is_active events u && not (t.0 == u))
active-abort events t u = rw (begin_record-unchanged events (Abort t) u refl, any_push (aborts u) events (Abort t), any_push_no (commits u) events (Abort t) refl) (end_cases (is_begun events u) (is_committed events u) (is_aborted events u) (t.0 == u)).1

pub any_implies : (p q : Event → Bool) → ((e : Event) → p e ≡ true → q e ≡ true) → (es : List Event) → list_any p es ≡ true → list_any q es ≡ true
any_implies p q is [] none = absurd (false≢true none)
any_implies p q is (e ∷ es) some =
    elim (or_cases (p e) (list_any p es) some) [
      | inl here ↦ or_left (q e) (list_any q es) (is e here)
      | inr later ↦ or_right (q e) (list_any q es) (any_implies p q is es later)
    ]

pub read_names_reader : (t x : ℕ) (e : Event) → reads t x e ≡ true → names t e ≡ true
read_names_reader t x (Read u y) is = (and_parts (u.0 == t) (y.0 == x) is).0
read_names_reader t x _ is = absurd (false≢true is)

pub write_names_writer : (t x : ℕ) (e : Event) → writes t x e ≡ true → names t e ≡ true
write_names_writer t x (Write u y v) is = (and_parts (u.0 == t) (y.0 == x) is).0
write_names_writer t x _ is = absurd (false≢true is)

pub commits_name : (t : ℕ) (e : Event) → commits t e ≡ true → names t e ≡ true
commits_name t (Commit u) is = is
commits_name t _ is = absurd (false≢true is)

pub is_active-unchanged_by_non_end : (events : List Event) (e : Event) (u : ℕ) → ((t : ℕ) → commits t e ≡ false) → ((t : ℕ) → aborts t e ≡ false) → is_begun events u ≡ true → is_active (events ++ e ∷ []) u ≡ is_active events u
is_active-unchanged_by_non_end events e u c a begun = rw (is_begun-push events e u begun, begun, any_push_no (commits u) events e (c u), any_push_no (aborts u) events e (a u)) refl

-- a begin leaves the locks
pub held-begin : (events : List Event) (o : IsWellFormed events) (e : Event) (p : Event → Bool) (u : ℕ) → ((t : ℕ) → commits t e ≡ false) → ((t : ℕ) → aborts t e ≡ false) → p e ≡ false → ((g : Event) → p g ≡ true → names u g ≡ true)
    → (is_active (events ++ e ∷ []) u && list_any p (events ++ e ∷ [])) ≡ (is_active events u && list_any p events)
held-begin events o e p u c a fails names_it =
    ap (λ b. is_active (events ++ e ∷ []) u && b) (any_push_no p events e fails)
    ∙ elim (cases_Bool (list_any p events)) [
      | inl did ↦ ap (λ b. b && list_any p events) (is_active-unchanged_by_non_end events e u c a (o.begun u (any_implies p (names u) names_it events did)))
      | inr not_done ↦ and_right (is_active (events ++ e ∷ []) u) (list_any p events) not_done ∙ sym (and_right (is_active events u) (list_any p events) not_done)
    ]

-- an event that begins a transaction
pub record IsBegin (e : Event) (b : BeginRecord) : Type 0 where
  pub begins : begin_record_of e ≡ Some b
  pub commits_none : (t : ℕ) → commits t e ≡ false
  pub aborts_none : (t : ℕ) → aborts t e ≡ false
  pub reads_none : (t x : ℕ) → reads t x e ≡ false
  pub reads_any_none : (t : ℕ) → reads_any t e ≡ false
  pub writes_none : (t x : ℕ) → writes t x e ≡ false
  pub names_none : (t : ℕ) → names t e ≡ false

pub begin_update : (limit : ℕ) → IsBegin (BeginUpdate limit) (record { query = false; strict = false; limit = limit })
begin_update limit = record { begins = refl; commits_none = λ t. refl; aborts_none = λ t. refl; reads_none = λ t x. refl; reads_any_none = λ t. refl; writes_none = λ t x. refl; names_none = λ t. refl }

pub begin_query : (limit : ℕ) (strict : Bool) → IsBegin (BeginQuery limit strict) (record { query = true; strict = strict; limit = limit })
begin_query limit strict = record { begins = refl; commits_none = λ t. refl; aborts_none = λ t. refl; reads_none = λ t x. refl; reads_any_none = λ t. refl; writes_none = λ t x. refl; names_none = λ t. refl }

-- an event of a transaction that has begun
pub txn_numbers-unchanged : (events : List Event) (e : Event) → begin_record_of e ≡ None → txn_numbers (events ++ e ∷ []) ≡ txn_numbers events
txn_numbers-unchanged events e none = ap (λ (bs : List BeginRecord). range_with_len 1 (length bs)) (filter_map_push_none begin_record_of events e none)

pub is_query-unchanged : (events : List Event) (e : Event) → begin_record_of e ≡ None → (t : ℕ) → is_query (events ++ e ∷ []) t ≡ is_query events t
is_query-unchanged events e none t = ap (λ (o : Option BeginRecord). unwrap_or (option_map (λ b. b.query) o) false) (begin_record-unchanged events e t none)

pub is_update-unchanged : (events : List Event) (e : Event) → begin_record_of e ≡ None → (t : ℕ) → is_update (events ++ e ∷ []) t ≡ is_update events t
is_update-unchanged events e none t = ap (λ (o : Option BeginRecord). unwrap_or (option_map (λ b. not b.query) o) false) (begin_record-unchanged events e t none)

pub limit-unchanged : (events : List Event) (e : Event) → begin_record_of e ≡ None → (t : ℕ) → limit_of (events ++ e ∷ []) t ≡ limit_of events t
limit-unchanged events e none t = ap (λ (o : Option BeginRecord). unwrap_or (option_map (λ b. b.limit) o) 0) (begin_record-unchanged events e t none)

pub update_or_query : (events : List Event) (t : ℕ) → is_update events t ≡ true → is_query events t ≡ false
update_or_query events t is = at (begin_record events t) is
  where
    at : (o : Option BeginRecord) → unwrap_or (option_map (λ b. not b.query) o) false ≡ true → unwrap_or (option_map (λ b. b.query) o) false ≡ false
    at None is' = absurd (false≢true is')
    at (Some b) is' = not-true b.query is'

-- the beginnings after a begin
pub begin_records-begin : (events : List Event) (e : Event) (b : BeginRecord) → IsBegin e b → begin_records (events ++ e ∷ []) ≡ begin_records events ++ b ∷ []
begin_records-begin events e b is = filter_map_push_some begin_record_of events e b is.begins

-- a transaction that has begun stays as it began
pub begin_record-begin : (events : List Event) (e : Event) (t : ℕ) → is_begun events t ≡ true → begin_record (events ++ e ∷ []) t ≡ begin_record events t
begin_record-begin events e t is = at (begin_record events t) refl is
  where
    at : (o : Option BeginRecord) → begin_record events t ≡ o → is_some o ≡ true → begin_record (events ++ e ∷ []) t ≡ o
    at None none some = absurd (false≢true some)
    at (Some b) some yes_some = begin_record-push events e t b some

pub begin_record-new : (events : List Event) (e : Event) (b : BeginRecord) → IsBegin e b → begin_record (events ++ e ∷ []) (suc (length (begin_records events))) ≡ Some b
begin_record-new events e b is = ap (λ (bs : List BeginRecord). slice_get bs (length (begin_records events))) (begin_records-begin events e b is) ∙ slice_get_push_last (begin_records events) b

-- no event names the next transaction number
pub next_number_is_unused : (events : List Event) → IsWellFormed events → (p : Event → Bool) → ((e : Event) → p e ≡ true → names (suc (length (begin_records events))) e ≡ true) → list_any p events ≡ false
next_number_is_unused events o p names_it =
    false_from_ne_true (list_any p events) (λ did.
    let n : (1 ≤ suc (length (begin_records events))) × (suc (length (begin_records events)) < 1 + length (begin_records events)) = begun_in_range events (suc (length (begin_records events))) (o.begun (suc (length (begin_records events))) (any_implies p (names (suc (length (begin_records events)))) names_it events did)) in
    omega arith)
