-- A history that carries another has at most as many entries.
use Rattle.std.proofs.Common.{◌≡◌, ◌+◌, ◌≤◌, ℕ, suc, Bool, true, false, not, cond, ◌&&◌, List, [], ◌∷◌, ◌++◌, length, refl, sym, ◌∙◌, arith, map, filter, Some, None, if◌then◌else◌, length-append}
use Rattle.std.specs.List.{filter_map, cons_option, range_with_len}
use Rattle.std.proofs.lemmas.Bool.{and_parts, true≢false}
use Rattle.std.proofs.lemmas.List.{length-map}
use Rattle.std.proofs.lemmas.List.FromFn.{length-map-range_with_len}
use Rattle.esr_core.specs.Types.{Event, BeginUpdate, BeginQuery, Read, Write, Commit, Abort, Value, Entry}
use Rattle.esr_core.specs.Carried.{active_numbers, new_number, carried_begin, carried_operation, carried_read, LawOfCarriedLength}
use Rattle.esr_history.specs.Events.{is_refusal, begin_record_of, begin_records, txn_numbers, is_active, is_query, is_update, current_value}
use Rattle.esr_history.specs.Machine.{DistanceFunction, Schedule, accepted_in}
use Rattle.esr_history.specs.ReportBounds.{is_active_query}
use Rattle.esr_history.proofs.TraceAgreement.{query_not_update}

kept_bounded : {X : Type 0} (p : X → Bool) (xs : List X) → length (filter p xs) ≤ length xs
kept_bounded p [] = omega arith
kept_bounded p (x ∷ xs) = at (p x) (kept_bounded p xs)
  where
    at : (b : Bool) → length (filter p xs) ≤ length xs → length (cond b (x ∷ filter p xs) (filter p xs)) ≤ suc (length xs)
    at true rest = omega (arith, rest)
    at false rest = omega (arith, rest)

count_if : {X : Type 0} (b : Bool) (y : X) (xs : List X) → length (cons_option (if b then Some y else None) xs) ≡ cond b 1 0 + length xs
count_if true y xs = omega arith
count_if false y xs = omega arith

range_length : (a n : ℕ) → length (range_with_len a n) ≡ n
range_length a n = sym (length-map (range_with_len a n) (λ k. k)) ∙ length-map-range_with_len (λ k. k) a n

module _ (d : DistanceFunction) (h : Schedule) where
  apart : (t : ℕ) → cond (is_update (accepted_in h) t && is_active (accepted_in h) t) 1 0 + cond (is_active_query h t) 1 0 ≤ 1
  apart t = both (is_update (accepted_in h) t && is_active (accepted_in h) t) (is_active_query h t) (λ u q.
      true≢false (sym (and_parts (is_update (accepted_in h) t) (is_active (accepted_in h) t) u).0 ∙ query_not_update (accepted_in h) t (and_parts (is_query (accepted_in h) t) (is_active (accepted_in h) t) q).0))
    where
      both : (u q : Bool) → (u ≡ true → q ≡ true → ⊥) → cond u 1 0 + cond q 1 0 ≤ 1
      both true true clash = absurd (clash refl refl)
      both true false clash = omega arith
      both false true clash = omega arith
      both false false clash = omega arith

  most_one : (u : Bool) → cond u 1 0 ≤ 1
  most_one true = omega arith
  most_one false = omega arith

  -- each accepted entry is carried at most once
  fewer : (es : List Entry) →
      length (filter_map begin_record_of (map (λ e. e.event) es))
      + (length (filter_map (λ e. carried_operation h e.reply e.event) es) + length (filter_map (carried_read h) (map (λ e. e.event) es))) ≤ length es
  fewer [] = omega arith
  fewer (e ∷ es) = at e.event (fewer es)
    where
      at : (v : Event) → length (filter_map begin_record_of (map (λ e. e.event) es))
          + (length (filter_map (λ e. carried_operation h e.reply e.event) es) + length (filter_map (carried_read h) (map (λ e. e.event) es))) ≤ length es
          → length (cons_option (begin_record_of v) (filter_map begin_record_of (map (λ e. e.event) es)))
          + (length (cons_option (carried_operation h e.reply v) (filter_map (λ e. carried_operation h e.reply e.event) es)) + length (cons_option (carried_read h v) (filter_map (carried_read h) (map (λ e. e.event) es)))) ≤ suc (length es)
      at (BeginUpdate limit) rest = omega (arith, rest)
      at (BeginQuery limit strict) rest = omega (arith, rest)
      at (Read t x) rest =
          let one = apart t.0 in
          let u = count_if (is_update (accepted_in h) t.0 && is_active (accepted_in h) t.0) (record { event = Read (new_number h t.0) x; reply = e.reply }) (filter_map (λ e. carried_operation h e.reply e.event) es) in
          let q = count_if (is_active_query h t.0) (record { event = Read (new_number h t.0) x; reply = Value (current_value h.opening (accepted_in h) x.0) }) (filter_map (carried_read h) (map (λ e. e.event) es)) in
          rw (u, q) (omega (arith, rest, one))
      at (Write t x v) rest =
          let one = most_one (is_update (accepted_in h) t.0 && is_active (accepted_in h) t.0) in
          let u = count_if (is_update (accepted_in h) t.0 && is_active (accepted_in h) t.0) (record { event = Write (new_number h t.0) x v; reply = e.reply }) (filter_map (λ e. carried_operation h e.reply e.event) es) in
          rw u (omega (arith, rest, one))
      at (Commit t) rest = omega (arith, rest)
      at (Abort t) rest = omega (arith, rest)

pub law_of_carried_length : LawOfCarriedLength
law_of_carried_length d h =
    let es : List Entry = filter (λ e. not (is_refusal e.reply)) h.entries in
    let begins : length (map (carried_begin d h) (active_numbers h)) ≡ length (active_numbers h) = length-map (active_numbers h) (carried_begin d h) in
    let active : length (active_numbers h) ≤ length (txn_numbers (accepted_in h)) = kept_bounded (is_active (accepted_in h)) (txn_numbers (accepted_in h)) in
    let all : length (txn_numbers (accepted_in h)) ≡ length (begin_records (accepted_in h)) = range_length 1 (length (begin_records (accepted_in h))) in
    let count_within_max : length (begin_records (accepted_in h)) + (length (filter_map (λ e. carried_operation h e.reply e.event) es) + length (filter_map (carried_read h) (accepted_in h))) ≤ length es = fewer d h es in
    let kept : length es ≤ length h.entries = kept_bounded (λ e. not (is_refusal e.reply)) h.entries in
    rw (
      length-append (map (carried_begin d h) (active_numbers h)) (filter_map (λ e. carried_operation h e.reply e.event) es ++ filter_map (carried_read h) (accepted_in h)),
      length-append (filter_map (λ e. carried_operation h e.reply e.event) es) (filter_map (carried_read h) (accepted_in h)),
    )
    (omega (arith, begins, active, all, count_within_max, kept))
