-- The results of a scan of a log, in the terms of its history.
use Rattle.std.proofs.Common.{◌≡◌, ℕ, zero, suc, ◌+◌, drop, List, [], ◌∷◌, ◌++◌, length, Bool, true, false, not, Option, None, Some, refl, sym, ◌∙◌, ap, arith, map, filter, cond, append_assoc, if◌then◌else◌, length-append}
use Rattle.std.specs.List.{filter_map, slice_get, range_with_len, cons_option}
use Rattle.esr_history.specs.declared.event.Event.{Event}
use Rattle.esr_history.specs.declared.event.Entry.{Entry}
use Rattle.esr_history.specs.Events.{is_refusal}
use Rattle.esr_history.proofs.Membership.{get_seam}
use Rattle.esr_order.specs.Scans.{if_accepted}

later : (past es : List Entry) → filter_map (slice_get (past ++ es)) (range_with_len (length past) (length es)) ≡ es
later past [] = refl
later past (e ∷ es) =
    let more : length (past ++ e ∷ []) ≡ length past + 1 = length-append past (e ∷ []) in
    ap (λ o. cons_option o (filter_map (slice_get (past ++ e ∷ es)) (range_with_len (length past + 1) (length es)))) (get_seam past e es)
    ∙ ap (λ l. e ∷ l)
    (ap (λ n. filter_map (slice_get (past ++ e ∷ es)) (range_with_len n (length es))) (sym more)
    ∙ (ap (λ l. filter_map (slice_get l) (range_with_len (length (past ++ e ∷ [])) (length es))) (sym (append_assoc past (e ∷ []) es))
    ∙ later (past ++ e ∷ []) es))

-- the entries at the places of a log, in order
pub all_entries : (es : List Entry) → filter_map (slice_get es) (range_with_len 0 (length es)) ≡ es
all_entries es = later [] es

abbrev pub accepts : Entry → Bool
accepts e = not (is_refusal e.reply)

pub given_accepted : {Y : Type 0} (f : Entry → Option Y) (es : List Entry) → filter_map (if_accepted f) es ≡ filter_map f (filter accepts es)
given_accepted f [] = refl
given_accepted f (e ∷ es) = at (is_refusal e.reply) (given_accepted f es)
  where
    at : (b : Bool) → filter_map (if_accepted f) es ≡ filter_map f (filter accepts es)
        → cons_option (if b then None else f e) (filter_map (if_accepted f) es) ≡ filter_map f (cond (not b) (e ∷ filter accepts es) (filter accepts es))
    at true rest = rest
    at false rest = ap (cons_option (f e)) rest

-- the results of the events of entries
pub given_events : {Y : Type 0} (f : Event → Option Y) (es : List Entry) → filter_map (λ e. f e.event) es ≡ filter_map f (map (λ e. e.event) es)
given_events f [] = refl
given_events f (e ∷ es) = ap (cons_option (f e.event)) (given_events f es)

-- the elements from a place on
pub drop_get : {X : Type 0} (xs : List X) (i : ℕ) (x : X) → slice_get xs i ≡ Some x → drop i xs ≡ x ∷ drop (i + 1) xs
drop_get [] i x is = absurd (cc)
drop_get (y ∷ xs) zero x is = ap (λ z. z ∷ xs) (cc)
drop_get (y ∷ xs) (suc i) x is = drop_get xs i x is ∙ (let e : suc (i + 1) ≡ suc i + 1 = omega arith in ap (λ k. x ∷ drop k (y ∷ xs)) e)
