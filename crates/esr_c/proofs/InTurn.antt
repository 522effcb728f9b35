-- Events executed one after another: one more, and the end.
use Rattle.std.proofs.Common.{◌≡◌, ◌≢◌, ◌⊎◌, ℕ, zero, suc, ◌+◌, ◌<◌, ◌≤◌, List, [], ◌∷◌, ◌++◌, Bool, true, false, not, ◌&&◌, Option, Some, None, inl, inr, refl, ◌∙◌, ap, sym, arith, length, get_or, set, map, take}
use Rattle.std.specs.List.{cons_option, filter_map, list_all, slice_get}
use Rattle.std.proofs.lemmas.Bool.{and_parts, not_from_false}
use Rattle.std.proofs.lemmas.List.{length-append, map-append, take_more}
use Rattle.std.proofs.lemmas.List.Elements.{filter_map-append}
use Rattle.esr_items.specs.Weights.{weighted}
use Rattle.esr_history.specs.declared.event.Event.{Event}
use Rattle.esr_history.specs.declared.event.Reply.{Reply}
use Rattle.esr_history.specs.Events.{is_refusal}
use Rattle.esr_history.specs.Machine.{Schedule, extended, reply_to}
use Rattle.esr_engine.specs.Capacity.{is_full}
use Rattle.esr_c.specs.Answers.{reply_fields, status_number}
use Rattle.esr_c.specs.Many.{AreAnswered, IsAnsweredStatus, IsEnd, IsFullFor, IsOne, after_all, after_one, event_of, events_in, none_refused_before, replies_to}
use Rattle.esr_c.specs.declared.engine.Status.{Status}
use Rattle.esr_c.specs.declared.engine.Status.TheVariants.{Done, HistoryFull, NoSuchEvent}
use Rattle.esr_c.specs.declared.batch.EsrEvent.{EsrEvent}
use Rattle.esr_c.specs.declared.reply.EsrReply.{EsrReply}

after_push : (h : Schedule) (es : List Event) (e : Event) → after_all h (es ++ e ∷ []) ≡ after_one (after_all h es) e
after_push h [] e = refl
after_push h (x ∷ es) e = after_push (after_one h x) es e

replies_push : (h : Schedule) (es : List Event) (e : Event) → replies_to h (es ++ e ∷ []) ≡ replies_to h es ++ reply_to weighted (after_all h es) e ∷ []
replies_push h [] e = refl
replies_push h (x ∷ es) e = ap (λ l. reply_to weighted h x ∷ l) (replies_push (after_one h x) es e)

-- no reply is a refusal
abbrev pub all_accepted : List Reply → Bool
all_accepted replies = list_all (λ r. not (is_refusal r)) replies

none_before : (rs : List Reply) → all_accepted rs ≡ true → none_refused_before rs ≡ true
none_before [] all = refl
none_before (r ∷ []) all = refl
none_before (r ∷ s ∷ rs) all =
    let parts = and_parts (not (is_refusal r)) (all_accepted (s ∷ rs)) all in
    rw (parts.0, none_before (s ∷ rs) parts.1) refl

none_before_last : (rs : List Reply) (last : Reply) → all_accepted rs ≡ true → none_refused_before (rs ++ last ∷ []) ≡ true
none_before_last [] last all = refl
none_before_last (r ∷ []) last all = let parts = and_parts (not (is_refusal r)) true all in rw parts.0 refl
none_before_last (r ∷ s ∷ rs) last all =
    let parts = and_parts (not (is_refusal r)) (all_accepted (s ∷ rs)) all in
    rw (parts.0, none_before_last (s ∷ rs) last parts.1) refl

all_and_last : (rs : List Reply) (last : Reply) → all_accepted rs ≡ true → is_refusal last ≡ false → all_accepted (rs ++ last ∷ []) ≡ true
all_and_last [] last all is = rw is refl
all_and_last (r ∷ rs) last all is =
    let parts = and_parts (not (is_refusal r)) (all_accepted rs) all in
    rw (parts.0, all_and_last rs last parts.1 is) refl

take_set : {X : Type 0} (xs : List X) (i : ℕ) (x : X) → i < length xs → take (suc i) (set xs i x) ≡ take i xs ++ x ∷ []
take_set [] i x within = absurd (omega arith)
take_set (y ∷ xs) zero x within = refl
take_set (y ∷ xs) (suc i) x within = ap (λ l. y ∷ l) (take_set xs i x (omega arith))

get_at : {X : Type 0} (xs : List X) (i : ℕ) (d : X) → i < length xs → slice_get xs i ≡ Some (get_or xs i d)
get_at [] i d within = absurd (omega arith)
get_at (y ∷ xs) zero d within = refl
get_at (y ∷ xs) (suc i) d within = get_at xs i d (omega arith)

only_done : (s : Status) → status_number s ≡ 0 → s ≡ Done
only_done Done is = refl
only_done _ is = absurd (omega arith)

only_unknown : (s : Status) → status_number s ≡ 8 → s ≡ NoSuchEvent
only_unknown NoSuchEvent is = refl
only_unknown _ is = absurd (omega arith)

only_full : (s : Status) → status_number s ≡ 12 → s ≡ HistoryFull
only_full HistoryFull is = refl
only_full _ is = absurd (omega arith)

fullness : (g f : Schedule) (e : Event) → g ≡ f → is_full g e ≡ true → is_full f e ≡ true
fullness g f e same is = ap (λ (s : Schedule). is_full s e) (sym same) ∙ is

-- ---- from the first event on

module _ (h g : Schedule) (events : List EsrEvent) (n : ℕ) (buffer : List EsrReply) (d : EsrEvent) (so_far : AreAnswered h g events n buffer) (within : n < length events) where
  module _ (r : Reply) (f : Schedule) (one : IsOne g (get_or events n d) f r) where
    grown : events_in (n + 1) events ≡ events_in n events ++ one.0 ∷ []
    grown =
        ap (filter_map event_of) (take_more events n d within)
        ∙ (filter_map-append event_of (take n events) (get_or events n d ∷ [])
        ∙ ap (λ (o : Option Event). events_in n events ++ cons_option o []) one.1)

    reply_is : r ≡ reply_to weighted (after_all h (events_in n events)) one.0
    reply_is = one.2 ∙ ap (λ (s : Schedule). reply_to weighted s one.0) so_far.after

    pub replies_grown : replies_to h (events_in (n + 1) events) ≡ replies_to h (events_in n events) ++ r ∷ []
    replies_grown =
        ap (replies_to h) grown ∙ (replies_push h (events_in n events) one.0
        ∙ ap (λ (s : Reply). replies_to h (events_in n events) ++ s ∷ []) (sym reply_is))

    pub answered_more : (x : EsrReply) → x ≡ reply_fields r → n < length buffer → AreAnswered h f events (n + 1) (set buffer n x)
    answered_more x is has_capacity = record {
      within = omega arith;
      each = ap length grown ∙ (length-append (events_in n events) (one.0 ∷ []) ∙ ap (λ k. k + 1) so_far.each);
      after = one.3 ∙ (ap (λ (s : Reply). extended g one.0 s) one.2
          ∙ (ap (λ (s : Schedule). after_one s one.0) so_far.after ∙ (sym (after_push h (events_in n events) one.0) ∙ sym (ap (after_all h) grown))));
      reported =
          let next : n + 1 ≡ suc n = omega arith in
          ap (λ k. take k (set buffer n x)) next ∙ (take_set buffer n x has_capacity
          ∙ (ap (λ l. l ++ x ∷ []) so_far.reported ∙ (ap (λ y. map reply_fields (replies_to h (events_in n events)) ++ y ∷ []) is
          ∙ (sym (map-append reply_fields (replies_to h (events_in n events)) (r ∷ [])) ∙ ap (map reply_fields) (sym replies_grown)))));
    }

    -- a refusal that is to be the end
    pub stopped : (stop : Bool) → stop ≡ true → is_refusal r ≡ true → all_accepted (replies_to h (events_in n events)) ≡ true → IsEnd h events stop (n + 1) 0
    stopped stop is refused all = record {
      done = λ _. inr (is, (replies_to h (events_in n events), r, replies_grown, refused));
      unknown = λ e. absurd (omega arith);
      full = λ e. absurd (omega arith);
      first = λ _. ap none_refused_before replies_grown ∙ none_before_last (replies_to h (events_in n events)) r all;
    }

    pub accepted_more : is_refusal r ≡ false → all_accepted (replies_to h (events_in n events)) ≡ true → all_accepted (replies_to h (events_in (n + 1) events)) ≡ true
    accepted_more accepted all = ap all_accepted replies_grown ∙ all_and_last (replies_to h (events_in n events)) r all accepted

  -- an event that is not executed
  pub ended : (stop : Bool) (s : Status) → (stop ≡ true → all_accepted (replies_to h (events_in n events)) ≡ true) → s ≢ Done
      → (s ≡ NoSuchEvent → event_of (get_or events n d) ≡ None) → (s ≡ HistoryFull → IsFullFor g (get_or events n d)) → IsEnd h events stop n (status_number s)
  ended stop s all undone unknown full = record {
    done = λ is. absurd (undone (only_done s is));
    unknown = λ is. (get_or events n d, get_at events n d within, unknown (only_unknown s is));
    full = λ is. let f = full (only_full s is) in (get_or events n d, get_at events n d within, (f.0, f.1, fullness g (after_all h (events_in n events)) f.0 so_far.after f.2));
    first = λ is. none_before (replies_to h (events_in n events)) (all is);
  }

-- all events were executed
pub all_done : (h : Schedule) (events : List EsrEvent) (stop : Bool) (n : ℕ) → n ≡ length events → (stop ≡ true → all_accepted (replies_to h (events_in n events)) ≡ true) → IsEnd h events stop n 0
all_done h events stop n all accepted = record {
  done = λ _. inl all;
  unknown = λ e. absurd (omega arith);
  full = λ e. absurd (omega arith);
  first = λ is. none_before (replies_to h (events_in n events)) (accepted is);
}
