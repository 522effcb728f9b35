-- The outcome of a transaction, by the index of its end.
use Rattle.std.proofs.Common.{◌≡◌, ◌+◌, ℕ, List, [], ◌∷◌, Bool, true, false, not, ◌||◌, ◌==◌, eqb, refl, sym, ◌∙◌, ap, Option, None, Some, is_some, map, filter, if◌then◌else◌}
use Rattle.std.specs.List.{last_or, list_any}
use Rattle.std.proofs.lemmas.Bool.{true≢false, false_from_ne_true}
use Rattle.esr_history.specs.BackLinks.{ended_txn, ender, is_some_eq, places_from, last_place}
use Rattle.esr_history.specs.declared.event.Event.{Event}
use Rattle.esr_history.specs.declared.event.Entry.{Entry}
use Rattle.esr_history.specs.declared.event.Event.TheVariants.{BeginUpdate, BeginQuery, Read, Write, Commit, Abort}
use Rattle.esr_history.specs.declared.back_links.Facts.{Facts}
use Rattle.esr_history.specs.declared.event.TxnOutcome.{TxnOutcome}
use Rattle.esr_history.specs.declared.event.TxnOutcome.TheVariants.{Active, Committed, Aborted}
use Rattle.esr_history.specs.BackLinks.{facts_of}
use Rattle.esr_history.specs.Events.{accepted, is_begun, is_committed, is_aborted, is_refusal, commits, aborts}
use Rattle.esr_history.specs.Machine.{DistanceFunction, Schedule, accepted_in, IsLegal}
use Rattle.esr_history.specs.Outcomes.{outcome_of}
use Rattle.esr_history.proofs.Lists.{or_false}
use Rattle.esr_history.proofs.TraceAgreement.{committed_among, aborted_among, trace}
use Rattle.esr_history.proofs.Locking.{known}
use Rattle.esr_history.proofs.TraceOfHistory.{legal_reached}
use Rattle.esr_order.specs.Scans.{is_commit_at}
use Rattle.esr_order.proofs.Commits.{commit_at_end, end_some, facts_none}

-- whether an event of a list ends the transaction
abbrev ended_in : ℕ → List Event → Bool
ended_in t events = list_any (commits t) events || list_any (aborts t) events

or_true : (b : Bool) → (b || true) ≡ true
or_true true = refl
or_true false = refl

swap : (a b c : Bool) → (a || (b || c)) ≡ (b || (a || c))
swap true true c = refl
swap true false c = refl
swap false b c = refl

grouped : (a b c : Bool) → (a || (b || c)) ≡ ((a || b) || c)
grouped true b c = refl
grouped false b c = refl

-- the places of an entry and of those after it
place_ended : (t n : ℕ) (o : Option ℕ) (rest : List ℕ) (later : List Event) → is_some (last_or (Some n) rest) ≡ true → is_some (last_or o rest) ≡ (is_some o || ended_in t later)
    → (own : Bool) → is_some (last_or o (if own then n ∷ rest else rest)) ≡ (is_some o || (own || ended_in t later))
place_ended t n o rest later some same true = some ∙ sym (or_true (is_some o))
place_ended t n o rest later some same false = same

places_ended : (t : ℕ) (o : Option ℕ) (n : ℕ) (es : List Entry) → is_some (last_or o (places_from ended_txn t n es)) ≡ (is_some o || ended_in t (accepted es))
places_ended t o n [] = sym (or_false (is_some o))
places_ended t o n (e ∷ es) = at (is_refusal e.reply) e.event (places_from ended_txn t (n + 1) es) (places_ended t (Some n) (n + 1) es) (places_ended t o (n + 1) es)
  where
    at : (b : Bool) (ev : Event) (rest : List ℕ) → is_some (last_or (Some n) rest) ≡ true → is_some (last_or o rest) ≡ (is_some o || ended_in t (accepted es))
        → is_some (last_or o (if is_some_eq (if b then None else ender ev) t then n ∷ rest else rest)) ≡ (is_some o || ended_in t (map (λ (m : Entry). m.event) (if not b then record { event = ev; reply = e.reply } ∷ filter (λ (m : Entry). not (is_refusal m.reply)) es else filter (λ (m : Entry). not (is_refusal m.reply)) es)))
    at true ev rest some same = same
    at false (Commit u) rest some same =
        place_ended t n o rest (accepted es) some same (u.0 == t) ∙ ap (λ b. is_some o || b) (grouped (u.0 == t) (list_any (commits t) (accepted es)) (list_any (aborts t) (accepted es)))
    at false (Abort u) rest some same =
        place_ended t n o rest (accepted es) some same (u.0 == t) ∙ ap (λ b. is_some o || b) (swap (u.0 == t) (list_any (commits t) (accepted es)) (list_any (aborts t) (accepted es)))
    at false (BeginUpdate l) rest some same = same
    at false (BeginQuery l s) rest some same = same
    at false (Read u x) rest some same = same
    at false (Write u x v) rest some same = same

-- a transaction has an end exactly if it has committed or aborted
pub ended_is : (es : List Entry) (t : ℕ) → is_some (last_place ended_txn t es) ≡ (is_committed (accepted es) t || is_aborted (accepted es) t)
ended_is es t = places_ended t None 0 es

abbrev by : Bool → Bool → TxnOutcome
by committed aborted = if committed then Committed else (if aborted then Aborted else Active)

neither : (c a : Bool) → (c || a) ≡ false → Active ≡ by c a
neither true a e = absurd (true≢false e)
neither false true e = absurd (true≢false e)
neither false false e = refl

second : (c a : Bool) → c ≡ false → (c || a) ≡ true → Aborted ≡ by c a
second true a n is = absurd (true≢false n)
second false true n is = refl
second false false n is = absurd (true≢false (sym is))

module _ (d : DistanceFunction) (h : Schedule) (legal : IsLegal d h) (t : ℕ) where
  -- a transaction that has ended has begun
  ended_begun : (is_committed (accepted_in h) t || is_aborted (accepted_in h) t) ≡ true → is_begun (accepted_in h) t ≡ true
  ended_begun is =
      (known (legal_reached d h legal)).of_ends t
      (ap (λ b. b || list_any (λ u. eqb u t) (trace h).aborts) (sym (committed_among (accepted_in h) t))
      ∙ (ap (λ b. is_committed (accepted_in h) t || b) (sym (aborted_among (accepted_in h) t)) ∙ is))

  pub unbegun_is_active : None ≡ facts_of h.entries t → Active ≡ outcome_of (accepted_in h) t
  unbegun_is_active none =
      let no : is_begun (accepted_in h) t ≡ false = ap is_some (facts_none h.entries t none) in
      neither (is_committed (accepted_in h) t) (is_aborted (accepted_in h) t)
      (false_from_ne_true (is_committed (accepted_in h) t || is_aborted (accepted_in h) t) (λ e. true≢false (sym (ended_begun e) ∙ no)))

  module _ (f : Facts) (some : Some f ≡ facts_of h.entries t) where
    pub end_commits : is_commit_at h.entries f.end ≡ true → Committed ≡ outcome_of (accepted_in h) t
    end_commits is =
        let committed : is_committed (accepted_in h) t ≡ true = sym (commit_at_end d h legal t) ∙ (ap (is_commit_at h.entries) (sym (end_some h.entries t f some)) ∙ is) in
        sym (ap (λ b. by b (is_aborted (accepted_in h) t)) committed)

    pub end_aborts : is_commit_at h.entries f.end ≡ false → is_some f.end ≡ true → Aborted ≡ outcome_of (accepted_in h) t
    end_aborts not_commit is =
        second (is_committed (accepted_in h) t) (is_aborted (accepted_in h) t)
        (sym (commit_at_end d h legal t) ∙ (ap (is_commit_at h.entries) (sym (end_some h.entries t f some)) ∙ not_commit))
        (sym (ended_is h.entries t) ∙ (ap (λ (o : Option ℕ). is_some o) (sym (end_some h.entries t f some)) ∙ is))

    pub no_end_is_active : is_some f.end ≡ false → Active ≡ outcome_of (accepted_in h) t
    no_end_is_active is =
        neither (is_committed (accepted_in h) t) (is_aborted (accepted_in h) t)
        (sym (ended_is h.entries t) ∙ (ap (λ (o : Option ℕ). is_some o) (sym (end_some h.entries t f some)) ∙ is))
