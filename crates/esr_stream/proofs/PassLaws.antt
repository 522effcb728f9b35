-- The invariant of a pass: one more update, the start, and the end.
use Rattle.std.proofs.Common.{◌≡◌, ◌≢◌, ℕ, ℤ, ◌+◌, ◌<◌, ◌≤◌, Bool, true, false, List, length, set, sym, ap, ◌∙◌, subst, inl, inr, arith, ◌⊎◌, refl, get_or-set_same, get_or-set_other}
use Rattle.std.specs.List.{AllByRecursion}
use Rattle.std.proofs.Math.Path.{fun_ext}
use Rattle.std.proofs.lemmas.Bool.{cases_eq, true≢false}
use Rattle.esr_history.specs.Events.{last_value}
use Rattle.esr_history.specs.Machine.{DistanceFunction, Schedule, IsLegal}
use Rattle.esr_history.specs.Serial.{values_by}
use Rattle.esr_history.specs.Queries.{updates_committed_before}
use Rattle.esr_order.specs.Chains.{nth}
use Rattle.esr_order.specs.declared.accesses.Access.{Access}
use Rattle.esr_order.specs.Scans.{accesses_in}
use Rattle.esr_bound.specs.Amounts.{Amount, AreForced, Carries, total, mark_at, left_by, left_by_all, HasReason, Shows}
use Rattle.esr_bound.proofs.LowerBound.{all_more, left_all, law_of_updates, law_of_end}
use Rattle.esr_stream.specs.Passes.{ItemState, state_at, has_write_reason, HasReadReason, carried_at, unowed_at, amounts_sum, loans_sum, AreEnough, HasBound, IsEnough, IsSame, IsPrefixMarked, AreStates, IsUpdateApplied, IsPassInvariant, KeepsEnough, KeepsInvariant, NoneMarkedFrom, StayMarked}
use Rattle.esr_stream.specs.declared.rounds.MarkedPrefix.{MarkedPrefix}
use Rattle.esr_stream.proofs.StepLaws.{total_states, states_after, step_made, unowed_step, reason_is}

pub mark_same : (marks : List Bool) (k : ℕ) (marked : Bool) → k < length marks → mark_at (set marks k marked) k ≡ marked
mark_same marks k marked l = get_or-set_same marks k marked false l

pub mark_other : (marks : List Bool) (k i : ℕ) (marked : Bool) → i ≢ k → mark_at (set marks k marked) i ≡ mark_at marks i
mark_other marks k i marked ne = get_or-set_other marks k i marked false ne

-- a mark that is set or stays is still there
pub stay_more : (seeds marks : List Bool) (k : ℕ) (marked : Bool) → k < length marks → (mark_at marks k ≡ true → marked ≡ true) → StayMarked seeds marks → StayMarked seeds (set marks k marked)
stay_more seeds marks k marked l grows stay i is = elim (cases_eq i k) [
  | inl e ↦ ap (mark_at (set marks k marked)) e ∙ mark_same marks k marked l ∙ grows (sym (ap (mark_at marks) e) ∙ stay i is)
  | inr ne ↦ mark_other marks k i marked ne ∙ stay i is
]

module _ (d : DistanceFunction) (h : Schedule) (q : ℕ) (legal : IsLegal d h) (C : ℕ → ℤ → ℕ) where
  abbrev n : ℕ
  n = length h.opening

  next : (k x : ℕ) → k < length (updates_committed_before h q) → left_by_all h q (k + 1) x ≡ last_value (left_by_all h q k x) (values_by h x (nth (updates_committed_before h q) k))
  next k x l = all_more h q k x l

  -- an update that the query must see
  pub first_more : (k : ℕ) (marks : List Bool) (proposed : ℕ → ℕ) (row : List Access) (old new : List ItemState) (before after : ℕ) → k < length (updates_committed_before h q) → AreStates C h q k marks old → row ≡ accesses_in h.entries (nth (updates_committed_before h q) k)
      → IsUpdateApplied C true proposed row old new before after → mark_at marks k ≡ true → AreStates C h q (k + 1) marks new
  first_more k marks proposed row old new before after inside is is_row put mark =
      states_after h q C k true proposed marks marks row old new before after is is_row (λ x. next k x inside) put (λ i l. refl) mark

  -- one more update of a pass
  module _ (worth k : ℕ) (seeds marks : List Bool) (marked : Bool) (proposed : ℕ → ℕ) (row : List Access) (old new : List ItemState) (before after : ℕ)
      (so_far : IsPassInvariant (length h.opening) C h q worth k seeds marks old) (inside : k < length (updates_committed_before h q)) (sized : k < length marks)
      (is_row : row ≡ accesses_in h.entries (nth (updates_committed_before h q) k)) (items : AllByRecursion (λ (a : Access). a.item.0 < length h.opening) row)
      (why : marked ≡ true → (mark_at marks k ≡ true) ⊎ ((has_write_reason old row ≡ true) ⊎ HasReadReason old row proposed))
      (put : IsUpdateApplied C marked proposed row old new before after) (keeps : before ≤ after) where
    earlier : (i : ℕ) → i < k → mark_at (set marks k marked) i ≡ mark_at marks i
    earlier i l = mark_other marks k i marked (λ e. omega (arith, l, e))

    reason : mark_at (set marks k marked) k ≡ true → (mark_at seeds k ≡ true) ⊎ HasReason (length h.opening) C h q k (carried_at old) (carried_at new) marks
    reason is = elim (why (sym (mark_same marks k marked sized) ∙ is)) [
      | inl m ↦ inl (sym (so_far.later k (omega arith)) ∙ m)
      | inr r ↦ inr (reason_is h q C k marked proposed marks (set marks k marked) row old new before after so_far.states is_row (λ x. next k x inside) put earlier items r)
    ]

    pub passed_more : IsPassInvariant (length h.opening) C h q worth (k + 1) seeds (set marks k marked) new
    passed_more = record {
      states = states_after h q C k marked proposed marks (set marks k marked) row old new before after so_far.states is_row (λ x. next k x inside) put earlier (mark_same marks k marked sized);
      later = λ j l. mark_other marks k j marked (λ e. omega (arith, l, e)) ∙ so_far.later j (omega (arith, l));
      carries = λ S closed has.
          law_of_updates d h q (length h.opening) C worth k (carried_at old) (carried_at new) (mark_at seeds k) marks (set marks k marked) S legal inside
          (step_made h q C k marked proposed marks (set marks k marked) row old new before after so_far.states is_row (λ x. next k x inside) put earlier (mark_at seeds k) keeps (mark_same marks k marked sized) reason)
          closed (λ s. has k inside s) (so_far.carries S closed has);
    }

    -- amounts that are enough after the update are enough before it
    pub enough_more : AreEnough (length h.opening) C h q (k + 1) (unowed_at new) → AreEnough (length h.opening) C h q k (unowed_at old)
    enough_more enough = λ w ss ms none carries.
        enough w ss ms (λ i l. none i (omega (arith, l))) (λ S closed has.
        law_of_updates d h q (length h.opening) C w k (unowed_at old) (unowed_at new) false ms ms S legal inside
        (unowed_step h q C k marked proposed marks (set marks k marked) ms row old new before after so_far.states is_row (λ x. next k x inside) put earlier (mark_same marks k marked sized) keeps (none k (omega arith)))
        closed (λ e. absurd (true≢false (sym e))) (carries S closed has))

  -- a pass starts at a position before which all updates are marked
  pub passed_from : (k worth : ℕ) (marks : List Bool) (states : List ItemState) → k ≤ length (updates_committed_before h q) → IsPrefixMarked k marks → worth + loans_sum states ≤ amounts_sum states → AreStates C h q k marks states → IsPassInvariant (length h.opening) C h q worth k marks marks states
  passed_from k worth marks states inside firsts low are = record {
    states = are;
    later = λ j l. refl;
    carries = λ S closed has.
        let all : (i : ℕ) → i < k → i < length (updates_committed_before h q) → S (nth (updates_committed_before h q) i) ≡ true = λ i l m. has i m (firsts i l) in
        record {
          own = λ x. (state_at states x).amount;
          loan = λ x. (state_at states x).loan;
          under = λ x l.
              let u = are.under x l in
              let c = are.cost x l in
              let e : C x (left_by h q S k x) ≡ C x (left_by_all h q k x) = ap (C x) (left_all h q S k x (λ i m n w. all i m n)) in
              omega (arith, u, c, e);
          cap = λ x l. let u = are.under x l in let c = are.cost x l in omega (arith, u, c);
          most = λ x l w. omega arith;
          same = λ x l w. (refl, refl);
          sum =
              let t : total (length h.opening) (λ x. (state_at states x).amount) ≡ amounts_sum states = ap (λ m. total m (λ x. (state_at states x).amount)) (sym are.len) ∙ total_states (λ (i : ItemState). i.amount) states in
              let u : total (length h.opening) (λ x. (state_at states x).loan) ≡ loans_sum states = ap (λ m. total m (λ x. (state_at states x).loan)) (sym are.len) ∙ total_states (λ (i : ItemState). i.loan) states in
              omega (arith, low, t, u);
          owed = λ _ x l o _. are.owed x l o;
          marked = inl (λ i l m. all i l (omega (arith, l, inside)));
        };
  }

  -- and ends
  pub passed_end : (worth k : ℕ) (seeds marks : List Bool) (states : List ItemState) → k ≡ length (updates_committed_before h q) → IsPassInvariant (length h.opening) C h q worth k seeds marks states → Shows (length h.opening) C h q worth seeds marks
  passed_end worth k seeds marks states e is =
      let at_end = subst (λ m. IsPassInvariant (length h.opening) C h q worth m seeds marks states) e is in
      law_of_end h q (length h.opening) C worth (carried_at states) seeds marks (λ S closed has. at_end.carries S closed has)

  -- a pass starts from a copy of the states
  pub passed_from_copy : (k worth : ℕ) (marks : List Bool) (start states : List ItemState) → states ≡ start → k ≤ length (updates_committed_before h q) → IsPrefixMarked k marks → worth + loans_sum start ≤ amounts_sum start → AreStates C h q k marks start → IsPassInvariant (length h.opening) C h q worth k marks marks states
  passed_from_copy k worth marks start states e inside firsts low are = subst (λ (l : List ItemState). IsPassInvariant (length h.opening) C h q worth k marks marks l) (sym e) (passed_from k worth marks start inside firsts low are)

-- ---- a pass that ends early

module _ (h : Schedule) (q : ℕ) (C : ℕ → ℤ → ℕ) where
  -- without the loans of marked updates a set carries no less
  unowed : (w k : ℕ) (marks : List Bool) (states : List ItemState) (S : ℕ → Bool) → Carries (length h.opening) C h q w k (carried_at states) marks S → Carries (length h.opening) C h q w k (unowed_at states) marks S
  unowed w k marks states S c = record {
    own = c.own;
    loan = c.loan;
    under = c.under;
    cap = c.cap;
    most = c.most;
    same = c.same;
    sum = c.sum;
    owed = λ _ x l o _. absurd (true≢false (sym o));
    marked = c.marked;
  }

  -- if the amounts at its end are enough, it shows the bound
  pub early_end : (worth k : ℕ) (seeds marks : List Bool) (states : List ItemState) → NoneMarkedFrom k marks → IsPassInvariant (length h.opening) C h q worth k seeds marks states → AreEnough (length h.opening) C h q k (unowed_at states) → Shows (length h.opening) C h q worth seeds marks
  early_end worth k seeds marks states none is enough = enough worth seeds marks none (λ S closed has. unowed worth k marks states S (is.carries S closed has))

  -- the same amounts at the same position are enough
  pub enough_same : (k j : ℕ) (a b : List ItemState) → k ≡ j → ((x : ℕ) → unowed_at a x ≡ unowed_at b x) → AreEnough (length h.opening) C h q k (unowed_at a) → AreEnough (length h.opening) C h q j (unowed_at b)
  enough_same k j a b e same enough =
      let f : unowed_at a ≡ unowed_at b = fun_ext same in
      subst (λ m. AreEnough (length h.opening) C h q m (unowed_at b)) e (subst (λ (g : ℕ → Amount). AreEnough (length h.opening) C h q k g) f enough)

  -- after the last update all amounts are enough
  pub enough_at_end : (k : ℕ) (amounts : ℕ → Amount) → k ≡ length (updates_committed_before h q) → AreEnough (length h.opening) C h q k amounts
  enough_at_end k amounts e = subst (λ m. AreEnough (length h.opening) C h q m amounts) (sym e) (λ w seeds marks _ carries. law_of_end h q (length h.opening) C w amounts seeds marks carries)

  -- a pass that had the amounts at the end of the last one at one of its stops
  pub stop_shows : (worth to : ℕ) (seeds marks : List Bool) (states : List ItemState) (last first second : MarkedPrefix)
      → NoneMarkedFrom to marks → IsPassInvariant (length h.opening) C h q worth to seeds marks states
      → AreEnough (length h.opening) C h q to (unowed_at states) × IsEnough (length h.opening) C h q first × IsEnough (length h.opening) C h q second
      → IsSame first last ⊎ IsSame second last
      → (IsEnough (length h.opening) C h q last → AreForced (length h.opening) C h q worth seeds)
      → AreForced (length h.opening) C h q worth marks × HasBound (length h.opening) C h q worth
  stop_shows worth to seeds marks states last first second none is enough same prior =
      let before : IsEnough (length h.opening) C h q last = elim same [
        | inl e ↦ enough_same first.len last.len first.states.items last.states.items e.0 e.1 enough.1
        | inr e ↦ enough_same second.len last.len second.states.items last.states.items e.0 e.1 enough.2
      ] in
      let shows = early_end worth to seeds marks states none is enough.0 in
      (shows.forced (prior before), shows.bound (prior before))

  -- a pass that had the amounts at the end of the last one at one of its stops does not end before that
  pub last_within : (first second end last : MarkedPrefix) → first.len ≤ second.len → second.len ≤ end.len → IsSame first last ⊎ IsSame second last → last.len ≤ end.len
  last_within first second end last l m same = elim same [
    | inl e ↦ omega (arith, l, m, e.0)
    | inr e ↦ omega (arith, m, e.0)
  ]

  -- a pass in three parts, and the states at its stops
  pub stops_enough : (from : ℕ) (m0 m1 m2 : List Bool) (s0 s1 s2 s3 : List ItemState) (a b e : MarkedPrefix)
      → ((x : ℕ) → unowed_at a.states.items x ≡ unowed_at s1 x) → ((x : ℕ) → unowed_at b.states.items x ≡ unowed_at s2 x) → ((x : ℕ) → unowed_at e.states.items x ≡ unowed_at s3 x)
      → KeepsInvariant (length h.opening) C h q from a.len m0 s0 m1 s1 → KeepsInvariant (length h.opening) C h q a.len b.len m1 s1 m2 s2
      → KeepsEnough (length h.opening) C h q a.len b.len m1 s1 s2 → KeepsEnough (length h.opening) C h q b.len e.len m2 s2 s3
      → (worth : ℕ) (seeds : List Bool) → IsPassInvariant (length h.opening) C h q worth from seeds m0 s0
      → IsEnough (length h.opening) C h q e
      → AreEnough (length h.opening) C h q e.len (unowed_at s3) × IsEnough (length h.opening) C h q a × IsEnough (length h.opening) C h q b
  stops_enough from m0 m1 m2 s0 s1 s2 s3 a b e sa sb se i1 i2 e2 e3 worth seeds p enough =
      let at_end = enough_same e.len e.len e.states.items s3 refl se enough in
      let p1 = i1 worth seeds p in
      let at_second = e3 worth seeds (i2 worth seeds p1) at_end in
      let at_first = e2 worth seeds p1 at_second in
      (at_end, enough_same a.len a.len s1 a.states.items refl (λ x. sym (sa x)) at_first, enough_same b.len b.len s2 b.states.items refl (λ x. sym (sb x)) at_second)
