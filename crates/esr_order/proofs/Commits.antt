-- The committed transactions in commit order, and those that a strict query must have seen, by the indices at which
-- transactions began and ended.
use Rattle.std.proofs.Common.{◌≡◌, ℕ, zero, suc, ◌+◌, ◌<◌, ◌≤◌, Bool, true, false, ◌==◌, List, [], ◌∷◌, ◌++◌, length, take, refl, sym, ◌∙◌, ap, subst, arith, inl, inr, ⊎_elim, Option, Some, None, Contains, filter, map, eqb, if◌then◌else◌, count_by, is_some, nat_lt, unwrap_or, option_map}
use Rattle.std.specs.List.{filter_map, slice_get, list_any, before_first}
use Rattle.std.specs.List.Sorted.{IsStrictlyIncreasing}
use Rattle.std.proofs.lemmas.Bool.{true≢false, cases_Bool, cases_lt, cases_order, eq-eqb, eqb-true, false_from_ne_true, or_left}
use Rattle.std.proofs.lemmas.Bool.Decides.{nat_tests}
use Rattle.std.proofs.lemmas.Option.{same_Some}
use Rattle.std.proofs.lemmas.List.{length-map}
use Rattle.std.proofs.lemmas.List.Sums.{length-filter}
use Rattle.esr_base.specs.declared.numbers.TxnId.{TxnId}
use Rattle.esr_history.specs.declared.event.Event.{Event}
use Rattle.esr_history.specs.declared.event.Event.TheVariants.{BeginUpdate, BeginQuery, Read, Write, Commit, Abort}
use Rattle.esr_history.specs.declared.event.Entry.{Entry}
use Rattle.esr_history.specs.declared.back_links.Facts.{Facts}
use Rattle.esr_history.specs.Events.{BeginRecord, is_refusal, accepted, begin_record, begin_records, is_begun, is_query, is_update, is_committed}
use Rattle.esr_history.specs.Machine.{DistanceFunction, Schedule, accepted_in, IsLegal}
use Rattle.esr_history.specs.Operations.{committer, commit_order}
use Rattle.esr_history.specs.Queries.{updates_committed_before, must, is_strict, before_begin}
use Rattle.esr_history.specs.BackLinks.{begin_place, ender, ended_txn, is_some_eq, last_place, facts_by, facts_of}
use Rattle.esr_history.proofs.Membership.{In, In-from_any, In-Contains, Contains-In, In-of_filter, In-append_left, In-append_right, In-append_cases, filter_agree_in, any-from_number}
use Rattle.esr_history.proofs.Bounded.{In-before_first, before_first-here, before_first-later}
use Rattle.esr_history.proofs.WithinRanges.{legal_begins}
use Rattle.esr_history.proofs.TraceAgreement.{committed_among, trace}
use Rattle.esr_history.proofs.LegalWellFormed.{begun_in_range}
use Rattle.esr_history.proofs.Locking.{known}
use Rattle.esr_history.proofs.TraceOfHistory.{legal_reached}
use Rattle.esr_order.specs.Scans.{commit_by, commit_in, commits_in, is_commit_at, is_end_before, is_ended_before, has_ended_before, end_in, AreEnds}
use Rattle.esr_order.proofs.Entries.{given_accepted, given_events, accepts}
use Rattle.esr_order.proofs.Linked.{split_at, get_inside, get_take}
use Rattle.esr_order.proofs.Lists.{given_in, in_given, in_at, at_in}
use Rattle.esr_order.proofs.Sparse.{sparse_entries}
use Rattle.esr_order.proofs.Spans.{end_is}

-- ---- facts
module _ (es : List Entry) (t : ℕ) where
  pub facts_none : None ≡ facts_of es t → begin_record (accepted es) t ≡ None
  facts_none none = at (begin_record (accepted es) t) none
    where
      at : (b : Option BeginRecord) → None ≡ facts_by b (begin_place t es) (last_place ended_txn t es) → b ≡ None
      at None e = refl
      at (Some b) e = absurd (cc)

  pub facts_some : (f : Facts) → Some f ≡ facts_of es t
      → (b : BeginRecord) × (begin_record (accepted es) t ≡ Some b) × (f ≡ record { query = b.query; strict = b.strict; limit = b.limit; begin = begin_place t es; end = last_place ended_txn t es })
  facts_some f some = at (begin_record (accepted es) t) refl some
    where
      at : (o : Option BeginRecord) → begin_record (accepted es) t ≡ o → Some f ≡ facts_by o (begin_place t es) (last_place ended_txn t es)
          → (b : BeginRecord) × (begin_record (accepted es) t ≡ Some b) × (f ≡ record { query = b.query; strict = b.strict; limit = b.limit; begin = begin_place t es; end = last_place ended_txn t es })
      at None is e = absurd (cc)
      at (Some b) is e = (b, is, same_Some f (record { query = b.query; strict = b.strict; limit = b.limit; begin = begin_place t es; end = last_place ended_txn t es }) e)

  pub query_some : (f : Facts) → Some f ≡ facts_of es t → f.query ≡ is_query (accepted es) t
  query_some f some = let s = facts_some f some in ap (λ (g : Facts). g.query) s.2 ∙ sym (ap (λ (b : Option BeginRecord). unwrap_or (option_map (λ c. c.query) b) false) s.1)

  pub end_some : (f : Facts) → Some f ≡ facts_of es t → f.end ≡ last_place ended_txn t es
  end_some f some = ap (λ (g : Facts). g.end) (facts_some f some).2

  pub strict_some : (f : Facts) → Some f ≡ facts_of es t → f.strict ≡ is_strict (accepted es) t
  strict_some f some = let s = facts_some f some in ap (λ (g : Facts). g.strict) s.2 ∙ sym (ap (λ (b : Option BeginRecord). unwrap_or (option_map (λ c. c.strict) b) false) s.1)

  pub strict_none : None ≡ facts_of es t → is_strict (accepted es) t ≡ false
  strict_none none = ap (λ (b : Option BeginRecord). unwrap_or (option_map (λ c. c.strict) b) false) (facts_none none)

  pub begin_some : (f : Facts) → Some f ≡ facts_of es t → f.begin ≡ begin_place t es
  begin_some f some = ap (λ (g : Facts). g.begin) (facts_some f some).2

  pub begun_some : (f : Facts) → Some f ≡ facts_of es t → is_begun (accepted es) t ≡ true
  begun_some f some = ap is_some (facts_some f some).1

-- ---- commits
-- the list of committed transactions, by number
pub committed_are : (es : List Entry) → map (λ (t : TxnId). t.0) (filter_map commit_in es) ≡ commit_order (accepted es)
committed_are es =
    ap (map (λ (t : TxnId). t.0)) (given_accepted (λ (e : Entry). commit_by e.event) es ∙ given_events commit_by (filter accepts es)) ∙ numbers (accepted es)
  where
    numbers : (events : List Event) → map (λ (t : TxnId). t.0) (filter_map commit_by events) ≡ filter_map committer events
    numbers [] = refl
    numbers (BeginUpdate l ∷ events) = numbers events
    numbers (BeginQuery l s ∷ events) = numbers events
    numbers (Read t x ∷ events) = numbers events
    numbers (Write t x v ∷ events) = numbers events
    numbers (Commit t ∷ events) = ap (λ (ns : List ℕ). t.0 ∷ ns) (numbers events)
    numbers (Abort t ∷ events) = numbers events

commit_key : (e : Entry) (u : TxnId) → commit_in e ≡ Some u → is_some_eq (ended_txn e) u.0 ≡ true
commit_key e u is = at (is_refusal e.reply) e.event is
  where
    at : (b : Bool) (ev : Event) → (if b then None else commit_by ev) ≡ Some u → is_some_eq (if b then None else ender ev) u.0 ≡ true
    at true ev f = absurd (cc)
    at false (BeginUpdate l) f = absurd (cc)
    at false (BeginQuery l s) f = absurd (cc)
    at false (Read t x) f = absurd (cc)
    at false (Write t x v) f = absurd (cc)
    at false (Commit t) f = eq-eqb t.0 u.0 (ap (λ (t : TxnId). t.0) (same_Some t u f))
    at false (Abort t) f = absurd (cc)

-- an entry that ends a transaction commits it, or commits none
end_commit : (e : Entry) (t : ℕ) → is_some_eq (ended_txn e) t ≡ true → is_some (commit_in e) ≡ true → (u : TxnId) × (commit_in e ≡ Some u) × (u.0 ≡ t)
end_commit e t key some = at (is_refusal e.reply) e.event key some
  where
    at : (b : Bool) (ev : Event) → is_some_eq (if b then None else ender ev) t ≡ true → is_some (if b then None else commit_by ev) ≡ true → (u : TxnId) × ((if b then None else commit_by ev) ≡ Some u) × (u.0 ≡ t)
    at true ev k s = absurd (true≢false (sym s))
    at false (BeginUpdate l) k s = absurd (true≢false (sym s))
    at false (BeginQuery l s') k s = absurd (true≢false (sym s))
    at false (Read u x) k s = absurd (true≢false (sym s))
    at false (Write u x v) k s = absurd (true≢false (sym s))
    at false (Commit u) k s = (u, refl, eqb-true u.0 t k)
    at false (Abort u) k s = absurd (true≢false (sym s))

in_numbers : (ts : List TxnId) (n : ℕ) → In n (map (λ (t : TxnId). t.0) ts) → (t : TxnId) × In t ts × (t.0 ≡ n)
in_numbers [] n i = absurd i
in_numbers (t ∷ ts) n i = ⊎_elim (λ e. (t, inl refl, e)) (λ j. let r = in_numbers ts n j in (r.0, inr r.1, r.2)) i

pub numbers_in : (ts : List TxnId) (t : TxnId) → In t ts → In t.0 (map (λ (t : TxnId). t.0) ts)
numbers_in [] t i = absurd i
numbers_in (u ∷ ts) t i = ⊎_elim (λ e. inl (ap (λ (t : TxnId). t.0) e)) (λ j. inr (numbers_in ts t j)) i

pub mapped_filter : (p : ℕ → Bool) (us : List TxnId) → map (λ (t : TxnId). t.0) (filter (λ (t : TxnId). p t.0) us) ≡ filter p (map (λ (t : TxnId). t.0) us)
mapped_filter p [] = refl
mapped_filter p (u ∷ us) = at (p u.0) (mapped_filter p us)
  where
    at : (b : Bool) → map (λ (t : TxnId). t.0) (filter (λ (t : TxnId). p t.0) us) ≡ filter p (map (λ (t : TxnId). t.0) us)
        → map (λ (t : TxnId). t.0) (if b then u ∷ filter (λ (t : TxnId). p t.0) us else filter (λ (t : TxnId). p t.0) us) ≡ (if b then u.0 ∷ filter p (map (λ (t : TxnId). t.0) us) else filter p (map (λ (t : TxnId). t.0) us))
    at true rest = ap (λ (ns : List ℕ). u.0 ∷ ns) rest
    at false rest = rest

-- a committed transaction has an entry that commits it
commit_entry : (es : List Entry) (t : ℕ) → is_committed (accepted es) t ≡ true → (i : ℕ) × (e : Entry) × (u : TxnId) × (slice_get es i ≡ Some e) × (commit_in e ≡ Some u) × (u.0 ≡ t)
commit_entry es t is =
    let listed : In t (commit_order (accepted es)) = In-from_any (commit_order (accepted es)) t (sym (committed_among (accepted es) t) ∙ is) in
    let u = in_numbers (filter_map commit_in es) t (subst (In t) (sym (committed_are es)) listed) in
    let e = given_in commit_in es u.0 u.1 in
    let p = at_in es e.0 e.1 in
    (p.0, e.0, u.0, p.1, e.2, u.2)

entry_commits : (es : List Entry) (i : ℕ) (e : Entry) (u : TxnId) → slice_get es i ≡ Some e → commit_in e ≡ Some u → is_committed (accepted es) u.0 ≡ true
entry_commits es i e u at is =
    committed_among (accepted es) u.0
    ∙ any-from_number (commit_order (accepted es)) u.0 (subst (In u.0) (committed_are es) (numbers_in (filter_map commit_in es) u (in_given commit_in es e u (in_at es i e at) is)))

module _ (d : DistanceFunction) (h : Schedule) (legal : IsLegal d h) where
  -- a transaction has committed if and only if its end is a commit
  pub commit_at_end : (t : ℕ) → is_commit_at h.entries (last_place ended_txn t h.entries) ≡ is_committed (accepted_in h) t
  commit_at_end t = ends (last_place ended_txn t h.entries) refl
    where
      ends : (o : Option ℕ) → last_place ended_txn t h.entries ≡ o → is_commit_at h.entries o ≡ is_committed (accepted_in h) t
      ends None none = sym (false_from_ne_true (is_committed (accepted_in h) t) (λ is.
          let c = commit_entry h.entries t is in
          let bad : None ≡ Some c.0 = sym none ∙ end_is d h legal t c.0 c.1 c.3 (subst (λ k. is_some_eq (ended_txn c.1) k ≡ true) c.5 (commit_key c.1 c.2 c.4)) in
          let worse : ⊥ = cc in worse))
      ends (Some p) some =
          let s = split_at ended_txn t h.entries p some in
          ap commits_in s.at ∙ at s.entry s.at s.has (is_some (commit_in s.entry)) refl
        where
          at : (e : Entry) → slice_get h.entries p ≡ Some e → is_some_eq (ended_txn e) t ≡ true → (b : Bool) → is_some (commit_in e) ≡ b → is_some (commit_in e) ≡ is_committed (accepted_in h) t
          at e there key true is =
              let c = end_commit e t key is in
              is ∙ sym (subst (λ k. is_committed (accepted_in h) k ≡ true) c.2 (entry_commits h.entries p e c.0 there c.1))
          at e there key false is =
              is ∙ sym (false_from_ne_true (is_committed (accepted_in h) t) (λ yes_it_has.
              let c = commit_entry h.entries t yes_it_has in
              let same : p ≡ c.0 = same_Some p c.0 (sym some ∙ end_is d h legal t c.0 c.1 c.3 (subst (λ k. is_some_eq (ended_txn c.1) k ≡ true) c.5 (commit_key c.1 c.2 c.4))) in
              let entry : e ≡ c.1 = same_Some e c.1 (sym there ∙ (ap (slice_get h.entries) same ∙ c.3)) in
              true≢false (sym (ap (λ e. is_some (commit_in e)) entry ∙ ap is_some c.4) ∙ is)))

  committed_begun : (t : ℕ) → is_committed (accepted_in h) t ≡ true → is_begun (accepted_in h) t ≡ true
  committed_begun t is =
      (known (legal_reached d h legal)).of_ends t (or_left (list_any (λ u. eqb u t) (commit_order (accepted_in h))) (list_any (λ u. eqb u t) (trace h).aborts) (sym (committed_among (accepted_in h) t) ∙ is))

  -- the commits at the places of ends are all commits, in order
  pub committed_at : (at : List ℕ) → IsStrictlyIncreasing at → AreEnds h at → map (λ (t : TxnId). t.0) (filter_map commit_in (filter_map (slice_get h.entries) at)) ≡ commit_order (accepted_in h)
  committed_at at rises ends = ap (map (λ (t : TxnId). t.0)) (sparse_entries commit_in h.entries at rises inside yields) ∙ committed_are h.entries
    where
      inside : (i : ℕ) → In i at → i < 0 + length h.entries
      inside i j =
          let r = ends.only i (In-Contains at i j) in
          let s = split_at ended_txn r.0 h.entries i r.1 in
          let l : i < length h.entries = get_inside h.entries i s.entry s.at in omega arith

      yields : (i : ℕ) (e : Entry) → slice_get h.entries i ≡ Some e → (In i at → ⊥) → commit_in e ≡ None
      yields i e there out = found (commit_in e) refl
        where
          found : (o : Option TxnId) → commit_in e ≡ o → commit_in e ≡ None
          found None is = is
          found (Some u) is =
              let committed : is_committed (accepted_in h) u.0 ≡ true = entry_commits h.entries i e u there is in
              let begun : is_begun (accepted_in h) u.0 ≡ true = committed_begun u.0 committed in
              absurd (out (Contains-In at i (ends.all u.0 i begun (end_is d h legal u.0 i e there (commit_key e u is)))))

  -- ---- the updates that a strict query must have seen
  -- a committed transaction ended before an index if and only if its commit is among the entries before it
  ended_early : (t place : ℕ) → is_committed (accepted_in h) t ≡ true → has_ended_before h t place ≡ is_committed (accepted (take place h.entries)) t
  ended_early t place is =
      let c = commit_entry h.entries t is in
      let end : last_place ended_txn t h.entries ≡ Some c.0 = end_is d h legal t c.0 c.1 c.3 (subst (λ k. is_some_eq (ended_txn c.1) k ≡ true) c.5 (commit_key c.1 c.2 c.4)) in
      ended (begin_record (accepted_in h) t) refl (committed_begun t is)
      ∙ (ap (λ o. is_end_before o place) end
      ∙ ⊎_elim
      (λ l. nat_lt_true c.0 place l ∙ sym (subst (λ k. is_committed (accepted (take place h.entries)) k ≡ true) c.5 (entry_commits (take place h.entries) c.0 c.1 c.2 (get_front h.entries place c.0 c.1 l c.3) c.4)))
      (λ g. nat_lt_false c.0 place g ∙ sym (false_from_ne_true (is_committed (accepted (take place h.entries)) t) (λ early.
      let f = commit_entry (take place h.entries) t early in
      let inside = get_take h.entries place f.0 f.1 f.3 in
      let low : f.0 < place = inside.0 in
      let same : c.0 ≡ f.0 = same_Some c.0 f.0 (sym end ∙ end_is d h legal t f.0 f.1 inside.1 (subst (λ k. is_some_eq (ended_txn f.1) k ≡ true) f.5 (commit_key f.1 f.2 f.4))) in
      omega (arith, same, low, g))))
      (cases_lt c.0 place))
    where
      ended : (o : Option BeginRecord) → begin_record (accepted_in h) t ≡ o → is_some o ≡ true → has_ended_before h t place ≡ is_end_before (last_place ended_txn t h.entries) place
      ended None none begun = absurd (true≢false (sym begun))
      ended (Some b) some begun = ap (λ o. is_ended_before (facts_by o (begin_place t h.entries) (last_place ended_txn t h.entries)) place) some

      nat_lt_true : (a b : ℕ) → a < b → nat_lt a b ≡ true
      nat_lt_true a b l = grind (arith, nat_tests)

      nat_lt_false : (a b : ℕ) → b ≤ a → nat_lt a b ≡ false
      nat_lt_false a b l = grind (arith, nat_tests)

      get_front : {X : Type 0} (xs : List X) (m i : ℕ) (x : X) → i < m → slice_get xs i ≡ Some x → slice_get (take m xs) i ≡ Some x
      get_front [] m i x l is = absurd (cc)
      get_front (y ∷ xs) zero i x l is = absurd (omega arith)
      get_front (y ∷ xs) (suc m) zero x l is = is
      get_front (y ∷ xs) (suc m) (suc i) x l is = get_front xs m i x (omega arith) is

  pub must_counted : (q place : ℕ) → take place h.entries ≡ before_begin h q → (updates : List TxnId) → map (λ (t : TxnId). t.0) updates ≡ updates_committed_before h q → is_strict (accepted_in h) q ≡ true
      → count_by (λ (t : TxnId). has_ended_before h t.0 place) updates ≡ length (must h q)
  must_counted q place front updates are strict =
      sym (length-filter (λ (t : TxnId). has_ended_before h t.0 place) updates)
      ∙ (ap length (filter_agree_in (λ (t : TxnId). has_ended_before h t.0 place) (λ (t : TxnId). is_committed (accepted (before_begin h q)) t.0) updates
      (λ t i. ended_early t.0 place (committed t i) ∙ ap (λ es. is_committed (accepted es) t.0) front))
      ∙ (sym (length-map (filter (λ (t : TxnId). is_committed (accepted (before_begin h q)) t.0) updates) (λ (t : TxnId). t.0))
      ∙ (ap length (mapped_filter (is_committed (accepted (before_begin h q))) updates ∙ ap (filter (is_committed (accepted (before_begin h q)))) are)
      ∙ ap length (sym (ap (λ b. if b then filter (is_committed (accepted (before_begin h q))) (updates_committed_before h q) else []) strict)))))
    where
      committed : (t : TxnId) → In t updates → is_committed (accepted_in h) t.0 ≡ true
      committed t i =
          let u : In t.0 (updates_committed_before h q) = subst (In t.0) are (numbers_in updates t i) in
          committed_among (accepted_in h) t.0 ∙ any-from_number (commit_order (accepted_in h)) t.0 (In-before_first (λ t. t == q) (commit_order (accepted_in h)) t.0 (In-of_filter (is_update (accepted_in h)) (before_first (λ t. t == q) (commit_order (accepted_in h))) t.0 u).0)

pub not_strict : (h : Schedule) (q : ℕ) → is_strict (accepted_in h) q ≡ false → 0 ≡ length (must h q)
not_strict h q is = ap length (sym (ap (λ b. if b then filter (is_committed (accepted (before_begin h q))) (updates_committed_before h q) else []) is))

-- the updates among those that committed before the query
pub updates_are : (h : Schedule) (q : ℕ) (committed : List TxnId) → map (λ (t : TxnId). t.0) committed ≡ commit_order (accepted_in h)
    → (updates : List TxnId) → updates ≡ filter (λ (t : TxnId). is_update (accepted_in h) t.0) (before_first (λ (t : TxnId). t.0 == q) committed) → map (λ (t : TxnId). t.0) updates ≡ updates_committed_before h q
updates_are h q committed are updates is =
    ap (map (λ (t : TxnId). t.0)) is
    ∙ (mapped_filter (is_update (accepted_in h)) (before_first (λ (t : TxnId). t.0 == q) committed)
    ∙ ap (filter (is_update (accepted_in h))) (mapped_before committed ∙ ap (before_first (λ t. t == q)) are))
  where
    mapped_before : (ts : List TxnId) → map (λ (t : TxnId). t.0) (before_first (λ (t : TxnId). t.0 == q) ts) ≡ before_first (λ t. t == q) (map (λ (t : TxnId). t.0) ts)
    mapped_before [] = refl
    mapped_before (t ∷ ts) =
        elim (cases_Bool (t.0 == q)) [
          | inl here ↦ ap (map (λ (t : TxnId). t.0)) (before_first-here (λ (t : TxnId). t.0 == q) t ts here) ∙ sym (before_first-here (λ t. t == q) t.0 (map (λ (t : TxnId). t.0) ts) here)
          | inr away ↦ ap (map (λ (t : TxnId). t.0)) (before_first-later (λ (t : TxnId). t.0 == q) t ts away) ∙ (ap (λ l. t.0 ∷ l) (mapped_before ts) ∙ sym (before_first-later (λ t. t == q) t.0 (map (λ (t : TxnId). t.0) ts) away))
        ]

-- ---- the ends, number by number
pub record AreEndsBelow (es : List Entry) (t : ℕ) (ends : List ℕ) : Type 0 where
  pub all : (k p : ℕ) → 1 ≤ k → k < t → last_place ended_txn k es ≡ Some p → In p ends
  pub only : (p : ℕ) → In p ends → (k : ℕ) × (last_place ended_txn k es ≡ Some p)

pub ends_none : (es : List Entry) → AreEndsBelow es 1 []
ends_none es = record { all = λ k p l m is. absurd (omega arith); only = λ p i. absurd i }

pub ends_more : (es : List Entry) (t : ℕ) (ends more : List ℕ) (end : Option ℕ) → end ≡ last_place ended_txn t es → more ≡ ends ++ end_in end → AreEndsBelow es t ends → AreEndsBelow es (t + 1) more
ends_more es t ends more end is grown was = subst (AreEndsBelow es (t + 1)) (sym grown) (at end is)
  where
    at : (o : Option ℕ) → o ≡ last_place ended_txn t es → AreEndsBelow es (t + 1) (ends ++ end_in o)
    at o is = record {
      all = λ k p low high at_k.
          ⊎_elim
          (λ e. In-append_right ends (end_in o) p (subst (λ q. In p (end_in q)) (sym (is ∙ (ap (λ k. last_place ended_txn k es) (sym e) ∙ at_k))) (inl refl)))
          (λ ne. In-append_left ends (end_in o) p (was.all k p low (⊎_elim (λ lt. lt) (λ gt. absurd (omega (arith, gt, high))) ne) at_k))
          (cases_order k t);
      only = λ p i. ⊎_elim (λ j. was.only p j) (λ j. (t, last o is p j)) (In-append_cases ends (end_in o) p i);
    }
      where
        last : (o : Option ℕ) → o ≡ last_place ended_txn t es → (p : ℕ) → In p (end_in o) → last_place ended_txn t es ≡ Some p
        last None is p i = absurd i
        last (Some e) is p i = sym is ∙ ⊎_elim (λ f. ap Some f) (λ b. absurd b) i

pub known_below : (d : DistanceFunction) (h : Schedule) → IsLegal d h → (t : ℕ) (f : Facts) → Some f ≡ facts_of h.entries t → (1 ≤ t) × (t ≤ 65535)
known_below d h legal t f some =
    let n = begun_in_range (accepted_in h) t (begun_some h.entries t f some) in
    let upper_bound : length (begin_records (accepted_in h)) ≤ 65535 = legal_begins d h legal in
    (n.0, omega (arith, n.1, upper_bound))

pub ends_all : (h : Schedule) (t : ℕ) (ends found : List ℕ) → 1 ≤ t → None ≡ facts_of h.entries t → AreEndsBelow h.entries t ends → ((p : ℕ) → In p ends → Contains found p) → ((p : ℕ) → Contains found p → In p ends) → AreEnds h found
ends_all h t ends found low none below there back = record {
  all = λ k p begun is.
      let n = begun_in_range (accepted_in h) k begun in
      let under : k < t = below_end t low (facts_none h.entries t none) k n.1 in
      there p (below.all k p n.0 under is);
  only = λ p c. below.only p (back p c);
}
  where
    past : (bs : List BeginRecord) (j : ℕ) → slice_get bs j ≡ None → length bs ≤ j
    past [] j is = omega arith
    past (b ∷ bs) zero is = absurd (cc)
    past (b ∷ bs) (suc j) is = let l : length bs ≤ j = past bs j is in omega arith

    below_end : (t : ℕ) → 1 ≤ t → begin_record (accepted_in h) t ≡ None → (k : ℕ) → k < 1 + length (begin_records (accepted_in h)) → k < t
    below_end zero low is k l = absurd (omega arith)
    below_end (suc j) low is k l = let m : length (begin_records (accepted_in h)) ≤ j = past (begin_records (accepted_in h)) j is in omega arith
