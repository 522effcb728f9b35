-- One more update of the pass back along the updates that closes a marked set.
use Rattle.std.proofs.Common.{◌≡◌, ℕ, suc, ◌<◌, ◌≤◌, Bool, true, false, ◌&&◌, ◌||◌, eqb, List, length, filter, set, refl, sym, ap, ◌∙◌, subst, inl, inr, ⊎_elim, arith}
use Rattle.std.specs.List.{list_any}
use Rattle.std.proofs.lemmas.Bool.{true≢false, and_parts, and_from, or_cases, or_left, or_right, eqb-true, cases_eq}
use Rattle.esr_history.specs.Machine.{DistanceFunction, Schedule, IsLegal}
use Rattle.esr_history.specs.Operations.{Operation, operations}
use Rattle.esr_history.specs.Serial.{is_before}
use Rattle.esr_history.specs.Queries.{updates_committed_before}
use Rattle.esr_history.proofs.Membership.{In, In-any, any-from_In, In-of_filter, In-Contains}
use Rattle.esr_order.specs.declared.accesses.Access.{Access}
use Rattle.esr_order.specs.Placements.{IsClosed}
use Rattle.esr_order.specs.Chains.{nth}
use Rattle.esr_order.specs.Scans.{access_of, accesses_in}
use Rattle.esr_order.specs.BackwardSearch.{Seen, conflicts_with, is_access, marked}
use Rattle.esr_order.proofs.Lists.{of_map}
use Rattle.esr_order.proofs.ConflictOrder.{in_order}
use Rattle.esr_order.proofs.BackwardSearch.{did_by_operation, accessed, operation_did}
use Rattle.esr_order.proofs.Batches.{ahead, conflict_parts}
use Rattle.esr_bound.specs.Amounts.{mark_at, HasMarked}
use Rattle.esr_bound.proofs.LowerBound.{nth_in, pairs_at}
use Rattle.esr_stream.specs.Closing.{IsAdded, IsFlag, SummarizeLater, has_access}
use Rattle.esr_stream.specs.Passes.{NoneMarkedFrom, StayMarked}
use Rattle.esr_stream.proofs.PassLaws.{mark_same, mark_other, stay_more}

-- from position k on, marks are closed, and each closed set with the seeds has all marked updates
pub record IsClosedFrom (h : Schedule) (q k : ℕ) (seeds marks : List Bool) (s : Seen) : Type 0 where
  pub len : length marks ≡ length seeds
  pub stay : StayMarked seeds marks
  pub later : SummarizeLater h q k marks s
  pub down : (i j : ℕ) → k ≤ i → i < j → j < length (updates_committed_before h q) → is_before h (nth (updates_committed_before h q) i) (nth (updates_committed_before h q) j) ≡ true → mark_at marks j ≡ true → mark_at marks i ≡ true
  pub spread : (S : ℕ → Bool) → IsClosed h q S → HasMarked h q seeds S → HasMarked h q marks S

no_flag : (h : Schedule) (q k : ℕ) (marks : List Bool) (x : ℕ) (w flag : Bool) → flag ≡ false → NoneMarkedFrom k marks → IsFlag h q k marks x w flag
no_flag h q k marks x w flag none past = record {
  set = λ t. absurd (true≢false (sym t ∙ none));
  all = λ j l m a b. absurd (true≢false (sym a ∙ past j l));
}

pub closed_start : (h : Schedule) (q k : ℕ) (marks : List Bool) (s : Seen) → NoneMarkedFrom k marks → ((x : ℕ) → marked s.read x ≡ false) → ((x : ℕ) → marked s.written x ≡ false) → IsClosedFrom h q k marks marks s
closed_start h q k marks s past read written = record {
  len = refl;
  stay = λ i m. m;
  later = record {
    read = λ x. no_flag h q k marks x false (marked s.read x) (read x) past;
    written = λ x. no_flag h q k marks x true (marked s.written x) (written x) past;
  };
  down = λ i j l m n b t. absurd (true≢false (sym t ∙ past j (omega (arith, l, m))));
  spread = λ S closed has. has;
}

module _ (d : DistanceFunction) (h : Schedule) (q : ℕ) (legal : IsLegal d h) (k i : ℕ) (next : k ≡ suc i) (inside : i < length (updates_committed_before h q)) (seeds marks : List Bool) (sized : i < length marks) (s t : Seen) (so_far : IsClosedFrom h q k seeds marks s)
    (row : List Access) (is_row : row ≡ accesses_in h.entries (nth (updates_committed_before h q) i)) (member : Bool) (is_member : member ≡ (mark_at marks i || list_any (conflicts_with s) row))
    (added : member ≡ true → IsAdded row s t) (other : member ≡ false → t ≡ s) where
  abbrev u : ℕ
  u = nth (updates_committed_before h q) i

  own : mark_at (set marks i member) i ≡ member
  own = mark_same marks i member sized

  above : (j : ℕ) → k ≤ j → mark_at (set marks i member) j ≡ mark_at marks j
  above j l = mark_other marks i j member (λ e. omega (arith, l, e, next))

  -- ---- the flags

  flag_added : (x : ℕ) (w flag new : Bool) → member ≡ true → new ≡ (flag || list_any (is_access w x) row) → IsFlag h q k marks x w flag → IsFlag h q i (set marks i member) x w new
  flag_added x w flag new m is was = record {
    set = λ e. elim (or_cases flag (list_any (is_access w x) row) (sym is ∙ e)) [
      | inl f ↦ let r = was.set f in let l : k ≤ r.0 = r.1 in (r.0, omega (arith, l, next), r.2, above r.0 r.1 ∙ r.3, r.4)
      | inr a ↦ (i, omega arith, inside, own ∙ m, sym (ap (list_any (is_access w x)) is_row) ∙ a)
    ];
    all = λ j l n a b. is ∙ elim (cases_eq j i) [
      | inl e ↦ or_right flag (list_any (is_access w x) row) (ap (list_any (is_access w x)) is_row ∙ subst (λ p. has_access h w x (nth (updates_committed_before h q) p) ≡ true) e b)
      | inr ne ↦ let up : k ≤ j = omega (arith, l, ne, next) in or_left flag (list_any (is_access w x) row) (was.all j up n (sym (above j up) ∙ a) b)
    ];
  }

  flag_kept : (x : ℕ) (w flag new : Bool) → member ≡ false → new ≡ flag → IsFlag h q k marks x w flag → IsFlag h q i (set marks i member) x w new
  flag_kept x w flag new m is was = record {
    set = λ e. let r = was.set (sym is ∙ e) in let l : k ≤ r.0 = r.1 in (r.0, omega (arith, l, next), r.2, above r.0 r.1 ∙ r.3, r.4);
    all = λ j l n a b. is ∙ elim (cases_eq j i) [
      | inl e ↦ absurd (true≢false (sym a ∙ (ap (mark_at (set marks i member)) e ∙ own ∙ m)))
      | inr ne ↦ let up : k ≤ j = omega (arith, l, ne, next) in was.all j up n (sym (above j up) ∙ a) b
    ];
  }

  later_after : (b : Bool) → member ≡ b → SummarizeLater h q i (set marks i member) t
  later_after true m = record {
    read = λ x. flag_added x false (marked s.read x) (marked t.read x) m ((added m).read x) (so_far.later.read x);
    written = λ x. flag_added x true (marked s.written x) (marked t.written x) m ((added m).written x) (so_far.later.written x);
  }
  later_after false m = record {
    read = λ x. flag_kept x false (marked s.read x) (marked t.read x) m (ap (λ (z : Seen). marked z.read x) (other m)) (so_far.later.read x);
    written = λ x. flag_kept x true (marked s.written x) (marked t.written x) m (ap (λ (z : Seen). marked z.written x) (other m)) (so_far.later.written x);
  }

  -- ---- a predecessor of a member has a conflict

  conflict_with : (j : ℕ) → k ≤ j → j < length (updates_committed_before h q) → mark_at marks j ≡ true → is_before h (nth (updates_committed_before h q) i) (nth (updates_committed_before h q) j) ≡ true → list_any (conflicts_with s) row ≡ true
  conflict_with j l n m b =
      let c = conflict_parts h (nth (updates_committed_before h q) i) (nth (updates_committed_before h q) j) b in
      ap (list_any (conflicts_with s)) is_row
      ∙ any-from_In (conflicts_with s) (accesses_in h.entries (nth (updates_committed_before h q) i)) (access_of c.0) (accessed h c.0 (nth (updates_committed_before h q) i) c.2 c.4) (at c.0 c.1 c.3 c.5 c.6 c.7 c.1.writes refl)
    where
      at : (o p : Operation) → In p (operations h) → p.txn ≡ nth (updates_committed_before h q) j → o.item ≡ p.item → (o.writes || p.writes) ≡ true → (w : Bool) → p.writes ≡ w → conflicts_with s (access_of o) ≡ true
      at o p ip txn item writes true is =
          or_left (marked s.written o.item) (o.writes && marked s.read o.item)
          ((so_far.later.written o.item).all j l n m (operation_did h true o.item (nth (updates_committed_before h q) j) p ip txn (sym item) is))
      at o p ip txn item writes false is =
          or_right (marked s.written o.item) (o.writes && marked s.read o.item)
          (and_from o.writes (marked s.read o.item) (⊎_elim (λ w. w) (λ w. absurd (true≢false (sym w ∙ is))) (or_cases o.writes p.writes writes))
          ((so_far.later.read o.item).all j l n m (operation_did h false o.item (nth (updates_committed_before h q) j) p ip txn (sym item) is)))

  down_after : (a j : ℕ) → i ≤ a → a < j → j < length (updates_committed_before h q) → is_before h (nth (updates_committed_before h q) a) (nth (updates_committed_before h q) j) ≡ true → mark_at (set marks i member) j ≡ true → mark_at (set marks i member) a ≡ true
  down_after a j l m n b t =
      let high : k ≤ j = omega (arith, l, m, next) in
      let was : mark_at marks j ≡ true = sym (above j high) ∙ t in
      elim (cases_eq a i) [
        | inl e ↦
            let c = conflict_with j high n was (subst (λ p. is_before h (nth (updates_committed_before h q) p) (nth (updates_committed_before h q) j) ≡ true) e b) in
            ap (mark_at (set marks i member)) e ∙ own ∙ is_member ∙ or_right (mark_at marks i) (list_any (conflicts_with s) row) c
        | inr ne ↦
            let up : k ≤ a = omega (arith, l, ne, next) in
            above a up ∙ so_far.down a j up m n b was
      ]

  -- ---- a conflict makes a predecessor of a member

  module _ (S : ℕ → Bool) (closed : IsClosed h q S) (has : HasMarked h q marks S) where
    from_flag : (o : Operation) → In o (operations h) → o.txn ≡ nth (updates_committed_before h q) i → (w : Bool) (flag : Bool) → IsFlag h q k marks o.item w flag → flag ≡ true → (o.writes || w) ≡ true → S (nth (updates_committed_before h q) i) ≡ true
    from_flag o io txn w flag is f writes =
        let r = is.set f in
        let high : k ≤ r.0 = r.1 in
        let p = did_by_operation h w o.item (nth (updates_committed_before h q) r.0) r.4 in
        let low : i < r.0 = omega (arith, high, next) in
        let apart : nth (updates_committed_before h q) i ≡ nth (updates_committed_before h q) r.0 → ⊥ = pairs_at (λ u v. u ≡ v → ⊥) (updates_committed_before h q) (in_order d h q legal).once i r.0 low r.2 in
        let back : is_before h (nth (updates_committed_before h q) r.0) (nth (updates_committed_before h q) i) ≡ false = pairs_at (λ u v. is_before h v u ≡ false) (updates_committed_before h q) (in_order d h q legal).keeps i r.0 low r.2 in
        let before : is_before h (nth (updates_committed_before h q) i) (nth (updates_committed_before h q) r.0) ≡ true =
        ahead h o p.0 io p.1 (λ e. apart (sym txn ∙ e ∙ p.2)) (sym p.3) (ap (λ b. o.writes || b) p.4 ∙ writes) (nth (updates_committed_before h q) i) (nth (updates_committed_before h q) r.0) txn p.2 back in
        closed.downward (nth (updates_committed_before h q) i) (nth (updates_committed_before h q) r.0) (In-Contains (updates_committed_before h q) (nth (updates_committed_before h q) i) (nth_in (updates_committed_before h q) i inside)) (In-Contains (updates_committed_before h q) (nth (updates_committed_before h q) r.0) (nth_in (updates_committed_before h q) r.0 r.2)) before (has r.0 r.2 r.3)

    by_conflict : list_any (conflicts_with s) row ≡ true → S (nth (updates_committed_before h q) i) ≡ true
    by_conflict c =
        let a = In-any (conflicts_with s) (accesses_in h.entries (nth (updates_committed_before h q) i)) (sym (ap (list_any (conflicts_with s)) is_row) ∙ c) in
        let o = of_map access_of (filter (λ (o : Operation). eqb o.txn (nth (updates_committed_before h q) i)) (operations h)) a.0 a.1 in
        let p = In-of_filter (λ (o : Operation). eqb o.txn (nth (updates_committed_before h q) i)) (operations h) o.0 o.1 in
        let txn : o.0.txn ≡ nth (updates_committed_before h q) i = eqb-true o.0.txn (nth (updates_committed_before h q) i) p.1 in
        let test : conflicts_with s (access_of o.0) ≡ true = ap (conflicts_with s) o.2 ∙ a.2 in
        elim (or_cases (marked s.written o.0.item) (o.0.writes && marked s.read o.0.item) test) [
          | inl f ↦ from_flag o.0 p.0 txn true (marked s.written o.0.item) (so_far.later.written o.0.item) f (or_right o.0.writes true refl)
          | inr g ↦
              let both = and_parts o.0.writes (marked s.read o.0.item) g in
              from_flag o.0 p.0 txn false (marked s.read o.0.item) (so_far.later.read o.0.item) both.1 (or_left o.0.writes false both.0)
        ]

    has_after : HasMarked h q (set marks i member) S
    has_after j n m = elim (cases_eq j i) [
      | inl e ↦
          subst (λ p. S (nth (updates_committed_before h q) p) ≡ true) (sym e)
          (elim (or_cases (mark_at marks i) (list_any (conflicts_with s) row) (sym is_member ∙ sym own ∙ sym (ap (mark_at (set marks i member)) e) ∙ m)) [
            | inl was ↦ has i inside was
            | inr c ↦ by_conflict c
          ])
      | inr ne ↦ has j n (sym (mark_other marks i j member ne) ∙ m)
    ]

  pub closed_more : IsClosedFrom h q i seeds (set marks i member) t
  closed_more = record {
    len = Rattle.std.proofs.lemmas.List.length-set marks i member ∙ so_far.len;
    stay = stay_more seeds marks i member sized (λ m. is_member ∙ or_left (mark_at marks i) (list_any (conflicts_with s) row) m) so_far.stay;
    later = later_after member refl;
    down = down_after;
    spread = λ S closed has. has_after S closed (so_far.spread S closed has);
  }
