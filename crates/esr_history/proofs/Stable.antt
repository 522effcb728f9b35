-- The data of a finding of a committed query do not change in a longer legal history.
use Rattle.std.proofs.Common.{◌≡◌, ℕ, Bool, true, false, not, ◌&&◌, List, [], ◌∷◌, ◌++◌, refl, sym, ◌∙◌, ap, subst, ⊎_elim, filter, eqb, Option, arith}
use Rattle.std.specs.List.{list_any, before_first}
use Rattle.std.proofs.lemmas.List.Folds.{list_any-append}
use Rattle.std.proofs.lemmas.Bool.{true≢false, and_parts, and_right, or_cases, or_left, or_right, or_parts, eqb-true, ne_eqb, false_from_ne_true}
use Rattle.esr_history.specs.Operations.{Operation}
use Rattle.esr_history.specs.Events.{BeginRecord}
use Rattle.esr_history.specs.Serial.{any_ordered_pair, conflict}
use Rattle.esr_history.proofs.Membership.{In, filter_agree_in, any-from_number}
use Rattle.esr_history.proofs.Traces.{is_among, Trace, update_in, ended_in, with_operation, with_commit, with_abort, with_begins, Keeps}
use Rattle.esr_history.proofs.Locking.{Known, update_stays, is_before_in, any_pair_push, among_keep}
use Rattle.esr_history.proofs.Versions.{filter_push_false, wrote_by}
use Rattle.esr_history.proofs.Covered.{read_by}
use Rattle.esr_history.proofs.Bounded.{before_first-unchanged, In-before_first, updates_of_in, listed_committed}

pub any_pair_keep : {X : Type 0} (r : X → X → Bool) (xs : List X) (y : X) → any_ordered_pair r xs ≡ true → any_ordered_pair r (xs ++ y ∷ []) ≡ true
any_pair_keep r [] y h = absurd (true≢false (sym h))
any_pair_keep r (x ∷ xs) y h =
    ⊎_elim
    (λ e. or_left (list_any (r x) (xs ++ y ∷ [])) (any_ordered_pair r (xs ++ y ∷ []))
    (list_any-append (r x) xs (y ∷ []) ∙ or_left (list_any (r x) xs) (list_any (r x) (y ∷ [])) e))
    (λ e. or_right (list_any (r x) (xs ++ y ∷ [])) (any_ordered_pair r (xs ++ y ∷ [])) (any_pair_keep r xs y e))
    (or_cases (list_any (r x) xs) (any_ordered_pair r xs) h)

-- of a committed query: its updates, its reads, the writes of its updates and their order, as in the trace t0
pub record SameFor (q : ℕ) (t0 t : Trace) : Type 0 where
  pub committed : is_among t.commits q ≡ true
  pub begins : t.begin_record q ≡ t0.begin_record q
  pub updates : updates_of_in t q ≡ updates_of_in t0 q
  pub reads : filter (read_by q) t.operations ≡ filter (read_by q) t0.operations
  pub writes : (u x : ℕ) → In u (updates_of_in t0 q) → filter (wrote_by x u) t.operations ≡ filter (wrote_by x u) t0.operations
  pub order : (u v : ℕ) → In u (updates_of_in t0 q) → In v (updates_of_in t0 q) → is_before_in t u v ≡ is_before_in t0 u v

same_from_iff : (a b : Bool) → (a ≡ true → b ≡ true) → (b ≡ true → a ≡ true) → a ≡ b
same_from_iff true b f g = sym (f refl)
same_from_iff false b f g = sym (false_from_ne_true b (λ h. true≢false (sym (g h))))

pub same_with_begins : (q : ℕ) (t0 t : Trace) (b : ℕ → Option BeginRecord) → Keeps t.begin_record b → Known t → SameFor q t0 t → SameFor q t0 (with_begins t b)
same_with_begins q t0 t b keeps k h = record {
  committed = h.committed;
  begins = keeps q (k.of_ends q (or_left (is_among t.commits q) (is_among t.aborts q) h.committed)) ∙ h.begins;
  updates = filter_agree_in (update_in (with_begins t b)) (update_in t) (before_first (λ u. eqb u q) t.commits)
      (λ u i. update_stays t b u keeps (k.of_ends u (or_left (is_among t.commits u) (is_among t.aborts u) (any-from_number t.commits u (In-before_first (λ u. eqb u q) t.commits u i)))))
      ∙ h.updates;
  reads = h.reads;
  writes = h.writes;
  order = h.order;
}

pub same_with_operation : (q : ℕ) (t0 t : Trace) (o : Operation) → ended_in t o.txn ≡ false → SameFor q t0 t → SameFor q t0 (with_operation t o)
same_with_operation q t0 t o running h = record {
  committed = h.committed;
  begins = h.begins;
  updates = h.updates;
  reads = filter_push_false (read_by q) t.operations o (and_right (not o.writes) (eqb o.txn q) (ne_eqb o.txn q (λ e. apart q h.committed e))) ∙ h.reads;
  writes = λ u x i. filter_push_false (wrote_by x u) t.operations o (and_right (o.writes && eqb o.item x) (eqb o.txn u) (ne_eqb o.txn u (λ e. apart u (in_commits u i) e))) ∙ h.writes u x i;
  order = λ u v iu iv. same_from_iff (is_before_in (with_operation t o) u v) (is_before_in t u v)
      (λ b. ⊎_elim (λ e. e)
      (λ f.
      let p = and_parts (eqb f.0.txn u) ((eqb o.txn v) && conflict f.0 o) f.2 in
      let r = and_parts (eqb o.txn v) (conflict f.0 o) p.1 in
      absurd (apart v (in_commits v iv) (eqb-true o.txn v r.0)))
      (any_pair_push (λ a b. (eqb a.txn u) && ((eqb b.txn v) && conflict a b)) t.operations o b))
      (λ b. any_pair_keep (λ a b. (eqb a.txn u) && ((eqb b.txn v) && conflict a b)) t.operations o b)
      ∙ h.order u v iu iv;
}
  where
    apart : (u : ℕ) → is_among t.commits u ≡ true → o.txn ≡ u → ⊥
    apart u c e = true≢false (sym c ∙ (ap (is_among t.commits) (sym e) ∙ (or_parts (is_among t.commits o.txn) (is_among t.aborts o.txn) running).0))

    in_commits : (u : ℕ) → In u (updates_of_in t0 q) → is_among t.commits u ≡ true
    in_commits u i = listed_committed t q u (subst (In u) (sym h.updates) i)

pub same_with_commit : (q : ℕ) (t0 t : Trace) (u : ℕ) → SameFor q t0 t → SameFor q t0 (with_commit t u)
same_with_commit q t0 t u h = grind (arith, among_keep, filter (update_in t), update_in t, before_first-unchanged, eqb)

pub same_with_abort : (q : ℕ) (t0 t : Trace) (u : ℕ) → SameFor q t0 t → SameFor q t0 (with_abort t u)
same_with_abort q t0 t u h = record { committed = h.committed; begins = h.begins; updates = h.updates; reads = h.reads; writes = h.writes; order = h.order }
