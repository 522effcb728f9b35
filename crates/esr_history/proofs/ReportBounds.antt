-- The reads of an active query stay within its bound of every mixture, as long as each charge is added to the bound.
use Rattle.std.proofs.Common.{◌≡◌, ℕ, ◌+◌, ◌*◌, ◌≤◌, ℤ, Bool, true, false, cond, not, ◌&&◌, ◌⊎◌, List, [], ◌∷◌, ◌++◌, refl, sym, ◌∙◌, ap, subst, inl, inr, ⊎_elim, arith, filter, eqb, Option, Some, None, count_by, sum_by, is_some, append_assoc}
use Rattle.std.specs.List.{before_first}
use Rattle.std.proofs.Math.Path.{fun_ext}
use Rattle.std.proofs.Math.Nat.{le_trans, mul-le-mul_right}
use Rattle.std.proofs.lemmas.List.Sums.{sum_by-cons, sum_by_push}
use Rattle.std.proofs.lemmas.Bool.{true≢false, cases_Bool, cases_eq, eq-eqb, ne_eqb, false_from_ne_true, cond-true, cond-false, or_parts, or_left}
use Rattle.esr_history.specs.Operations.{Operation}
use Rattle.esr_history.specs.Events.{BeginRecord}
use Rattle.esr_history.proofs.Membership.{In, filter_agree_in, any-from_number}
use Rattle.esr_history.proofs.Traces.{is_among, holds_of, Setting, IsMetric, reads_item, writes_item, Trace, update_in, query_in, ended_in, Active, NoOtherWriter, with_operation, with_commit, with_abort, with_begins, read_of, write_of, current_in, committed_in, read_count_in, Reached, IsKept, reached_kept}
use Rattle.esr_history.proofs.Locking.{known, update_stays, among_push, committed_updates_in, ended_kept_commit, ended_kept_abort}
use Rattle.esr_history.proofs.Versions.{writers, settled, item_parts, current_after_abort, committed_after_commit, committed_with, current_with_other, current_with_write, filter_push_false, filter_push_true, state_in, state_with, committed_version}
use Rattle.esr_history.proofs.Covered.{read_by, IsMixture}
use Rattle.esr_history.proofs.Bounded.{before_first-unchanged, before_first-all, In-before_first, updates_of_in, listed_committed}

-- the distance of the values read from the values w
abbrev pub distance_at : (ℕ → ℤ → ℤ → ℕ) → List Operation → (ℕ → ℤ) → ℕ
distance_at d read_ops w = sum_by (λ o. d o.item o.value (w o.item)) read_ops

-- the reads of q are of items that it has read as often, and within the bound of every mixture
pub record AreReadsWithin (s : Setting) (t : Trace) (q : ℕ) (read_ops : List Operation) (b : ℕ) : Type 0 where
  pub held : (x : ℕ) → count_by (λ o. eqb o.item x) read_ops ≤ read_count_in t x q
  pub within : (w : ℕ → ℤ) → IsMixture s.opening t w → distance_at s.distance read_ops w ≤ b

count_push : (p : Operation → Bool) (xs : List Operation) (y : Operation) → count_by p (xs ++ y ∷ []) ≡ count_by p xs + cond (p y) 1 0
count_push p xs y = sum_by_push (λ z. cond (p z) 1 0) xs y

-- a longer list counts no less
count_more : (p : Operation → Bool) (xs : List Operation) (y : Operation) (n : ℕ) → n ≤ count_by p xs → n ≤ count_by p (xs ++ y ∷ [])
count_more p xs y n h = rw (count_push p xs y) (omega (arith, h))

-- a read changes no mixture
mixture_before : (o : ℕ → ℤ) (t : Trace) (r : Operation) (w : ℕ → ℤ) → r.writes ≡ false → ended_in t r.txn ≡ false → IsMixture o (with_operation t r) w → IsMixture o t w
mixture_before o t r w reads running mix y =
    ⊎_elim (λ e. inl (e ∙ committed_with o t r y running))
    (λ e. inr (e ∙ current_with_other o t r y (ap (λ b. b && eqb r.item y) reads))) (mix y)

module _ {s : Setting} (d : IsMetric s.distance) (t : Trace) (q : ℕ) (read_ops : List Operation) (b : ℕ) (bound_before : AreReadsWithin s t q read_ops b) where
  looser : (c : ℕ) → AreReadsWithin s t q read_ops (b + c)
  looser c = record { held = bound_before.held; within = λ w mix. let h : distance_at s.distance read_ops w ≤ b = bound_before.within w mix in omega (arith, h) }

  -- a read by another
  read_by_other : (r : Operation) → r.writes ≡ false → ended_in t r.txn ≡ false → AreReadsWithin s (with_operation t r) q read_ops b
  read_by_other r reads running = record {
    held = λ x. count_more (λ o. reads_item x o && eqb o.txn q) t.operations r (count_by (λ o. eqb o.item x) read_ops) (bound_before.held x);
    within = λ w mix. bound_before.within w (mixture_before s.opening t r w reads running mix);
  }

  -- its own read, of a value that is within the charge of both values of the item
  read_by_itself : (x : ℕ) (c : ℕ) → ended_in t q ≡ false
      → ((w : ℕ → ℤ) → IsMixture s.opening t w → s.distance x (current_in s.opening t x) (w x) ≤ c)
      → AreReadsWithin s (with_operation t (read_of q x (current_in s.opening t x))) q (read_ops ++ read_of q x (current_in s.opening t x) ∷ []) (b + c)
  read_by_itself x c running paid = record {
    held = counted;
    within = λ w mix.
        let old : IsMixture s.opening t w = mixture_before s.opening t r w refl running mix in
        let h : distance_at s.distance read_ops w ≤ b = bound_before.within w old in
        let one : s.distance x (current_in s.opening t x) (w x) ≤ c = paid w old in
        rw (sum_by_push (λ o. s.distance o.item o.value (w o.item)) read_ops r) (omega (arith, h, one));
  }
    where
      r : Operation
      r = read_of q x (current_in s.opening t x)

      both : (y : ℕ) → cond (eqb x y) 1 0 ≤ cond (reads_item y r && eqb q q) 1 0
      both y = rw (eq-eqb q q refl) (less (eqb x y))
        where
          less : (e : Bool) → cond e 1 0 ≤ cond (e && true) 1 0
          less true = omega arith
          less false = omega arith

      counted : (y : ℕ) → count_by (λ o. eqb o.item y) (read_ops ++ r ∷ []) ≤ count_by (λ o. reads_item y o && eqb o.txn q) (t.operations ++ r ∷ [])
      counted y =
          let h : count_by (λ o. eqb o.item y) read_ops ≤ count_by (λ o. reads_item y o && eqb o.txn q) t.operations = bound_before.held y in
          let k : cond (eqb x y) 1 0 ≤ cond (reads_item y r && eqb q q) 1 0 = both y in
          rw (count_push (λ o. eqb o.item y) read_ops r, count_push (λ o. reads_item y o && eqb o.txn q) t.operations r) (omega (arith, h, k))

  -- a write is charged for each read of the item, and so once per value of it that q got
  written : (u x : ℕ) (v : ℤ) (c : ℕ) → ended_in t u ≡ false
      → read_count_in t x q * s.distance x v (current_in s.opening t x) ≤ c
      → AreReadsWithin s (with_operation t (write_of u x v)) q read_ops (b + c)
  written u x v c running paid = record {
    held = λ y. count_more (λ o. reads_item y o && eqb o.txn q) t.operations (write_of u x v) (count_by (λ o. eqb o.item y) read_ops) (bound_before.held y);
    within = λ w mix.
        ⊎_elim
        (λ e. more_le (distance_at s.distance read_ops w) b c (bound_before.within w
        (λ y. ⊎_elim (λ yx. inl (ap w yx ∙ (e ∙ (committed_with s.opening t (write_of u x v) x running ∙ ap (committed_in s.opening t) (sym yx))))) (λ nyx. elsewhere w y nyx (mix y)) (cases_eq y x))))
        (λ e. moved w (e ∙ current_with_write s.opening t (write_of u x v) x running (eq-eqb x x refl)) (λ y nyx. elsewhere w y nyx (mix y)))
        (mix x);
  }
    where
      more_le : (a b c : ℕ) → a ≤ b → a ≤ b + c
      more_le a b c h = omega (arith, h)

      elsewhere : (w : ℕ → ℤ) (y : ℕ) → (y ≡ x → ⊥) →
          ((w y ≡ committed_in s.opening (with_operation t (write_of u x v)) y) ⊎ (w y ≡ current_in s.opening (with_operation t (write_of u x v)) y)) →
          (w y ≡ committed_in s.opening t y) ⊎ (w y ≡ current_in s.opening t y)
      elsewhere w y nyx mx =
          ⊎_elim (λ e. inl (e ∙ committed_with s.opening t (write_of u x v) y running))
          (λ e. inr (e ∙ current_with_other s.opening t (write_of u x v) y (ne_eqb x y (λ xy. nyx (sym xy))))) mx

      single : (w : ℕ → ℤ) → w x ≡ v → (o : Operation) →
          s.distance o.item o.value (w o.item) ≤ s.distance o.item o.value (cond (eqb o.item x) (current_in s.opening t x) (w o.item)) + cond (eqb o.item x) (s.distance x v (current_in s.opening t x)) 0
      single w wx o =
          let cur : ℤ = current_in s.opening t x in
          ⊎_elim
          (λ e.
          let e1 : w o.item ≡ v = ap w e ∙ wx in
          let e4 : s.distance o.item cur v ≡ s.distance x v cur = ap (λ y. s.distance y cur v) e ∙ d.symmetric x cur v in
          let tri : s.distance o.item o.value v ≤ s.distance o.item o.value cur + s.distance o.item cur v = d.triangle o.item o.value cur v in
          subst (λ z. s.distance o.item o.value z ≤ s.distance o.item o.value (cond (eqb o.item x) cur (w o.item)) + cond (eqb o.item x) (s.distance x v cur) 0) (sym e1)
          (subst (λ z. s.distance o.item o.value v ≤ s.distance o.item o.value (cond z cur (w o.item)) + cond z (s.distance x v cur) 0) (sym (eq-eqb o.item x e))
          (subst (λ z. s.distance o.item o.value v ≤ s.distance o.item o.value cur + z) e4 tri)))
          (λ ne. subst (λ z. s.distance o.item o.value (w o.item) ≤ s.distance o.item o.value (cond z cur (w o.item)) + cond z (s.distance x v cur) 0)
          (sym (ne_eqb o.item x ne)) (omega arith))
          (cases_eq o.item x)

      sums : (f g : Operation → ℕ) (k : ℕ) (xs : List Operation) → ((o : Operation) → f o ≤ g o + cond (eqb o.item x) k 0)
          → sum_by f xs ≤ sum_by g xs + count_by (λ o. eqb o.item x) xs * k
      sums f g k [] each = omega arith
      sums f g k (o ∷ xs) each =
          let rest : sum_by f xs ≤ sum_by g xs + count_by (λ o. eqb o.item x) xs * k = sums f g k xs each in
          rw (sum_by-cons f o xs, sum_by-cons g o xs, sum_by-cons (λ y. cond (eqb y.item x) 1 0) o xs)
          (join (eqb o.item x) (f o) (sum_by f xs) (g o) (sum_by g xs) (count_by (λ o. eqb o.item x) xs) k (each o) rest)
        where
          join : (b : Bool) (a r e s n k : ℕ) → a ≤ e + cond b k 0 → r ≤ s + n * k → a + r ≤ e + s + (cond b 1 0 + n) * k
          join true a r e s n k h1 h2 = omega arith
          join false a r e s n k h1 h2 = omega arith

      product : (a n k c : ℕ) → a ≤ n → n * k ≤ c → a * k ≤ c
      product a n k c h1 h2 = le_trans (mul-le-mul_right k h1) h2

      moved : (w : ℕ → ℤ) → w x ≡ v → ((y : ℕ) → (y ≡ x → ⊥) → (w y ≡ committed_in s.opening t y) ⊎ (w y ≡ current_in s.opening t y)) →
          distance_at s.distance read_ops w ≤ b + c
      moved w wx other =
          let cur : ℤ = current_in s.opening t x in
          let w0 : ℕ → ℤ = λ y. cond (eqb y x) cur (w y) in
          let k : ℕ = s.distance x v cur in
          let mix0 : IsMixture s.opening t w0 = λ y. ⊎_elim
          (λ yx. inr (cond-true (eqb y x) cur (w y) (eq-eqb y x yx) ∙ ap (current_in s.opening t) (sym yx)))
          (λ nyx. let z : w0 y ≡ w y = cond-false (eqb y x) cur (w y) (ne_eqb y x nyx) in ⊎_elim (λ e. inl (z ∙ e)) (λ e. inr (z ∙ e)) (other y nyx))
          (cases_eq y x) in
          let below : distance_at s.distance read_ops w0 ≤ b = bound_before.within w0 mix0 in
          let grown : distance_at s.distance read_ops w ≤ distance_at s.distance read_ops w0 + count_by (λ o. eqb o.item x) read_ops * k =
          sums (λ o. s.distance o.item o.value (w o.item)) (λ o. s.distance o.item o.value (w0 o.item)) k read_ops (single w wx) in
          let charged : count_by (λ o. eqb o.item x) read_ops * k ≤ c = product (count_by (λ o. eqb o.item x) read_ops) (read_count_in t x q) k c (bound_before.held x) paid in
          omega (arith, below, grown, charged)

  ended_commit_within : {m : ℕ → ℕ} → Reached s t m → (u : ℕ) → Active t u → AreReadsWithin s (with_commit t u) q read_ops b
  ended_commit_within r u a = record {
    held = bound_before.held;
    within = λ w mix. bound_before.within w (λ x. ⊎_elim (λ e. ⊎_elim (λ f. inl (e ∙ f)) (λ f. inr (e ∙ f)) (committed_after_commit r s.opening u x a)) (λ e. inr e) (mix x));
  }

  ended_abort_within : {m : ℕ → ℕ} → Reached s t m → (u : ℕ) → Active t u → AreReadsWithin s (with_abort t u) q read_ops b
  ended_abort_within r u a = record {
    held = bound_before.held;
    within = λ w mix. bound_before.within w (λ x. ⊎_elim (λ e. inl e) (λ e. ⊎_elim (λ f. inl (e ∙ f)) (λ f. inr (e ∙ f)) (current_after_abort r s.opening u x a)) (mix x));
  }

-- From a trace on in which q had read `before` and imported an amount: each later read is added to its reads, each
-- later import to the bound, until it has ended; and if it has committed, the bound is that of the values which the
-- updates before it left.
pub record IsOnward (s : Setting) (q : ℕ) (before : List Operation) (imported : ℕ) (read_ops : List Operation) (b : ℕ) (t : Trace) (m : ℕ → ℕ) : Type 0 where
  pub reached : Reached s t m
  pub query : query_in t q ≡ true
  pub later : List Operation
  pub reads : filter (read_by q) t.operations ≡ before ++ later
  pub more : ℕ
  pub grown : m q ≡ imported + more
  pub within_while_active : ended_in t q ≡ false → AreReadsWithin s t q (read_ops ++ later) (b + more)
  pub within_at_commit : is_among t.commits q ≡ true → distance_at s.distance (read_ops ++ later) (state_in s.opening t (updates_of_in t q)) ≤ b + more

module _ (s : Setting) (d : IsMetric s.distance) (q : ℕ) (before : List Operation) (imported : ℕ) (read_ops : List Operation) (b : ℕ) where
  abbrev P : Trace → (ℕ → ℕ) → Type 0
  P = IsOnward s q before imported read_ops b

  begun_query : (o : Option BeginRecord) → holds_of (λ s. s.query) o ≡ true → is_some o ≡ true
  begun_query None h = absurd (true≢false (sym h))
  begun_query (Some b) h = refl

  query_no_update : (o : Option BeginRecord) → holds_of (λ s. s.query) o ≡ true → holds_of (λ s. not s.query) o ≡ true → ⊥
  query_no_update None h k = true≢false (sym h)
  query_no_update (Some b) h k = true≢false (sym k ∙ ap not h)

  -- both values of an item that q reads are within its charge
  read_paid : {t : Trace} {m : ℕ → ℕ} → Reached s t m → (u x c : ℕ) → update_in t u ≡ false →
      NoOtherWriter t u x ⊎ (s.distance x (current_in s.opening t x) (committed_in s.opening t x) ≤ c) →
      (w : ℕ → ℤ) → IsMixture s.opening t w → s.distance x (current_in s.opening t x) (w x) ≤ c
  read_paid {t = t} r u x c nup paid w mix =
      let cur : ℤ = current_in s.opening t x in
      let none : s.distance x cur cur ≤ c = subst (λ n. n ≤ c) (sym (d.same x cur)) (omega arith) in
      ⊎_elim
      (λ e. subst (λ v. s.distance x cur v ≤ c) (sym e)
      (⊎_elim (λ free. subst (λ v. s.distance x cur v ≤ c) (settled r s.opening x (over r u x nup free)) none) (λ p. p) paid))
      (λ e. subst (λ v. s.distance x cur v ≤ c) (sym e) none)
      (mix x)
    where
      over : {t : Trace} {m : ℕ → ℕ} → Reached s t m → (u x : ℕ) → update_in t u ≡ false → NoOtherWriter t u x → (o : Operation) → In o t.operations → writes_item x o ≡ true → ended_in t o.txn ≡ true
      over {t = t} r u x nup free o i is =
          let p = item_parts x o is in
          let up : update_in t o.txn ≡ true = writers r o i p.0 in
          free.none o i p.0 p.1 (λ e. true≢false (sym up ∙ (ap (update_in t) e ∙ nup))) up

  -- an operation of an active transaction does not change the state after the updates before a committed query
  then_with : (t : Trace) (w : Operation) → ended_in t w.txn ≡ false → is_among t.commits q ≡ true → state_in s.opening (with_operation t w) (updates_of_in t q) ≡ state_in s.opening t (updates_of_in t q)
  then_with t w running c =
      let open_committed : is_among t.commits w.txn ≡ false = (or_parts (is_among t.commits w.txn) (is_among t.aborts w.txn) running).0 in
      fun_ext (λ x. state_with s.opening t w (updates_of_in t q) x
      (λ u i e. true≢false (sym (listed_committed t q u i) ∙ (ap (is_among t.commits) (sym e) ∙ open_committed))))

  then_after : {m : ℕ → ℕ} (t : Trace) (p : P t m) (w : Operation) → ended_in t w.txn ≡ false → is_among t.commits q ≡ true →
      distance_at s.distance (read_ops ++ p.later) (state_in s.opening (with_operation t w) (updates_of_in t q)) ≤ b + p.more
  then_after t p w running c = subst (λ f. distance_at s.distance (read_ops ++ p.later) f ≤ b + p.more) (sym (then_with t w running c)) (p.within_at_commit c)

  then_committed : {m : ℕ → ℕ} (t : Trace) (p : P t m) (u : ℕ) → Active t u → is_among (with_commit t u).commits q ≡ true →
      distance_at s.distance (read_ops ++ p.later) (state_in s.opening t (updates_of_in (with_commit t u) q)) ≤ b + p.more
  then_committed t p u a c =
      ⊎_elim
      (λ old.
      subst (λ us. distance_at s.distance (read_ops ++ p.later) (state_in s.opening t us) ≤ b + p.more)
      (ap (filter (update_in t)) (sym (before_first-unchanged (λ u. eqb u q) t.commits (u ∷ []) old)))
      (p.within_at_commit old))
      (λ no.
      let e : u ≡ q = ⊎_elim (λ h. absurd (true≢false (sym h ∙ no))) (λ h. h) (among_push t.commits u q c) in
      let l : updates_of_in (with_commit t u) q ≡ committed_updates_in t = ap (filter (update_in t)) (before_first-all (λ u. eqb u q) t.commits u [] no (eq-eqb u q e)) in
      subst (λ us. distance_at s.distance (read_ops ++ p.later) (state_in s.opening t us) ≤ b + p.more) (sym l)
      (subst (λ f. distance_at s.distance (read_ops ++ p.later) f ≤ b + p.more) (sym (fun_ext (committed_version p.reached s.opening)))
      ((p.within_while_active (ap (ended_in t) (sym e) ∙ a.open_ended)).within (committed_in s.opening t) (λ x. inl refl))))
      (cases_Bool (is_among t.commits q))

  more_le : (a n k j : ℕ) → a ≤ n + k → a ≤ n + (k + j)
  more_le a n k j h = omega (arith, h)

  own_read : (t : Trace) (m : ℕ → ℕ) → P t m → (x : ℕ) (c : ℕ → ℕ) → Active t q → update_in t q ≡ false →
      NoOtherWriter t q x ⊎ (s.distance x (current_in s.opening t x) (committed_in s.opening t x) ≤ c q) →
      P (with_operation t (read_of q x (current_in s.opening t x))) (λ p. m p + c p)
  own_read t m p x c a nup paid =
      let r : Operation = read_of q x (current_in s.opening t x) in
      record {
        reached = (reached_kept s).query_reads t m p.reached q x c a nup paid;
        query = p.query;
        later = p.later ++ r ∷ [];
        reads = filter_push_true (read_by q) t.operations r (eq-eqb q q refl) ∙ (ap (λ l. l ++ r ∷ []) p.reads ∙ append_assoc before p.later (r ∷ []));
        more = p.more + c q;
        grown = let g : m q ≡ imported + p.more = p.grown in omega (arith, g);
        within_while_active = λ e.
            subst (λ l. AreReadsWithin s (with_operation t r) q l (b + (p.more + c q))) (append_assoc read_ops p.later (r ∷ []))
            (subst (λ n. AreReadsWithin s (with_operation t r) q ((read_ops ++ p.later) ++ r ∷ []) n) (omega arith)
            (read_by_itself d t q (read_ops ++ p.later) (b + p.more) (p.within_while_active e) x (c q) e (read_paid p.reached q x (c q) nup paid)));
        within_at_commit = λ over. absurd (true≢false (sym over ∙ (or_parts (is_among t.commits q) (is_among t.aborts q) a.open_ended).0));
      }

  other_read : (t : Trace) (m : ℕ → ℕ) → P t m → (u x : ℕ) (c : ℕ → ℕ) → (u ≡ q → ⊥) → ended_in t u ≡ false →
      Reached s (with_operation t (read_of u x (current_in s.opening t x))) (λ p. m p + c p) →
      P (with_operation t (read_of u x (current_in s.opening t x))) (λ p. m p + c p)
  other_read t m p u x c ne running reached =
      let r : Operation = read_of u x (current_in s.opening t x) in
      record {
        reached = reached;
        query = p.query;
        later = p.later;
        reads = filter_push_false (read_by q) t.operations r (ne_eqb u q ne) ∙ p.reads;
        more = p.more + c q;
        grown = let g : m q ≡ imported + p.more = p.grown in omega (arith, g);
        within_while_active = λ e.
            subst (λ n. AreReadsWithin s (with_operation t r) q (read_ops ++ p.later) n) (omega arith)
            (looser d (with_operation t r) q (read_ops ++ p.later) (b + p.more) (read_by_other d t q (read_ops ++ p.later) (b + p.more) (p.within_while_active e) r refl running) (c q));
        within_at_commit = λ over. more_le (distance_at s.distance (read_ops ++ p.later) (state_in s.opening (with_operation t r) (updates_of_in t q))) b p.more (c q) (then_after t p r running over);
      }

  pub onward_kept : IsKept s P
  onward_kept = record {
    begins = λ t m p β keep. record {
      reached = (reached_kept s).begins t m p.reached β keep;
      query = ap (holds_of (λ s. s.query)) (keep q (begun_query (t.begin_record q) p.query)) ∙ p.query;
      later = p.later;
      reads = p.reads;
      more = p.more;
      grown = p.grown;
      within_while_active = λ e. let a = p.within_while_active e in record { held = a.held; within = a.within };
      within_at_commit = λ over.
          subst (λ us. distance_at s.distance (read_ops ++ p.later) (state_in s.opening t us) ≤ b + p.more)
          (filter_agree_in (update_in t) (update_in (with_begins t β)) (before_first (λ u. eqb u q) t.commits)
          (λ u i. sym (update_stays t β u keep ((known p.reached).of_ends u (or_left (is_among t.commits u) (is_among t.aborts u) (any-from_number t.commits u (In-before_first (λ u. eqb u q) t.commits u i)))))))
          (p.within_at_commit over);
    };
    update_reads = λ t m p u x a up free.
        let r : Operation = read_of u x (current_in s.opening t x) in
        let ne : u ≡ q → ⊥ = λ e. query_no_update (t.begin_record q) p.query (ap (update_in t) (sym e) ∙ up) in
        record {
          reached = (reached_kept s).update_reads t m p.reached u x a up free;
          query = p.query;
          later = p.later;
          reads = filter_push_false (read_by q) t.operations r (ne_eqb u q ne) ∙ p.reads;
          more = p.more;
          grown = p.grown;
          within_while_active = λ e. read_by_other d t q (read_ops ++ p.later) (b + p.more) (p.within_while_active e) r refl a.open_ended;
          within_at_commit = λ over. then_after t p r a.open_ended over;
        };
    query_reads = λ t m p u x c a nup paid.
        ⊎_elim
        (λ e.
        subst (λ v. Active t v → update_in t v ≡ false →
        (NoOtherWriter t v x ⊎ (s.distance x (current_in s.opening t x) (committed_in s.opening t x) ≤ c v)) →
        P (with_operation t (read_of v x (current_in s.opening t x))) (λ p. m p + c p)) (sym e)
        (own_read t m p x c) a nup paid)
        (λ ne. other_read t m p u x c ne a.open_ended ((reached_kept s).query_reads t m p.reached u x c a nup paid))
        (cases_eq u q);
    writes = λ t m p u x v c a up free paid. record {
      reached = (reached_kept s).writes t m p.reached u x v c a up free paid;
      query = p.query;
      later = p.later;
      reads = filter_push_false (read_by q) t.operations (write_of u x v) refl ∙ p.reads;
      more = p.more + c q;
      grown = let g : m q ≡ imported + p.more = p.grown in omega (arith, g);
      within_while_active = λ e.
          subst (λ n. AreReadsWithin s (with_operation t (write_of u x v)) q (read_ops ++ p.later) n) (omega arith)
          (written d t q (read_ops ++ p.later) (b + p.more) (p.within_while_active e) u x v (c q) a.open_ended
          (paid q (record { begun = begun_query (t.begin_record q) p.query; open_ended = e }) p.query));
      within_at_commit = λ over. more_le (distance_at s.distance (read_ops ++ p.later) (state_in s.opening (with_operation t (write_of u x v)) (updates_of_in t q))) b p.more (c q) (then_after t p (write_of u x v) a.open_ended over);
    };
    commits = λ t m p u a. record {
      reached = (reached_kept s).commits t m p.reached u a;
      query = p.query;
      later = p.later;
      reads = p.reads;
      more = p.more;
      grown = p.grown;
      within_while_active = λ e.
          ended_commit_within d t q (read_ops ++ p.later) (b + p.more)
          (p.within_while_active (false_from_ne_true (ended_in t q) (λ h. true≢false (sym (ended_kept_commit t u q h) ∙ e)))) p.reached u a;
      within_at_commit = λ over. then_committed t p u a over;
    };
    aborts = λ t m p u a. record {
      reached = (reached_kept s).aborts t m p.reached u a;
      query = p.query;
      later = p.later;
      reads = p.reads;
      more = p.more;
      grown = p.grown;
      within_while_active = λ e.
          ended_abort_within d t q (read_ops ++ p.later) (b + p.more)
          (p.within_while_active (false_from_ne_true (ended_in t q) (λ h. true≢false (sym (ended_kept_abort t u q h) ∙ e)))) p.reached u a;
      within_at_commit = λ over. p.within_at_commit over;
    };
  }
