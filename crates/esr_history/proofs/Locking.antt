-- The invariant of two-phase locking: a conflicting transaction has ended before, so commits respect the conflict
-- order.
use Rattle.std.proofs.Common.{◌≡◌, ℕ, Bool, true, false, not, ◌&&◌, ◌||◌, ◌⊎◌, List, [], ◌∷◌, ◌++◌, refl, sym, ◌∙◌, ap, subst, inl, inr, ⊎_elim, filter, eqb, Option, arith}
use Rattle.std.specs.List.{list_any}
use Rattle.std.proofs.lemmas.List.Folds.{list_any-append}
use Rattle.std.proofs.lemmas.List.Elements.{filter-append}
use Rattle.std.proofs.lemmas.Bool.{true≢false, cond_both, cases_Bool, and_parts, or_cases, or_left, or_right, eqb-true, eq-eqb, not-true, false_from_ne_true, eqb-false}
use Rattle.esr_history.specs.Operations.{Operation}
use Rattle.esr_history.specs.Events.{BeginRecord}
use Rattle.esr_history.specs.Serial.{any_ordered_pair, conflict}
use Rattle.esr_history.proofs.Membership.{In, Pairs, each_at, In-of_filter, Pairs-append, Pairs-map, Pairs-push, In-push, filter_agree_in, In-any, any-from_number}
use Rattle.esr_history.proofs.Traces.{is_among, holds_of, Setting, Trace, update_in, begun_in, ended_in, with_operation, with_commit, with_abort, with_begins, Keeps, read_of, write_of, current_in, Reached, Reached.nothing, Reached.begin, Reached.read_update, Reached.read_query, Reached.write, Reached.commit, Reached.abort}

pub among_push : (us : List ℕ) (u v : ℕ) → is_among (us ++ u ∷ []) v ≡ true → (is_among us v ≡ true) ⊎ (u ≡ v)
among_push us u v h =
    grind (arith, ⊎_elim, eqb-true, true≢false, or_cases, eqb u v, is_among us v, is_among (u ∷ []) v, list_any-append, eqb)

pub among_keep : (us : List ℕ) (u v : ℕ) → is_among us v ≡ true → is_among (us ++ u ∷ []) v ≡ true
among_keep us u v h = list_any-append (λ w. eqb w v) us (u ∷ []) ∙ or_left (is_among us v) (is_among (u ∷ []) v) h

pub among_new : (us : List ℕ) (u : ℕ) → is_among (us ++ u ∷ []) u ≡ true
among_new us u = list_any-append (λ w. eqb w u) us (u ∷ []) ∙ or_right (is_among us u) (is_among (u ∷ []) u) (or_left (eqb u u) false (eq-eqb u u refl))

pub among_other : (us : List ℕ) (u v : ℕ) → (u ≡ v → ⊥) → is_among (us ++ u ∷ []) v ≡ is_among us v
among_other us u v ne =
    ⊎_elim (λ t. among_keep us u v t ∙ sym t)
    (λ f. false_from_ne_true (is_among (us ++ u ∷ []) v) (λ t. ⊎_elim (λ a. true≢false (sym a ∙ f)) (λ e. ne e) (among_push us u v t)) ∙ sym f)
    (cases_Bool (is_among us v))

-- every operation and every end is of a transaction that was begun
pub record Known (t : Trace) : Type 0 where
  pub of_operations : (o : Operation) → In o t.operations → begun_in t o.txn ≡ true
  pub of_ends : (u : ℕ) → ended_in t u ≡ true → begun_in t u ≡ true

pub ended_commit : (t : Trace) (u v : ℕ) → ended_in (with_commit t u) v ≡ true → (ended_in t v ≡ true) ⊎ (u ≡ v)
ended_commit t u v h =
    ⊎_elim (λ a. ⊎_elim (λ b. inl (or_left (is_among t.commits v) (is_among t.aborts v) b)) (λ e. inr e) (among_push t.commits u v a))
    (λ a. inl (or_right (is_among t.commits v) (is_among t.aborts v) a))
    (or_cases (is_among (t.commits ++ u ∷ []) v) (is_among t.aborts v) h)

pub ended_abort : (t : Trace) (u v : ℕ) → ended_in (with_abort t u) v ≡ true → (ended_in t v ≡ true) ⊎ (u ≡ v)
ended_abort t u v h =
    ⊎_elim (λ a. inl (or_left (is_among t.commits v) (is_among t.aborts v) a))
    (λ a. ⊎_elim (λ b. inl (or_right (is_among t.commits v) (is_among t.aborts v) b)) (λ e. inr e) (among_push t.aborts u v a))
    (or_cases (is_among t.commits v) (is_among (t.aborts ++ u ∷ []) v) h)

pub ended_kept_commit : (t : Trace) (u v : ℕ) → ended_in t v ≡ true → ended_in (with_commit t u) v ≡ true
ended_kept_commit t u v h =
    ⊎_elim (λ a. or_left (is_among (t.commits ++ u ∷ []) v) (is_among t.aborts v) (among_keep t.commits u v a))
    (λ a. or_right (is_among (t.commits ++ u ∷ []) v) (is_among t.aborts v) a)
    (or_cases (is_among t.commits v) (is_among t.aborts v) h)

pub ended_kept_abort : (t : Trace) (u v : ℕ) → ended_in t v ≡ true → ended_in (with_abort t u) v ≡ true
ended_kept_abort t u v h =
    ⊎_elim (λ a. or_left (is_among t.commits v) (is_among (t.aborts ++ u ∷ []) v) a)
    (λ a. or_right (is_among t.commits v) (is_among (t.aborts ++ u ∷ []) v) (among_keep t.aborts u v a))
    (or_cases (is_among t.commits v) (is_among t.aborts v) h)

pub known : {s : Setting} {t : Trace} {m : ℕ → ℕ} → Reached s t m → Known t
known nothing = record { of_operations = λ o i. absurd i; of_ends = λ u h. absurd (true≢false (sym h)) }
known (begin {t = t} r b keeps) = grind (arith, known r)
known (read_update {t = t} r u x a up free) =
    let k = known r in
    record { of_operations = In-push (λ o. begun_in t o.txn ≡ true) t.operations _ k.of_operations a.begun; of_ends = k.of_ends }
known (read_query {t = t} r u x c a up free) =
    let k = known r in
    record { of_operations = In-push (λ o. begun_in t o.txn ≡ true) t.operations _ k.of_operations a.begun; of_ends = k.of_ends }
known (write {t = t} r u x v c a up free paid) =
    let k = known r in
    record { of_operations = In-push (λ o. begun_in t o.txn ≡ true) t.operations _ k.of_operations a.begun; of_ends = k.of_ends }
known (commit {t = t} r u a) = grind (arith, known r, ⊎_elim, begun_in, ended_commit)
known (abort {t = t} r u a) = grind (arith, known r, ⊎_elim, begun_in, ended_abort)

-- of two conflicting operations of updates, the first is of one that has ended
abbrev pub Locked : Trace → Operation → Operation → Type 0
Locked t a b = conflict a b ≡ true → update_in t a.txn ≡ true → update_in t b.txn ≡ true → ended_in t a.txn ≡ true

pub record Conflict (a b : Operation) : Type 0 where
  pub apart : a.txn ≡ b.txn → ⊥
  pub same_item : a.item ≡ b.item
  pub one_writes : (a.writes || b.writes) ≡ true

pub conflict_parts : (a b : Operation) → conflict a b ≡ true → Conflict a b
conflict_parts a b h =
    let p = and_parts (not (eqb a.txn b.txn)) (eqb a.item b.item && (a.writes || b.writes)) h in
    let r = and_parts (eqb a.item b.item) (a.writes || b.writes) p.1 in
    record { apart = eqb-false a.txn b.txn (not-true (eqb a.txn b.txn) p.0); same_item = eqb-true a.item b.item r.0; one_writes = r.1 }

pub update_stays : (t : Trace) (b : ℕ → Option BeginRecord) (u : ℕ) → Keeps t.begin_record b → begun_in t u ≡ true → update_in (with_begins t b) u ≡ update_in t u
update_stays t b u keeps h = ap (holds_of (λ b. not b.query)) (keeps u h)

pub locks : {s : Setting} {t : Trace} {m : ℕ → ℕ} → Reached s t m → Pairs (Locked t) t.operations
locks nothing = tt
locks (begin {t = t} r b keeps) = grind (arith, Pairs-map, with_begins t b, update_stays, known r, locks r)
locks {s = s} (read_update {t = t} r u x a up free) =
    grind (arith, read_of u x (current_in s.opening t x), current_in s.opening t x, Pairs-push, locks r, conflict_parts, ⊎_elim, true≢false, or_cases)
locks (read_query {t = t} r u x c a up free) = grind (arith, Pairs-push, locks r, true≢false)
locks (write {t = t} r u x v c a up free paid) = grind (arith, write_of u x v, Pairs-push, locks r, conflict_parts)
locks (commit {t = t} r u a) = grind (arith, Pairs-map, with_commit t u, ended_kept_commit, locks r)
locks (abort {t = t} r u a) = grind (arith, Pairs-map, with_abort t u, ended_kept_abort, locks r)

abbrev pub is_before_in : Trace → ℕ → ℕ → Bool
is_before_in t u v = any_ordered_pair (λ a b. (eqb a.txn u) && ((eqb b.txn v) && conflict a b)) t.operations

pub any_pair_in : {X : Type 0} (r : X → X → Bool) (R : X → X → Type 0) (xs : List X) → Pairs R xs → any_ordered_pair r xs ≡ true → (a : X) × (b : X) × (r a b ≡ true) × R a b
any_pair_in r R [] p h = absurd (true≢false (sym h))
any_pair_in r R (x ∷ xs) p h =
    ⊎_elim (λ e. let f = In-any (r x) xs e in (x, f.0, f.2, each_at (R x) xs f.0 p.0 f.1)) (λ e. any_pair_in r R xs p.1 e)
    (or_cases (list_any (r x) xs) (any_ordered_pair r xs) h)

pub any_pair_push : {X : Type 0} (r : X → X → Bool) (xs : List X) (y : X) → any_ordered_pair r (xs ++ y ∷ []) ≡ true → (any_ordered_pair r xs ≡ true) ⊎ ((x : X) × In x xs × (r x y ≡ true))
any_pair_push r [] y h = absurd (true≢false (sym h))
any_pair_push r (x ∷ xs) y h =
    ⊎_elim
    (λ e. ⊎_elim (λ f. inl (or_left (list_any (r x) xs) (any_ordered_pair r xs) f))
    (λ f. ⊎_elim (λ g. inr (x, inl refl, g)) (λ g. absurd (true≢false (sym g))) (or_cases (r x y) false f))
    (or_cases (list_any (r x) xs) (list_any (r x) (y ∷ [])) (sym (list_any-append (r x) xs (y ∷ [])) ∙ e)))
    (λ e. ⊎_elim (λ f. inl (or_right (list_any (r x) xs) (any_ordered_pair r xs) f)) (λ f. inr (f.0, inr f.1, f.2)) (any_pair_push r xs y e))
    (or_cases (list_any (r x) (xs ++ y ∷ [])) (any_ordered_pair r (xs ++ y ∷ [])) h)

pub before_ended : {s : Setting} {t : Trace} {m : ℕ → ℕ} → Reached s t m → (u v : ℕ) → update_in t u ≡ true → update_in t v ≡ true → is_before_in t u v ≡ true → ended_in t u ≡ true
before_ended {t = t} r u v uu uv h = grind (arith, any_pair_in, eqb, locks r, and_parts, eqb-true, ended_in, update_in t)

abbrev pub committed_updates_in : Trace → List ℕ
committed_updates_in t = filter (update_in t) t.commits

abbrev pub InOrderOf : Trace → ℕ → ℕ → Type 0
InOrderOf t u v = is_before_in t v u ≡ false

commit_ended : (t : Trace) (u : ℕ) → In u t.commits → ended_in t u ≡ true
commit_ended t u i = or_left (is_among t.commits u) (is_among t.aborts u) (any-from_number t.commits u i)

-- one more operation, of a transaction that has not ended, brings no committed update before another
order_with_operation : (t : Trace) (o : Operation) → ended_in t o.txn ≡ false → Pairs (InOrderOf t) (committed_updates_in t) → Pairs (InOrderOf (with_operation t o)) (committed_updates_in t)
order_with_operation t o running p =
    Pairs-map (InOrderOf t) (InOrderOf (with_operation t o)) (committed_updates_in t)
    (λ u v iu iv b. false_from_ne_true (is_before_in (with_operation t o) v u)
    (λ h. ⊎_elim (λ e. true≢false (sym e ∙ b))
    (λ f.
    let p1 = and_parts (eqb f.0.txn v) ((eqb o.txn u) && conflict f.0 o) f.2 in
    let p2 = and_parts (eqb o.txn u) (conflict f.0 o) p1.1 in
    let e : o.txn ≡ u = eqb-true o.txn u p2.0 in
    true≢false (sym (commit_ended t u (In-of_filter (update_in t) t.commits u iu).0) ∙ subst (λ w. ended_in t w ≡ false) e running))
    (any_pair_push (λ a b. (eqb a.txn v) && ((eqb b.txn u) && conflict a b)) t.operations o h)))
    p

pub commits_in_order : {s : Setting} {t : Trace} {m : ℕ → ℕ} → Reached s t m → Pairs (InOrderOf t) (committed_updates_in t)
commits_in_order nothing = tt
commits_in_order (begin {t = t} r b keeps) =
    subst (Pairs (InOrderOf t))
    (filter_agree_in (update_in t) (update_in (with_begins t b)) t.commits (λ u i. sym (update_stays t b u keeps ((known r).of_ends u (commit_ended t u i)))))
    (commits_in_order r)
commits_in_order (read_update {t = t} r u x a up free) = order_with_operation t _ a.open_ended (commits_in_order r)
commits_in_order (read_query {t = t} r u x c a up free) = order_with_operation t _ a.open_ended (commits_in_order r)
commits_in_order (write {t = t} r u x v c a up free paid) = order_with_operation t _ a.open_ended (commits_in_order r)
commits_in_order (commit {t = t} r u a) =
    subst (Pairs (InOrderOf t)) (sym (filter-append (update_in t) t.commits (u ∷ [])))
    (cond_both (update_in t u) (u ∷ []) [] (λ zs. Pairs (InOrderOf t) (committed_updates_in t ++ zs))
    (λ up. Pairs-push (InOrderOf t) (committed_updates_in t) u (commits_in_order r)
    (λ w iw. false_from_ne_true (is_before_in t u w)
    (λ h. true≢false (sym (before_ended r u w up (In-of_filter (update_in t) t.commits w iw).1 h) ∙ a.open_ended))))
    (λ _. Pairs-append (InOrderOf t) (committed_updates_in t) [] (commits_in_order r) tt (λ x y ix iy. absurd iy)))
commits_in_order (abort {t = t} r u a) = commits_in_order r

pub commits_once : {s : Setting} {t : Trace} {m : ℕ → ℕ} → Reached s t m → Pairs (λ u v. u ≡ v → ⊥) t.commits
commits_once nothing = tt
commits_once (begin r b keeps) = commits_once r
commits_once (read_update r u x a up free) = commits_once r
commits_once (read_query r u x c a up free) = commits_once r
commits_once (write r u x v c a up free paid) = commits_once r
commits_once (commit {t = t} r u a) = grind (arith, Pairs-push, commits_once r, true≢false, commit_ended, ended_in)
commits_once (abort r u a) = commits_once r
