-- The distance of a committed query from the version at its commit is at most the amount charged to it.
use Rattle.std.proofs.Common.{◌≡◌, ℕ, ◌+◌, ◌≤◌, ℤ, Bool, true, false, cond, not, List, [], ◌∷◌, ◌++◌, take, drop, refl, sym, ◌∙◌, ap, subst, inl, ⊎_elim, arith, filter, eqb, sum_by, take-append-drop}
use Rattle.std.specs.List.{list_any, before_first, position_or_len}
use Rattle.std.proofs.Math.Path.{fun_ext}
use Rattle.std.proofs.lemmas.Bool.{true≢false, cases_Bool, and_right, or_cases, or_left, or_parts, eq-eqb, ne_eqb}
use Rattle.esr_history.specs.Operations.{Operation}
use Rattle.esr_history.proofs.Membership.{In, In-append_left, In-of_filter, filter_agree_in, any-from_number}
use Rattle.esr_history.proofs.Traces.{is_among, Setting, IsMetric, Trace, update_in, ended_in, with_operation, with_commit, with_begins, read_of, write_of, current_in, committed_in, Reached, Reached.nothing, Reached.begin, Reached.read_update, Reached.read_query, Reached.write, Reached.commit, Reached.abort}
use Rattle.esr_history.proofs.Locking.{known, update_stays, among_push, committed_updates_in}
use Rattle.esr_history.proofs.Versions.{filter_push_false, state_in, state_with, committed_version}
use Rattle.esr_history.proofs.Covered.{read_by, value_distance, covered}

pub before_first-here : {X : Type 0} (p : X → Bool) (x : X) (xs : List X) → p x ≡ true → before_first p (x ∷ xs) ≡ []
before_first-here p x xs h = ap (λ b. take (cond (not b) (1 + position_or_len p xs) 0) (x ∷ xs)) h

pub before_first-later : {X : Type 0} (p : X → Bool) (x : X) (xs : List X) → p x ≡ false → before_first p (x ∷ xs) ≡ x ∷ before_first p xs
before_first-later p x xs h = grind (arith, cond)

pub before_first-unchanged : {X : Type 0} (p : X → Bool) (xs ys : List X) → list_any p xs ≡ true → before_first p (xs ++ ys) ≡ before_first p xs
before_first-unchanged p [] ys h = absurd (true≢false (sym h))
before_first-unchanged p (x ∷ xs) ys h =
    ⊎_elim (λ t. before_first-here p x (xs ++ ys) t ∙ sym (before_first-here p x xs t))
    (λ f. before_first-later p x (xs ++ ys) f
    ∙ (ap (λ zs. x ∷ zs) (before_first-unchanged p xs ys (⊎_elim (λ t. absurd (true≢false (sym t ∙ f))) (λ t. t) (or_cases (p x) (list_any p xs) h)))
    ∙ sym (before_first-later p x xs f)))
    (cases_Bool (p x))

pub before_first-all : {X : Type 0} (p : X → Bool) (xs : List X) (y : X) (ys : List X) → list_any p xs ≡ false → p y ≡ true → before_first p (xs ++ y ∷ ys) ≡ xs
before_first-all p [] y ys h t = before_first-here p y ys t
before_first-all p (x ∷ xs) y ys h t =
    let q = or_parts (p x) (list_any p xs) h in
    before_first-later p x (xs ++ y ∷ ys) q.0 ∙ ap (λ zs. x ∷ zs) (before_first-all p xs y ys q.1 t)

pub In-before_first : {X : Type 0} (p : X → Bool) (xs : List X) (x : X) → In x (before_first p xs) → In x xs
In-before_first p xs x i =
    let n : ℕ = position_or_len p xs in
    subst (In x) (take-append-drop n xs) (In-append_left (take n xs) (drop n xs) x i)

abbrev pub updates_of_in : Trace → ℕ → List ℕ
updates_of_in t q = filter (update_in t) (before_first (λ u. eqb u q) t.commits)

pub listed_committed : (t : Trace) (q u : ℕ) → In u (updates_of_in t q) → is_among t.commits u ≡ true
listed_committed t q u i = any-from_number t.commits u (In-before_first (λ u. eqb u q) t.commits u (In-of_filter (update_in t) (before_first (λ u. eqb u q) t.commits) u i).0)

-- q's distance from the version at its commit, after one more operation of an active transaction
distance_with : (d : ℕ → ℤ → ℤ → ℕ) (o : ℕ → ℤ) (t : Trace) (w : Operation) (q : ℕ) → ended_in t w.txn ≡ false → is_among t.commits q ≡ true →
    value_distance d (with_operation t w) q (state_in o (with_operation t w) (updates_of_in t q)) ≡ value_distance d t q (state_in o t (updates_of_in t q))
distance_with d o t w q h c =
    let oc : is_among t.commits w.txn ≡ false = (or_parts (is_among t.commits w.txn) (is_among t.aborts w.txn) h).0 in
    ap (λ l. sum_by (λ a. d a.item a.value (state_in o (with_operation t w) (updates_of_in t q) a.item)) l)
    (filter_push_false (read_by q) t.operations w (and_right (not w.writes) (eqb w.txn q) (ne_eqb w.txn q (λ e. true≢false (sym c ∙ (ap (is_among t.commits) (sym e) ∙ oc))))))
    ∙ ap (λ f. value_distance d t q f) (fun_ext (λ x. state_with o t w (updates_of_in t q) x
    (λ u i e. true≢false (sym (listed_committed t q u i) ∙ (ap (is_among t.commits) (sym e) ∙ oc)))))

pub bounded : {s : Setting} {t : Trace} {m : ℕ → ℕ} → IsMetric s.distance → Reached s t m →
    (q : ℕ) → is_among t.commits q ≡ true → update_in t q ≡ false → value_distance s.distance t q (state_in s.opening t (updates_of_in t q)) ≤ m q
bounded d nothing q c nu = absurd (true≢false (sym c))
bounded {s = s} d (begin {t = t} {m = m} r b keeps) q c nu =
    let stays : (u : ℕ) → is_among t.commits u ≡ true → update_in (with_begins t b) u ≡ update_in t u =
    λ u h. update_stays t b u keeps ((known r).of_ends u (or_left (is_among t.commits u) (is_among t.aborts u) h)) in
    subst (λ us. value_distance s.distance t q (state_in s.opening t us) ≤ m q)
    (filter_agree_in (update_in t) (update_in (with_begins t b)) (before_first (λ u. eqb u q) t.commits)
    (λ u i. sym (stays u (any-from_number t.commits u (In-before_first (λ u. eqb u q) t.commits u i)))))
    (bounded d r q c (sym (stays q c) ∙ nu))
bounded {s = s} d (read_update {t = t} {m = m} r u x ac up free) q c nu =
    subst (λ n. n ≤ m q) (sym (distance_with s.distance s.opening t (read_of u x (current_in s.opening t x)) q ac.open_ended c)) (bounded d r q c nu)
bounded {s = s} d (read_query {t = t} {m = m} r u x n ac up paid) q c nu =
    subst (λ k. k ≤ m q + n q) (sym (distance_with s.distance s.opening t (read_of u x (current_in s.opening t x)) q ac.open_ended c))
    (let h = bounded d r q c nu in omega arith)
bounded {s = s} d (write {t = t} {m = m} r u x v k ac up free paid) q c nu =
    grind (arith, distance_with s.distance s.opening t (write_of u x v) q ac.open_ended c, write_of u x v, bounded d r q c nu)
bounded {s = s} d (commit {t = t} {m = m} r u a) q c nu =
    ⊎_elim
    (λ old.
    subst (λ us. value_distance s.distance t q (state_in s.opening t us) ≤ m q)
    (ap (filter (update_in t)) (sym (before_first-unchanged (λ u. eqb u q) t.commits (u ∷ []) old)))
    (bounded d r q old nu))
    (λ no.
    let e : u ≡ q = ⊎_elim (λ h. absurd (true≢false (sym h ∙ no))) (λ h. h) (among_push t.commits u q c) in
    let l : updates_of_in (with_commit t u) q ≡ committed_updates_in t = ap (filter (update_in t)) (before_first-all (λ u. eqb u q) t.commits u [] no (eq-eqb u q e)) in
    subst (λ us. value_distance s.distance t q (state_in s.opening t us) ≤ m q) (sym l)
    (subst (λ f. value_distance s.distance t q f ≤ m q) (sym (fun_ext (committed_version r s.opening)))
    (covered d r q (ap (ended_in t) (sym e) ∙ a.open_ended) nu (committed_in s.opening t) (λ x. inl refl))))
    (cases_Bool (is_among t.commits q))
bounded d (abort r u a) q c nu = bounded d r q c nu
