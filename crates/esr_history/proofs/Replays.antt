-- The committed updates read the same values as in a serial run in commit order.
use Rattle.std.proofs.Common.{◌≡◌, ℕ, zero, suc, ℤ, true, false, not, ◌&&◌, ◌⊎◌, List, [], ◌∷◌, ◌++◌, take, refl, sym, ◌∙◌, ap, subst, inl, inr, ⊎_elim, filter, eqb, Some, slice_get, arith}
use Rattle.std.specs.List.{before_first}
use Rattle.std.proofs.lemmas.List.Elements.{filter-append}
use Rattle.std.proofs.lemmas.Bool.{true≢false, cases_Bool, cases_eq, and_left, and_right, or_left, or_right, or_parts, eq-eqb, not_from_true, false_from_ne_true, cond-true}
use Rattle.esr_history.specs.Operations.{Operation}
use Rattle.esr_history.proofs.Membership.{In, In-of_filter, In-filter, filter_agree_in, filter_none_in, In-from_any, any-from_number}
use Rattle.esr_history.proofs.Traces.{is_among, after_writes, writes_item, Setting, Trace, update_in, ended_in, Active, NoOtherWriter, with_operation, with_commit, with_abort, with_begins, read_of, write_of, current_in, committed_in, Reached, Reached.nothing, Reached.begin, Reached.read_update, Reached.read_query, Reached.write, Reached.commit, Reached.abort}
use Rattle.esr_history.proofs.Locking.{known, locks, Locked, update_stays, among_push, among_new, among_other, committed_updates_in, ended_kept_commit, ended_kept_abort}
use Rattle.esr_history.proofs.Versions.{writers, item_parts, wrote_by, wrote_parts, conflict_of, pairs_either, ended_agree, current_split, committed_after, committed_with, state_in, state_with, committed_version, commit_among}
use Rattle.esr_history.proofs.Bounded.{before_first-unchanged, before_first-all, In-before_first}

-- if the other writers of x have ended, the current value without u's writes is the committed one
abort_settled : {s : Setting} {t : Trace} {m : ℕ → ℕ} → Reached s t m → (o : ℕ → ℤ) (u x : ℕ) → Active t u → NoOtherWriter t u x → current_in o (with_abort t u) x ≡ committed_in o t x
abort_settled {t = t} r o u x a free =
    ap (after_writes (o x))
    (filter_agree_in (λ w. writes_item x w && not (is_among (t.aborts ++ u ∷ []) w.txn)) (λ w. writes_item x w && is_among t.commits w.txn) t.operations agree)
  where
    open_commit : is_among t.commits u ≡ false
    open_commit = (or_parts (is_among t.commits u) (is_among t.aborts u) a.open_ended).0

    agree : (w : Operation) → In w t.operations → (writes_item x w && not (is_among (t.aborts ++ u ∷ []) w.txn)) ≡ (writes_item x w && is_among t.commits w.txn)
    agree w i =
        ⊎_elim
        (λ wi. ⊎_elim
        (λ e. and_right (writes_item x w) (not (is_among (t.aborts ++ u ∷ []) w.txn)) (not_from_true (is_among (t.aborts ++ u ∷ []) w.txn) (ap (is_among (t.aborts ++ u ∷ [])) e ∙ among_new t.aborts u))
        ∙ sym (and_right (writes_item x w) (is_among t.commits w.txn) (ap (is_among t.commits) e ∙ open_commit)))
        (λ ne. let p = item_parts x w wi in
        ap (λ b. writes_item x w && not b) (among_other t.aborts u w.txn (λ q. ne (sym q)))
        ∙ ap (λ b. writes_item x w && b) (ended_agree r w.txn (free.none w i p.0 p.1 ne (writers r w i p.0))))
        (cases_eq w.txn u))
        (λ n. and_left (writes_item x w) (not (is_among (t.aborts ++ u ∷ []) w.txn)) n ∙ sym (and_left (writes_item x w) (is_among t.commits w.txn) n))
        (cases_Bool (writes_item x w))

In-get : {X : Type 0} (xs : List X) (k : ℕ) (x : X) → slice_get xs k ≡ Some x → In x xs
In-get [] k x h = absurd (cc)
In-get (y ∷ ys) zero x h = inl (cc)
In-get (y ∷ ys) (suc k) x h = inr (In-get ys k x h)

-- a place of a list with one more at its end
get_push : {X : Type 0} (xs : List X) (y : X) (k : ℕ) (x : X) → slice_get (xs ++ y ∷ []) k ≡ Some x →
    ((slice_get xs k ≡ Some x) × (take k (xs ++ y ∷ []) ≡ take k xs)) ⊎ ((y ≡ x) × (take k (xs ++ y ∷ []) ≡ xs))
get_push [] y zero x h = inr (cc, refl)
get_push [] y (suc k) x h = absurd (cc)
get_push (z ∷ zs) y zero x h = inl (h, refl)
get_push (z ∷ zs) y (suc k) x h = grind (arith, ⊎_elim, get_push zs y k x h)

-- the value that a read of an update that has not ended returned
abbrev pub ReadsCommitted : (ℕ → ℤ) → Trace → Type 0
ReadsCommitted o t = (k : ℕ) (r : Operation) → slice_get t.operations k ≡ Some r → r.writes ≡ false → update_in t r.txn ≡ true → ended_in t r.txn ≡ false →
    r.value ≡ after_writes (committed_in o t r.item) (filter (wrote_by r.item r.txn) (take k t.operations))

-- the same after one more operation, which may itself be a read
reads_with : (o : ℕ → ℤ) (t : Trace) (w : Operation) → ended_in t w.txn ≡ false → ReadsCommitted o t →
    (w.writes ≡ false → update_in t w.txn ≡ true → w.value ≡ after_writes (committed_in o t w.item) (filter (wrote_by w.item w.txn) t.operations)) → ReadsCommitted o (with_operation t w)
reads_with o t w open_w was new k r g rd ur er =
    subst (λ v. r.value ≡ after_writes v (filter (wrote_by r.item r.txn) (take k (t.operations ++ w ∷ [])))) (sym (committed_with o t w r.item open_w))
    (⊎_elim
    (λ p. was k r p.0 rd ur er ∙ ap (λ l. after_writes (committed_in o t r.item) (filter (wrote_by r.item r.txn) l)) (sym p.1))
    (λ p. subst (λ z. z.value ≡ after_writes (committed_in o t z.item) (filter (wrote_by z.item z.txn) t.operations)) p.0
    (new (ap (λ z. z.writes) p.0 ∙ rd) (ap (λ z. update_in t z.txn) p.0 ∙ ur))
    ∙ ap (λ l. after_writes (committed_in o t r.item) (filter (wrote_by r.item r.txn) l)) (sym p.1))
    (get_push t.operations w k r g))

-- a commit of another transaction keeps the committed value of an item that an active update has read
read_locked : {s : Setting} {t : Trace} {m : ℕ → ℕ} → Reached s t m → (o : ℕ → ℤ) (u : ℕ) → Active t u → (r : Operation) → In r t.operations → r.writes ≡ false →
    update_in t r.txn ≡ true → ended_in t r.txn ≡ false → (r.txn ≡ u → ⊥) → committed_in o (with_commit t u) r.item ≡ committed_in o t r.item
read_locked {t = t} re o u a r ir rd ur er ne =
    committed_after re o u r.item a
    ∙ ap (after_writes (committed_in o t r.item)) (filter_none_in (wrote_by r.item u) t.operations
    (λ w i. false_from_ne_true (wrote_by r.item u w) (λ h.
    let p = wrote_parts r.item u w h in
    let apart : w.txn ≡ r.txn → ⊥ = λ e. ne (sym e ∙ p.2) in
    let apart' : r.txn ≡ w.txn → ⊥ = λ e. ne (e ∙ p.2) in
    ⊎_elim
    (λ l. true≢false (sym (l (conflict_of w r apart p.1 (or_left w.writes r.writes p.0)) (writers re w i p.0) ur) ∙ (ap (ended_in t) p.2 ∙ a.open_ended)))
    (λ l. true≢false (sym (l (conflict_of r w apart' (sym p.1) (or_right r.writes w.writes p.0)) ur (writers re w i p.0)) ∙ er))
    (pairs_either (Locked t) t.operations (locks re) w r i ir (λ e. apart (ap (λ z. z.txn) e))))))

pub reads_committed : {s : Setting} {t : Trace} {m : ℕ → ℕ} → Reached s t m → ReadsCommitted s.opening t
reads_committed nothing = λ k r g rd ur er. absurd (In-get [] k r g)
reads_committed (begin {t = t} re b keeps) = λ k r g rd ur er.
    reads_committed re k r g rd (sym (update_stays t b r.txn keeps ((known re).of_operations r (In-get t.operations k r g))) ∙ ur) er
reads_committed {s = s} (read_update {t = t} re u x a up free) =
    reads_with s.opening t (read_of u x (current_in s.opening t x)) a.open_ended (reads_committed re)
    (λ _ _. current_split re s.opening u x a ∙ ap (λ v. after_writes v (filter (wrote_by x u) t.operations)) (abort_settled re s.opening u x a free))
reads_committed {s = s} (read_query {t = t} re u x n a nup paid) =
    reads_with s.opening t (read_of u x (current_in s.opening t x)) a.open_ended (reads_committed re) (λ _ up. absurd (true≢false (sym up ∙ nup)))
reads_committed {s = s} (write {t = t} re u x v c a up free paid) =
    reads_with s.opening t (write_of u x v) a.open_ended (reads_committed re) (λ rd _. absurd (true≢false rd))
reads_committed {s = s} (commit {t = t} re u a) = λ k r g rd ur er.
    let ne : r.txn ≡ u → ⊥ = λ e. true≢false (sym (or_left (is_among (t.commits ++ u ∷ []) r.txn) (is_among t.aborts r.txn) (ap (is_among (t.commits ++ u ∷ [])) e ∙ among_new t.commits u)) ∙ er) in
    let er0 : ended_in t r.txn ≡ false = false_from_ne_true (ended_in t r.txn) (λ h. true≢false (sym (ended_kept_commit t u r.txn h) ∙ er)) in
    reads_committed re k r g rd ur er0
    ∙ ap (λ v. after_writes v (filter (wrote_by r.item r.txn) (take k t.operations))) (sym (read_locked re s.opening u a r (In-get t.operations k r g) rd ur er0 ne))
reads_committed (abort {t = t} re u a) = λ k r g rd ur er.
    reads_committed re k r g rd ur (false_from_ne_true (ended_in t r.txn) (λ h. true≢false (sym (ended_kept_abort t u r.txn h) ∙ er)))

-- the value that a read of a committed update returned
abbrev pub ReadsAhead : (ℕ → ℤ) → Trace → Type 0
ReadsAhead o t = (k : ℕ) (r : Operation) → slice_get t.operations k ≡ Some r → r.writes ≡ false → is_among (committed_updates_in t) r.txn ≡ true →
    r.value ≡ after_writes (state_in o t (before_first (λ u. eqb u r.txn) (committed_updates_in t)) r.item) (filter (wrote_by r.item r.txn) (take k t.operations))

ahead_with : (o : ℕ → ℤ) (t : Trace) (w : Operation) → ended_in t w.txn ≡ false → ReadsAhead o t → ReadsAhead o (with_operation t w)
ahead_with o t w open_w was k r g rd c =
    let oc : is_among t.commits w.txn ≡ false = (or_parts (is_among t.commits w.txn) (is_among t.aborts w.txn) open_w).0 in
    let us : List ℕ = before_first (λ u. eqb u r.txn) (committed_updates_in t) in
    ⊎_elim
    (λ p. was k r p.0 rd c
    ∙ (ap (λ l. after_writes (state_in o t us r.item) (filter (wrote_by r.item r.txn) l)) (sym p.1)
    ∙ ap (λ v. after_writes v (filter (wrote_by r.item r.txn) (take k (t.operations ++ w ∷ []))))
    (sym (state_with o t w us r.item (λ u i e. true≢false (sym (commit_among t u (In-before_first (λ u. eqb u r.txn) (committed_updates_in t) u i)) ∙ (ap (is_among t.commits) (sym e) ∙ oc)))))))
    (λ p. absurd (true≢false (sym (commit_among t r.txn (In-from_any (committed_updates_in t) r.txn c)) ∙ (ap (λ z. is_among t.commits z.txn) (sym p.0) ∙ oc))))
    (get_push t.operations w k r g)

pub reads_ahead : {s : Setting} {t : Trace} {m : ℕ → ℕ} → Reached s t m → ReadsAhead s.opening t
reads_ahead nothing = λ k r g rd c. absurd (In-get [] k r g)
reads_ahead {s = s} (begin {t = t} re b keeps) =
    let same : committed_updates_in (with_begins t b) ≡ committed_updates_in t = filter_agree_in (update_in (with_begins t b)) (update_in t) t.commits
    (λ u i. update_stays t b u keeps ((known re).of_ends u (or_left (is_among t.commits u) (is_among t.aborts u) (any-from_number t.commits u i)))) in
    λ k r g rd c.
    reads_ahead re k r g rd (sym (ap (λ us. is_among us r.txn) same) ∙ c)
    ∙ ap (λ us. after_writes (state_in s.opening t (before_first (λ u. eqb u r.txn) us) r.item) (filter (wrote_by r.item r.txn) (take k t.operations))) (sym same)
reads_ahead {s = s} (read_update {t = t} re u x a up free) = ahead_with s.opening t (read_of u x (current_in s.opening t x)) a.open_ended (reads_ahead re)
reads_ahead {s = s} (read_query {t = t} re u x n a nup paid) = ahead_with s.opening t (read_of u x (current_in s.opening t x)) a.open_ended (reads_ahead re)
reads_ahead {s = s} (write {t = t} re u x v c a up free paid) = ahead_with s.opening t (write_of u x v) a.open_ended (reads_ahead re)
reads_ahead {s = s} (commit {t = t} re u a) = λ k r g rd c.
    let cs : List ℕ = committed_updates_in t in
    let e : committed_updates_in (with_commit t u) ≡ cs ++ filter (update_in t) (u ∷ []) = filter-append (update_in t) t.commits (u ∷ []) in
    let answer : List ℕ → ℤ = λ us. after_writes (state_in s.opening t (before_first (λ v. eqb v r.txn) us) r.item) (filter (wrote_by r.item r.txn) (take k t.operations)) in
    ⊎_elim
    (λ old. reads_ahead re k r g rd old
    ∙ (ap (λ us. after_writes (state_in s.opening t us r.item) (filter (wrote_by r.item r.txn) (take k t.operations)))
    (sym (before_first-unchanged (λ v. eqb v r.txn) cs (filter (update_in t) (u ∷ [])) old))
    ∙ ap answer (sym e)))
    (λ no.
    let i : In r.txn (committed_updates_in (with_commit t u)) = In-from_any (committed_updates_in (with_commit t u)) r.txn c in
    let p = In-of_filter (update_in t) (t.commits ++ u ∷ []) r.txn i in
    let eu : u ≡ r.txn = ⊎_elim (λ h. absurd (true≢false (sym (any-from_number cs r.txn (In-filter (update_in t) t.commits r.txn (In-from_any t.commits r.txn h) p.1)) ∙ no))) (λ h. h)
    (among_push t.commits u r.txn (any-from_number (t.commits ++ u ∷ []) r.txn p.0)) in
    let one : filter (update_in t) (u ∷ []) ≡ u ∷ [] = cond-true (update_in t u) (u ∷ []) [] (ap (update_in t) eu ∙ p.1) in
    let l : before_first (λ v. eqb v r.txn) (committed_updates_in (with_commit t u)) ≡ cs =
    ap (before_first (λ v. eqb v r.txn)) (e ∙ ap (λ zs. cs ++ zs) one) ∙ before_first-all (λ v. eqb v r.txn) cs u [] no (eq-eqb u r.txn eu) in
    reads_committed re k r g rd p.1 (ap (ended_in t) (sym eu) ∙ a.open_ended)
    ∙ ap (λ v. after_writes v (filter (wrote_by r.item r.txn) (take k t.operations)))
    (sym (committed_version re s.opening r.item) ∙ ap (λ us. state_in s.opening t us r.item) (sym l)))
    (cases_Bool (is_among cs r.txn))
reads_ahead (abort re u a) = reads_ahead re
