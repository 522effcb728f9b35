-- The open charges of a query are at most its import.
use Rattle.std.proofs.Common.{◌≡◌, ℕ, ◌+◌, ◌*◌, ◌≤◌, ℤ, Bool, true, false, cond, not, ◌&&◌, ◌⊎◌, List, [], ◌∷◌, ◌++◌, refl, sym, ◌∙◌, ap, subst, ⊎_elim, arith, filter, eqb, Option, Some, None, count_by, sum_by, is_some}
use Rattle.std.proofs.Math.Nat.{le_trans}
use Rattle.std.proofs.Math.Path.{fun_ext}
use Rattle.std.proofs.lemmas.List.Sums.{sum_by-cons, sum_by_push}
use Rattle.std.proofs.lemmas.Bool.{true≢false, cases_Bool, cases_eq, and_parts, and_from, eq-eqb, ne_eqb, false_from_ne_true, cond-true}
use Rattle.esr_history.specs.Operations.{Operation}
use Rattle.esr_history.specs.Events.{BeginRecord}
use Rattle.esr_history.proofs.Membership.{In}
use Rattle.esr_history.proofs.Traces.{holds_of, Setting, IsMetric, reads_item, writes_item, Trace, update_in, begun_in, ended_in, NoOtherWriter, with_operation, with_commit, with_abort, read_of, write_of, current_in, committed_in, Reached, Reached.nothing, Reached.begin, Reached.read_update, Reached.read_query, Reached.write, Reached.commit, Reached.abort}
use Rattle.esr_history.proofs.Locking.{update_stays, ended_kept_commit, ended_kept_abort}
use Rattle.esr_history.proofs.Versions.{writers, settled, item_parts, current_after_abort, committed_after_commit, committed_with, current_with_other, current_with_write, filter_push_true}
use Rattle.esr_history.proofs.Covered.{read_by, reads_with, sums_within, unbegun, query_from}

-- the distance of the two values of an item
abbrev pub lag : Setting → Trace → ℕ → ℕ
lag s t x = s.distance x (current_in s.opening t x) (committed_in s.opening t x)

abbrev pub open_in : Setting → Trace → ℕ → ℕ
open_in s t q = sum_by (λ o. lag s t o.item) (filter (read_by q) t.operations)

sums_le : (f g : Operation → ℕ) (xs : List Operation) → ((o : Operation) → f o ≤ g o) → sum_by f xs ≤ sum_by g xs
sums_le f g [] each = omega arith
sums_le f g (o ∷ xs) each =
    let one : f o ≤ g o = each o in
    let rest : sum_by f xs ≤ sum_by g xs = sums_le f g xs each in
    rw (sum_by-cons f o xs, sum_by-cons g o xs) (omega (arith, one, rest))

lag_read : (s : Setting) (t : Trace) (r : Operation) → r.writes ≡ false → ended_in t r.txn ≡ false → lag s (with_operation t r) ≡ lag s t
lag_read s t r reads running =
    fun_ext (λ x.
    ap (λ v. s.distance x v (committed_in s.opening (with_operation t r) x)) (current_with_other s.opening t r x (ap (λ b. b && eqb r.item x) reads))
    ∙ ap (s.distance x (current_in s.opening t x)) (committed_with s.opening t r x running))

lag_paid : {s : Setting} {t : Trace} {m : ℕ → ℕ} → IsMetric s.distance → Reached s t m → (u x c : ℕ) → update_in t u ≡ false →
    NoOtherWriter t u x ⊎ (lag s t x ≤ c) → lag s t x ≤ c
lag_paid {s = s} {t = t} d r u x c nup paid =
    ⊎_elim
    (λ free.
    subst (λ v. s.distance x (current_in s.opening t x) v ≤ c) (settled r s.opening x (over free))
    (subst (λ n. n ≤ c) (sym (d.same x (current_in s.opening t x))) (omega arith)))
    (λ p. p) paid
  where
    over : NoOtherWriter t u x → (o : Operation) → In o t.operations → writes_item x o ≡ true → ended_in t o.txn ≡ true
    over free o i is =
        let p = item_parts x o is in
        let up : update_in t o.txn ≡ true = writers r o i p.0 in
        free.none o i p.0 p.1 (λ e. true≢false (sym up ∙ (ap (update_in t) e ∙ nup))) up

pub open_within : {s : Setting} {t : Trace} {m : ℕ → ℕ} → IsMetric s.distance → Reached s t m → (q : ℕ) → ended_in t q ≡ false → update_in t q ≡ false → open_in s t q ≤ m q
open_within d nothing q eq uq = omega arith
open_within d (begin {t = t} r b keeps) q eq uq =
    open_within d r q eq
    (false_from_ne_true (update_in t q) (λ h.
    let bg : begun_in t q ≡ true = begun_if (t.begin_record q) h in
    true≢false (sym (update_stays t b q keeps bg ∙ h) ∙ uq)))
  where
    begun_if : (o : Option BeginRecord) → holds_of (λ s. not s.query) o ≡ true → is_some o ≡ true
    begun_if None h = absurd (true≢false (sym h))
    begun_if (Some b) h = refl
open_within {s = s} d (read_update {t = t} {m = m} r u x ac up free) q eq uq =
    let o : Operation = read_of u x (current_in s.opening t x) in
    let ne : u ≡ q → ⊥ = λ e. true≢false (sym up ∙ (ap (update_in t) e ∙ uq)) in
    subst (λ f. sum_by (λ o. f o.item) (filter (read_by q) (t.operations ++ o ∷ [])) ≤ m q) (sym (lag_read s t o refl ac.open_ended))
    (subst (λ l. sum_by (λ o. lag s t o.item) l ≤ m q) (sym (reads_with t o q (ne_eqb u q ne))) (open_within d r q eq uq))
open_within {s = s} d (read_query {t = t} {m = m} r u x c ac nup paid) q eq uq =
    let o : Operation = read_of u x (current_in s.opening t x) in
    let below : sum_by (λ o. lag s t o.item) (filter (read_by q) t.operations) ≤ m q = open_within d r q eq uq in
    subst (λ f. sum_by (λ o. f o.item) (filter (read_by q) (t.operations ++ o ∷ [])) ≤ m q + c q) (sym (lag_read s t o refl ac.open_ended))
    (⊎_elim
    (λ e.
    let one : lag s t x ≤ c q = subst (λ z. lag s t x ≤ c z) e (lag_paid d r u x (c u) nup paid) in
    let sum : sum_by (λ o. lag s t o.item) (filter (read_by q) (t.operations ++ o ∷ [])) ≡ sum_by (λ o. lag s t o.item) (filter (read_by q) t.operations) + lag s t x =
    ap (sum_by (λ o. lag s t o.item)) (filter_push_true (read_by q) t.operations o (eq-eqb u q e)) ∙ sum_by_push (λ o. lag s t o.item) (filter (read_by q) t.operations) o in
    subst (λ z. z ≤ m q + c q) (sym sum) (add_le below one))
    (λ ne.
    let sum : sum_by (λ o. lag s t o.item) (filter (read_by q) (t.operations ++ o ∷ [])) ≡ sum_by (λ o. lag s t o.item) (filter (read_by q) t.operations) = ap (sum_by (λ o. lag s t o.item)) (reads_with t o q (ne_eqb u q ne)) in
    subst (λ z. z ≤ m q + c q) (sym sum) (more_le (sum_by (λ o. lag s t o.item) (filter (read_by q) t.operations)) (m q) (c q) below))
    (cases_eq u q))
  where
    add_le : {a b c e : ℕ} → a ≤ b → c ≤ e → a + c ≤ b + e
    add_le h k = omega arith

    more_le : (a b c : ℕ) → a ≤ b → a ≤ b + c
    more_le a b c h = omega arith
open_within {s = s} d (write {t = t} {m = m} r u x v c ac up free paid) q eq uq =
    let o : Operation = write_of u x v in
    let below : sum_by (λ o. lag s t o.item) (filter (read_by q) t.operations) ≤ m q = open_within d r q eq uq in
    subst (λ l. sum_by (λ o. lag s (with_operation t (write_of u x v)) o.item) l ≤ m q + c q) (sym (reads_with t o q refl))
    (⊎_elim
    (λ b.
    let k : ℕ = s.distance x v (current_in s.opening t x) in
    let counts : Operation → Bool = λ o. reads_item x o && eqb o.txn q in
    let grown : sum_by (λ o. lag s (with_operation t (write_of u x v)) o.item) (filter (read_by q) t.operations) ≤ sum_by (λ o. lag s t o.item) (filter (read_by q) t.operations) + count_by counts t.operations * k =
    sums_within (read_by q) counts (λ o. lag s (with_operation t (write_of u x v)) o.item) (λ o. lag s t o.item) k t.operations (λ o i h. single o h) in
    chain (sum_by (λ o. lag s (with_operation t (write_of u x v)) o.item) (filter (read_by q) t.operations)) (sum_by (λ o. lag s t o.item) (filter (read_by q) t.operations)) (count_by counts t.operations * k) (m q) (c q) grown below
    (paid q (record { begun = b; open_ended = eq }) (query_from (t.begin_record q) b uq)))
    (λ nb. subst (λ l. sum_by (λ o. lag s (with_operation t (write_of u x v)) o.item) l ≤ m q + c q) (sym (unbegun r q nb)) (nothing_le (m q + c q)))
    (cases_Bool (begun_in t q)))
  where
    chain : (a b e n k : ℕ) → a ≤ b + e → b ≤ n → e ≤ k → a ≤ n + k
    chain a b e n k h1 h2 h3 = omega arith

    nothing_le : (n : ℕ) → 0 ≤ n
    nothing_le n = omega arith

    swapped : (a b c : ℕ) → a ≤ b + c → a ≤ c + b
    swapped a b c h = omega arith

    moved : lag s (with_operation t (write_of u x v)) x ≤ lag s t x + s.distance x v (current_in s.opening t x)
    moved =
        let cur : ℤ = current_in s.opening t x in
        let kept : ℤ = committed_in s.opening t x in
        let tri : s.distance x v kept ≤ s.distance x v cur + s.distance x cur kept = d.triangle x v cur kept in
        subst (λ z. s.distance x z (committed_in s.opening (with_operation t (write_of u x v)) x) ≤ lag s t x + s.distance x v cur) (sym (current_with_write s.opening t (write_of u x v) x ac.open_ended (eq-eqb x x refl)))
        (subst (λ z. s.distance x v z ≤ lag s t x + s.distance x v cur) (sym (committed_with s.opening t (write_of u x v) x ac.open_ended)) (swapped (s.distance x v kept) (s.distance x v cur) (s.distance x cur kept) tri))

    single : (o : Operation) → read_by q o ≡ true → lag s (with_operation t (write_of u x v)) o.item ≤ lag s t o.item + cond (reads_item x o && eqb o.txn q) (s.distance x v (current_in s.opening t x)) 0
    single o h =
        let p = and_parts (not o.writes) (eqb o.txn q) h in
        ⊎_elim
        (λ e.
        subst (λ z. lag s (with_operation t (write_of u x v)) o.item ≤ lag s t o.item + z)
        (sym (cond-true (reads_item x o && eqb o.txn q) (s.distance x v (current_in s.opening t x)) 0 (and_from (reads_item x o) (eqb o.txn q) (and_from (not o.writes) (eqb o.item x) p.0 (eq-eqb o.item x e)) p.1)))
        (subst (λ y. lag s (with_operation t (write_of u x v)) y ≤ lag s t y + s.distance x v (current_in s.opening t x)) (sym e) moved))
        (λ ne.
        let same : lag s (with_operation t (write_of u x v)) o.item ≡ lag s t o.item =
        ap (λ w. s.distance o.item w (committed_in s.opening (with_operation t (write_of u x v)) o.item)) (current_with_other s.opening t (write_of u x v) o.item (ne_eqb x o.item (λ e. ne (sym e))))
        ∙ ap (s.distance o.item (current_in s.opening t o.item)) (committed_with s.opening t (write_of u x v) o.item ac.open_ended) in
        subst (λ z. z ≤ lag s t o.item + cond (reads_item x o && eqb o.txn q) (s.distance x v (current_in s.opening t x)) 0) (sym same) (omega arith))
        (cases_eq o.item x)
open_within {s = s} d (commit {t = t} {m = m} r u a) q eq uq =
    le_trans
    (sums_le (λ o. lag s (with_commit t u) o.item) (λ o. lag s t o.item) (filter (read_by q) t.operations) (λ o. nearer o.item))
    (open_within d r q (false_from_ne_true (ended_in t q) (λ h. true≢false (sym (ended_kept_commit t u q h) ∙ eq))) uq)
  where
    nearer : (x : ℕ) → lag s (with_commit t u) x ≤ lag s t x
    nearer x =
        ⊎_elim
        (λ e. subst (λ v. s.distance x (current_in s.opening t x) v ≤ lag s t x) (sym e) (omega arith))
        (λ e. subst (λ v. s.distance x (current_in s.opening t x) v ≤ lag s t x) (sym e) (subst (λ n. n ≤ lag s t x) (sym (d.same x (current_in s.opening t x))) (omega arith)))
        (committed_after_commit r s.opening u x a)
open_within {s = s} d (abort {t = t} {m = m} r u a) q eq uq =
    le_trans
    (sums_le (λ o. lag s (with_abort t u) o.item) (λ o. lag s t o.item) (filter (read_by q) t.operations) (λ o. nearer o.item))
    (open_within d r q (false_from_ne_true (ended_in t q) (λ h. true≢false (sym (ended_kept_abort t u q h) ∙ eq))) uq)
  where
    nearer : (x : ℕ) → lag s (with_abort t u) x ≤ lag s t x
    nearer x =
        ⊎_elim
        (λ e. subst (λ v. s.distance x v (committed_in s.opening t x) ≤ lag s t x) (sym e) (subst (λ n. n ≤ lag s t x) (sym (d.same x (committed_in s.opening t x))) (omega arith)))
        (λ e. subst (λ v. s.distance x v (committed_in s.opening t x) ≤ lag s t x) (sym e) (omega arith))
        (current_after_abort r s.opening u x a)
