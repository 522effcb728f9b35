-- The amount charged to a query is at least the distance of its reads to any mixture of committed and current values.
use Rattle.std.proofs.Common.{◌≡◌, ℕ, ◌+◌, ◌*◌, ◌≤◌, ℤ, Bool, true, false, cond, not, ◌&&◌, ◌⊎◌, List, [], ◌∷◌, ◌++◌, refl, sym, ◌∙◌, ap, subst, inl, inr, ⊎_elim, arith, filter, eqb, Option, Some, None, count_by, sum_by, is_some}
use Rattle.std.proofs.lemmas.List.Sums.{sum_by-cons, sum_by_push}
use Rattle.std.proofs.lemmas.Bool.{true≢false, cases_Bool, cases_eq, and_parts, and_from, eqb-true, eq-eqb, ne_eqb, not-true, not_from_false, not-false, false_from_ne_true, cond-true, cond-false}
use Rattle.esr_history.specs.Operations.{Operation}
use Rattle.esr_history.specs.Events.{BeginRecord}
use Rattle.esr_history.proofs.Membership.{In, filter_none_in}
use Rattle.esr_history.proofs.Traces.{holds_of, Setting, IsMetric, reads_item, Trace, update_in, query_in, begun_in, ended_in, Active, with_operation, read_of, write_of, current_in, committed_in, read_count_in, Reached, Reached.nothing, Reached.begin, Reached.read_update, Reached.read_query, Reached.write, Reached.commit, Reached.abort}
use Rattle.esr_history.proofs.Locking.{known, update_stays, ended_kept_commit, ended_kept_abort}
use Rattle.esr_history.proofs.Versions.{writers, settled, item_parts, current_after_abort, committed_after_commit, committed_with, current_with_other, current_with_write, filter_push_false, filter_push_true}

abbrev pub read_by : ℕ → Operation → Bool
read_by q o = not o.writes && eqb o.txn q

abbrev pub value_distance : (ℕ → ℤ → ℤ → ℕ) → Trace → ℕ → (ℕ → ℤ) → ℕ
value_distance d t q w = sum_by (λ o. d o.item o.value (w o.item)) (filter (read_by q) t.operations)

-- each item at its committed or its current value
abbrev pub IsMixture : (ℕ → ℤ) → Trace → (ℕ → ℤ) → Type 0
IsMixture o t w = (x : ℕ) → (w x ≡ committed_in o t x) ⊎ (w x ≡ current_in o t x)

abbrev pub IsCovered : Setting → Trace → (ℕ → ℕ) → Type 0
IsCovered s t m = (q : ℕ) → ended_in t q ≡ false → update_in t q ≡ false → (w : ℕ → ℤ) → IsMixture s.opening t w → value_distance s.distance t q w ≤ m q

-- an operation of another leaves the reads of q
pub reads_with : (t : Trace) (o : Operation) (q : ℕ) → read_by q o ≡ false → filter (read_by q) (t.operations ++ o ∷ []) ≡ filter (read_by q) t.operations
reads_with t o q h = filter_push_false (read_by q) t.operations o h

read_parts : (q : ℕ) (o : Operation) → read_by q o ≡ true → (o.writes ≡ false) × (o.txn ≡ q)
read_parts q o h = let p = and_parts (not o.writes) (eqb o.txn q) h in (not-true o.writes p.0, eqb-true o.txn q p.1)

-- if single distances grow by at most k at the elements that c counts, so do the sums
pub sums_within : (p c : Operation → Bool) (f g : Operation → ℕ) (k : ℕ) (xs : List Operation) →
    ((o : Operation) → In o xs → p o ≡ true → f o ≤ g o + cond (c o) k 0) →
    sum_by f (filter p xs) ≤ sum_by g (filter p xs) + count_by c xs * k
sums_within p c f g k [] h = omega arith
sums_within p c f g k (x ∷ xs) h =
    let rest : sum_by f (filter p xs) ≤ sum_by g (filter p xs) + count_by c xs * k = sums_within p c f g k xs (λ o i. h o (inr i)) in
    let n : count_by c (x ∷ xs) ≡ cond (c x) 1 0 + count_by c xs = sum_by-cons (λ y. cond (c y) 1 0) x xs in
    ⊎_elim
    (λ t.
    let e1 : sum_by f (filter p (x ∷ xs)) ≡ f x + sum_by f (filter p xs) = ap (sum_by f) (cond-true (p x) (x ∷ filter p xs) (filter p xs) t) ∙ sum_by-cons f x (filter p xs) in
    let e2 : sum_by g (filter p (x ∷ xs)) ≡ g x + sum_by g (filter p xs) = ap (sum_by g) (cond-true (p x) (x ∷ filter p xs) (filter p xs) t) ∙ sum_by-cons g x (filter p xs) in
    subst (λ z. z ≤ sum_by g (filter p (x ∷ xs)) + count_by c (x ∷ xs) * k) (sym e1)
    (subst (λ z. f x + sum_by f (filter p xs) ≤ z + count_by c (x ∷ xs) * k) (sym e2)
    (subst (λ z. f x + sum_by f (filter p xs) ≤ g x + sum_by g (filter p xs) + z * k) (sym n)
    (join_one (c x) (f x) (sum_by f (filter p xs)) (g x) (sum_by g (filter p xs)) (count_by c xs) k (h x (inl refl) t) rest))))
    (λ no.
    let e1 : sum_by f (filter p (x ∷ xs)) ≡ sum_by f (filter p xs) = ap (sum_by f) (cond-false (p x) (x ∷ filter p xs) (filter p xs) no) in
    let e2 : sum_by g (filter p (x ∷ xs)) ≡ sum_by g (filter p xs) = ap (sum_by g) (cond-false (p x) (x ∷ filter p xs) (filter p xs) no) in
    subst (λ z. z ≤ sum_by g (filter p (x ∷ xs)) + count_by c (x ∷ xs) * k) (sym e1)
    (subst (λ z. sum_by f (filter p xs) ≤ z + count_by c (x ∷ xs) * k) (sym e2)
    (subst (λ z. sum_by f (filter p xs) ≤ sum_by g (filter p xs) + z * k) (sym n)
    (join_none (c x) (sum_by f (filter p xs)) (sum_by g (filter p xs)) (count_by c xs) k rest))))
    (cases_Bool (p x))
  where
    join_one : (b : Bool) (a r e s n k : ℕ) → a ≤ e + cond b k 0 → r ≤ s + n * k → a + r ≤ e + s + (cond b 1 0 + n) * k
    join_one true a r e s n k h1 h2 = omega arith
    join_one false a r e s n k h1 h2 = omega arith

    join_none : (b : Bool) (r s n k : ℕ) → r ≤ s + n * k → r ≤ s + (cond b 1 0 + n) * k
    join_none true r s n k h = omega arith
    join_none false r s n k h = omega arith

-- a transaction that was not begun has read nothing
pub unbegun : {s : Setting} {t : Trace} {m : ℕ → ℕ} → Reached s t m → (q : ℕ) → begun_in t q ≡ false → filter (read_by q) t.operations ≡ []
unbegun {t = t} r q h = grind (arith, filter_none_in, false_from_ne_true, true≢false, known r, begun_in t, read_parts)

pub query_from : (o : Option BeginRecord) → is_some o ≡ true → holds_of (λ s. not s.query) o ≡ false → holds_of (λ s. s.query) o ≡ true
query_from None b h = absurd (true≢false (sym b))
query_from (Some s) b h = not-false s.query h

write_covered : {s : Setting} {t : Trace} {m : ℕ → ℕ} → IsMetric s.distance → Reached s t m → IsCovered s t m →
    (u x : ℕ) (v : ℤ) (c : ℕ → ℕ) → Active t u → update_in t u ≡ true →
    ((q : ℕ) → Active t q → query_in t q ≡ true → read_count_in t x q * s.distance x v (current_in s.opening t x) ≤ c q) →
    IsCovered s (with_operation t (write_of u x v)) (λ q. m q + c q)
write_covered {s = s} {t = t} {m = m} d r was u x v c ac up paid = λ q eq uq w mix.
    let o : Operation = write_of u x v in
    let f : Operation → ℕ = λ o. s.distance o.item o.value (w o.item) in
    let ne : u ≡ q → ⊥ = λ e. true≢false (sym up ∙ (ap (update_in t) e ∙ uq)) in
    subst (λ l. sum_by f l ≤ m q + c q) (sym (reads_with t o q refl))
    (⊎_elim
    (λ e.
    let below : sum_by f (filter (read_by q) t.operations) ≤ m q = was q eq uq w
    (λ y. ⊎_elim (λ yx. inl (ap w yx ∙ (e ∙ (committed_with s.opening t o x ac.open_ended ∙ ap (committed_in s.opening t) (sym yx))))) (λ nyx. elsewhere w y nyx (mix y)) (cases_eq y x)) in
    more_le (sum_by f (filter (read_by q) t.operations)) (m q) (c q) below)
    (λ e. written q eq uq w (e ∙ current_with_write s.opening t o x ac.open_ended (eq-eqb x x refl)) (λ y nyx. elsewhere w y nyx (mix y)))
    (mix x))
  where
    more_le : (a b c : ℕ) → a ≤ b → a ≤ b + c
    more_le a b c h = omega arith

    elsewhere : (w : ℕ → ℤ) (y : ℕ) → (y ≡ x → ⊥) →
        ((w y ≡ committed_in s.opening (with_operation t (write_of u x v)) y) ⊎ (w y ≡ current_in s.opening (with_operation t (write_of u x v)) y)) →
        (w y ≡ committed_in s.opening t y) ⊎ (w y ≡ current_in s.opening t y)
    elsewhere w y nyx mx =
        grind (arith, ⊎_elim, committed_with s.opening t (write_of u x v) y ac.open_ended, write_of u x v, current_with_other, ne_eqb)

    chain : (a b e n k : ℕ) → a ≤ b + e → b ≤ n → e ≤ k → a ≤ n + k
    chain a b e n k h1 h2 h3 = omega arith

    same_le : (n : ℕ) → n ≤ n
    same_le n = omega arith

    nothing_le : (n : ℕ) → 0 ≤ n
    nothing_le n = omega arith

    single : (q : ℕ) (w : ℕ → ℤ) → w x ≡ v → (o : Operation) → In o t.operations → read_by q o ≡ true →
        s.distance o.item o.value (w o.item) ≤ s.distance o.item o.value (cond (eqb o.item x) (current_in s.opening t x) (w o.item)) + cond (reads_item x o && eqb o.txn q) (s.distance x v (current_in s.opening t x)) 0
    single q w wx o i h =
        let cur : ℤ = current_in s.opening t x in
        let p = read_parts q o h in
        ⊎_elim
        (λ e.
        let e1 : w o.item ≡ v = ap w e ∙ wx in
        let e2 : cond (eqb o.item x) cur (w o.item) ≡ cur = cond-true (eqb o.item x) cur (w o.item) (eq-eqb o.item x e) in
        let e3 : cond (reads_item x o && eqb o.txn q) (s.distance x v cur) 0 ≡ s.distance x v cur =
        cond-true (reads_item x o && eqb o.txn q) (s.distance x v cur) 0 (and_from (reads_item x o) (eqb o.txn q) (and_from (not o.writes) (eqb o.item x) (not_from_false o.writes p.0) (eq-eqb o.item x e)) (eq-eqb o.txn q p.1)) in
        let e4 : s.distance o.item cur v ≡ s.distance x v cur = ap (λ y. s.distance y cur v) e ∙ d.symmetric x cur v in
        let tri : s.distance o.item o.value v ≤ s.distance o.item o.value cur + s.distance o.item cur v = d.triangle o.item o.value cur v in
        subst (λ z. s.distance o.item o.value z ≤ s.distance o.item o.value (cond (eqb o.item x) cur (w o.item)) + cond (reads_item x o && eqb o.txn q) (s.distance x v cur) 0) (sym e1)
        (subst (λ z. s.distance o.item o.value v ≤ s.distance o.item o.value z + cond (reads_item x o && eqb o.txn q) (s.distance x v cur) 0) (sym e2)
        (subst (λ z. s.distance o.item o.value v ≤ s.distance o.item o.value cur + z) (sym e3)
        (subst (λ z. s.distance o.item o.value v ≤ s.distance o.item o.value cur + z) e4 tri))))
        (λ ne. subst (λ z. s.distance o.item o.value (w o.item) ≤ s.distance o.item o.value z + cond (reads_item x o && eqb o.txn q) (s.distance x v cur) 0)
        (sym (cond-false (eqb o.item x) cur (w o.item) (ne_eqb o.item x ne)))
        (more_le (s.distance o.item o.value (w o.item)) (s.distance o.item o.value (w o.item)) (cond (reads_item x o && eqb o.txn q) (s.distance x v cur) 0) (same_le (s.distance o.item o.value (w o.item)))))
        (cases_eq o.item x)

    written : (q : ℕ) → ended_in t q ≡ false → update_in t q ≡ false → (w : ℕ → ℤ) → w x ≡ v →
        ((y : ℕ) → (y ≡ x → ⊥) → (w y ≡ committed_in s.opening t y) ⊎ (w y ≡ current_in s.opening t y)) →
        sum_by (λ o. s.distance o.item o.value (w o.item)) (filter (read_by q) t.operations) ≤ m q + c q
    written q eq uq w wx other =
        let cur : ℤ = current_in s.opening t x in
        let w0 : ℕ → ℤ = λ y. cond (eqb y x) cur (w y) in
        let f : Operation → ℕ = λ o. s.distance o.item o.value (w o.item) in
        let g : Operation → ℕ = λ o. s.distance o.item o.value (w0 o.item) in
        let k : ℕ = s.distance x v cur in
        let counts : Operation → Bool = λ o. reads_item x o && eqb o.txn q in
        let mix0 : IsMixture s.opening t w0 = λ y. ⊎_elim
        (λ yx. inr (cond-true (eqb y x) cur (w y) (eq-eqb y x yx) ∙ ap (current_in s.opening t) (sym yx)))
        (λ nyx. let z : w0 y ≡ w y = cond-false (eqb y x) cur (w y) (ne_eqb y x nyx) in ⊎_elim (λ e. inl (z ∙ e)) (λ e. inr (z ∙ e)) (other y nyx))
        (cases_eq y x) in
        let below : sum_by g (filter (read_by q) t.operations) ≤ m q = was q eq uq w0 mix0 in
        let grown : sum_by f (filter (read_by q) t.operations) ≤ sum_by g (filter (read_by q) t.operations) + count_by counts t.operations * k =
        sums_within (read_by q) counts f g k t.operations (λ o i h. single q w wx o i h) in
        ⊎_elim
        (λ b. chain (sum_by f (filter (read_by q) t.operations)) (sum_by g (filter (read_by q) t.operations)) (count_by counts t.operations * k) (m q) (c q) grown below
        (paid q (record { begun = b; open_ended = eq }) (query_from (t.begin_record q) b uq)))
        (λ nb. subst (λ l. sum_by f l ≤ m q + c q) (sym (unbegun r q nb)) (nothing_le (m q + c q)))
        (cases_Bool (begun_in t q))

pub covered : {s : Setting} {t : Trace} {m : ℕ → ℕ} → IsMetric s.distance → Reached s t m → IsCovered s t m
covered d nothing = λ q eq uq w mix. omega arith
covered {s = s} d (begin {t = t} r b keeps) = λ q eq uq w mix.
    covered d r q eq
    (false_from_ne_true (update_in t q) (λ h.
    let bg : begun_in t q ≡ true = begun_if (t.begin_record q) h in
    true≢false (sym (update_stays t b q keeps bg ∙ h) ∙ uq)))
    w mix
  where
    begun_if : (o : Option BeginRecord) → holds_of (λ s. not s.query) o ≡ true → is_some o ≡ true
    begun_if None h = absurd (true≢false (sym h))
    begun_if (Some b) h = refl
covered {s = s} d (read_update {t = t} {m = m} r u x ac up free) = λ q eq uq w mix.
    let o : Operation = read_of u x (current_in s.opening t x) in
    let ne : u ≡ q → ⊥ = λ e. true≢false (sym up ∙ (ap (update_in t) e ∙ uq)) in
    subst (λ l. sum_by (λ o. s.distance o.item o.value (w o.item)) l ≤ m q) (sym (reads_with t o q (ne_eqb u q ne)))
    (covered d r q eq uq w (λ y. ⊎_elim (λ e. inl (e ∙ committed_with s.opening t o y ac.open_ended)) (λ e. inr (e ∙ current_with_other s.opening t o y refl)) (mix y)))
covered {s = s} d (read_query {t = t} {m = m} r u x c ac nup paid) = λ q eq uq w mix.
    let o : Operation = read_of u x (current_in s.opening t x) in
    let f : Operation → ℕ = λ o. s.distance o.item o.value (w o.item) in
    let old : IsMixture s.opening t w = λ y. ⊎_elim (λ e. inl (e ∙ committed_with s.opening t o y ac.open_ended)) (λ e. inr (e ∙ current_with_other s.opening t o y refl)) (mix y) in
    let below : sum_by f (filter (read_by q) t.operations) ≤ m q = covered d r q eq uq w old in
    ⊎_elim
    (λ e.
    let one : f o ≤ c q = subst (λ z. f o ≤ c z) e (read_paid w (old x)) in
    let sum : sum_by f (filter (read_by q) (t.operations ++ o ∷ [])) ≡ sum_by f (filter (read_by q) t.operations) + f o =
    ap (sum_by f) (filter_push_true (read_by q) t.operations o (eq-eqb u q e)) ∙ sum_by_push f (filter (read_by q) t.operations) o in
    subst (λ z. z ≤ m q + c q) (sym sum) (add_le below one))
    (λ ne.
    let sum : sum_by f (filter (read_by q) (t.operations ++ o ∷ [])) ≡ sum_by f (filter (read_by q) t.operations) = ap (sum_by f) (reads_with t o q (ne_eqb u q ne)) in
    subst (λ z. z ≤ m q + c q) (sym sum) (more_le (sum_by f (filter (read_by q) t.operations)) (m q) (c q) below))
    (cases_eq u q)
  where
    add_le : {a b c e : ℕ} → a ≤ b → c ≤ e → a + c ≤ b + e
    add_le h k = omega arith

    more_le : (a b c : ℕ) → a ≤ b → a ≤ b + c
    more_le a b c h = omega arith

    read_paid : (w : ℕ → ℤ) → ((w x ≡ committed_in s.opening t x) ⊎ (w x ≡ current_in s.opening t x)) → s.distance x (current_in s.opening t x) (w x) ≤ c u
    read_paid w mx = grind (arith, ⊎_elim, current_in s.opening t x, settled, item_parts, true≢false, writers, update_in t)
covered d (write r u x v c ac up free paid) = write_covered d r (covered d r) u x v c ac up paid
covered {s = s} d (commit {t = t} r u a) = λ q eq uq w mix.
    covered d r q (false_from_ne_true (ended_in t q) (λ h. true≢false (sym (ended_kept_commit t u q h) ∙ eq))) uq w
    (λ x. ⊎_elim (λ e. ⊎_elim (λ f. inl (e ∙ f)) (λ f. inr (e ∙ f)) (committed_after_commit r s.opening u x a)) (λ e. inr e) (mix x))
covered {s = s} d (abort {t = t} r u a) = λ q eq uq w mix.
    covered d r q (false_from_ne_true (ended_in t q) (λ h. true≢false (sym (ended_kept_abort t u q h) ∙ eq))) uq w
    (λ x. ⊎_elim (λ e. inl e) (λ e. ⊎_elim (λ f. inl (e ∙ f)) (λ f. inr (e ∙ f)) (current_after_abort r s.opening u x a)) (mix x))
