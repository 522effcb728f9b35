-- Committed and current values of a trace, and how each step moves them.
use Rattle.std.proofs.Common.{◌≡◌, ℕ, ℤ, Bool, true, false, cond, not, ◌&&◌, ◌||◌, ◌⊎◌, List, [], ◌∷◌, ◌++◌, refl, sym, ◌∙◌, ap, subst, inl, inr, ⊎_elim, filter, eqb, flat_map, arith, append-nil}
use Rattle.std.proofs.lemmas.List.Concat.{flat_map-append}
use Rattle.std.proofs.lemmas.List.Elements.{filter-append}
use Rattle.std.proofs.lemmas.Bool.{true≢false, cond_both, cases_Bool, cases_eq, and_parts, and_from, and_left, and_right, or_cases, or_left, or_parts, eqb-true, eq-eqb, ne_eqb, not-true, not_from_false, not_from_true, false_from_ne_true, eqb-false, cond-true, cond-false}
use Rattle.esr_history.specs.Operations.{Operation}
use Rattle.esr_history.specs.Serial.{conflict}
use Rattle.esr_history.proofs.Membership.{In, Pairs, each_at, In-of_filter, Pairs-map, In-push, filter_agree_in, filter_none_in, any-from_number, filter-some}
use Rattle.esr_history.proofs.LastWriter.{empty_or_not}
use Rattle.esr_history.proofs.Traces.{is_among, after_writes, writes_item, Setting, Trace, update_in, ended_in, Active, with_operation, with_commit, with_abort, with_begins, read_of, write_of, current_in, committed_in, Reached, Reached.nothing, Reached.begin, Reached.read_update, Reached.read_query, Reached.write, Reached.commit, Reached.abort}
use Rattle.esr_history.proofs.Locking.{known, locks, Locked, update_stays, among_push, among_new, among_other, committed_updates_in}

pub after_writes-append : (v : ℤ) (xs ys : List Operation) → after_writes v (xs ++ ys) ≡ after_writes (after_writes v xs) ys
after_writes-append v [] ys = refl
after_writes-append v (x ∷ xs) ys = after_writes-append x.value xs ys

after_writes-some : (xs : List Operation) (v u : ℤ) → (xs ≡ [] → ⊥) → after_writes v xs ≡ after_writes u xs
after_writes-some [] v u h = absurd (h refl)
after_writes-some (x ∷ xs) v u h = refl

-- no transaction both committed and aborted
pub ends_apart : {s : Setting} {t : Trace} {m : ℕ → ℕ} → Reached s t m → (u : ℕ) → is_among t.commits u ≡ true → is_among t.aborts u ≡ true → ⊥
ends_apart nothing u c a = true≢false (sym c)
ends_apart (begin r b keeps) u c a = ends_apart r u c a
ends_apart (read_update r v x ac up free) u c a = ends_apart r u c a
ends_apart (read_query r v x n ac up free) u c a = ends_apart r u c a
ends_apart (write r v x w n ac up free paid) u c a = ends_apart r u c a
ends_apart (commit {t = t} r v ac) u c a =
    ⊎_elim (λ i. ends_apart r u i a)
    (λ e. let p = or_parts (is_among t.commits v) (is_among t.aborts v) ac.open_ended in true≢false (sym (ap (is_among t.aborts) e ∙ a) ∙ p.1))
    (among_push t.commits v u c)
ends_apart (abort {t = t} r v ac) u c a =
    ⊎_elim (λ i. ends_apart r u c i)
    (λ e. let p = or_parts (is_among t.commits v) (is_among t.aborts v) ac.open_ended in true≢false (sym (ap (is_among t.commits) e ∙ c) ∙ p.0))
    (among_push t.aborts v u a)

-- updates alone write
pub writers : {s : Setting} {t : Trace} {m : ℕ → ℕ} → Reached s t m → (o : Operation) → In o t.operations → o.writes ≡ true → update_in t o.txn ≡ true
writers nothing = λ o i w. absurd i
writers (begin {t = t} r b keeps) = λ o i w. update_stays t b o.txn keeps ((known r).of_operations o i) ∙ writers r o i w
writers {s = s} (read_update {t = t} r v x ac up free) = In-push (λ o. o.writes ≡ true → update_in t o.txn ≡ true) t.operations (read_of v x (current_in s.opening t x)) (writers r) (λ e. up)
writers {s = s} (read_query {t = t} r v x n ac up free) = In-push (λ o. o.writes ≡ true → update_in t o.txn ≡ true) t.operations (read_of v x (current_in s.opening t x)) (writers r) (λ e. absurd (true≢false (sym e)))
writers (write {t = t} r v x w n ac up free paid) = In-push (λ o. o.writes ≡ true → update_in t o.txn ≡ true) t.operations (write_of v x w) (writers r) (λ e. up)
writers (commit r v ac) = writers r
writers (abort r v ac) = writers r

-- if the elements that pass m are the last of those that pass n, the filter by n splits into the others and them
pub filter_tail : {X : Type 0} (n m : X → Bool) (xs : List X) → Pairs (λ a b. m a ≡ true → n b ≡ true → m b ≡ true) xs → ((x : X) → m x ≡ true → n x ≡ true) →
    filter n xs ≡ filter (λ x. n x && not (m x)) xs ++ filter m xs
filter_tail n m [] p f = refl
filter_tail n m (x ∷ xs) p f =
    ⊎_elim
    (λ t.
    let rest : filter (λ y. n y && not (m y)) xs ≡ [] = filter_none_in (λ y. n y && not (m y)) xs (λ y i. false_from_ne_true (n y && not (m y))
    (λ b. let q = and_parts (n y) (not (m y)) b in true≢false (sym (each_at (λ b. m x ≡ true → n b ≡ true → m b ≡ true) xs y p.0 i t q.0) ∙ not-true (m y) q.1))) in
    let same : filter n xs ≡ filter m xs = filter_tail n m xs p.1 f ∙ ap (λ zs. zs ++ filter m xs) rest in
    cond-true (n x) (x ∷ filter n xs) (filter n xs) (f x t)
    ∙ (ap (λ zs. x ∷ zs) same
    ∙ sym (ap (λ zs. zs ++ cond (m x) (x ∷ filter m xs) (filter m xs))
    (cond-false (n x && not (m x)) (x ∷ filter (λ y. n y && not (m y)) xs) (filter (λ y. n y && not (m y)) xs) (and_right (n x) (not (m x)) (not_from_true (m x) t)) ∙ rest)
    ∙ cond-true (m x) (x ∷ filter m xs) (filter m xs) t)))
    (λ no.
    ⊎_elim
    (λ t. cond-true (n x) (x ∷ filter n xs) (filter n xs) t
    ∙ (ap (λ zs. x ∷ zs) (filter_tail n m xs p.1 f)
    ∙ sym (ap (λ zs. zs ++ cond (m x) (x ∷ filter m xs) (filter m xs))
    (cond-true (n x && not (m x)) (x ∷ filter (λ y. n y && not (m y)) xs) (filter (λ y. n y && not (m y)) xs) (and_from (n x) (not (m x)) t (not_from_false (m x) no)))
    ∙ ap (λ zs. x ∷ (filter (λ y. n y && not (m y)) xs ++ zs)) (cond-false (m x) (x ∷ filter m xs) (filter m xs) no))))
    (λ g. cond-false (n x) (x ∷ filter n xs) (filter n xs) g
    ∙ (filter_tail n m xs p.1 f
    ∙ sym (ap (λ zs. zs ++ cond (m x) (x ∷ filter m xs) (filter m xs))
    (cond-false (n x && not (m x)) (x ∷ filter (λ y. n y && not (m y)) xs) (filter (λ y. n y && not (m y)) xs) (and_left (n x) (not (m x)) g))
    ∙ ap (λ zs. filter (λ y. n y && not (m y)) xs ++ zs) (cond-false (m x) (x ∷ filter m xs) (filter m xs) no))))
    (cases_Bool (n x)))
    (cases_Bool (m x))

-- the writes of x by u
abbrev pub wrote_by : ℕ → ℕ → Operation → Bool
wrote_by x u o = writes_item x o && eqb o.txn u

pub wrote_parts : (x u : ℕ) (o : Operation) → wrote_by x u o ≡ true → (o.writes ≡ true) × (o.item ≡ x) × (o.txn ≡ u)
wrote_parts x u o h =
    grind (arith, and_parts (writes_item x o) (eqb o.txn u) h, writes_item x o, eqb o.txn u, and_parts, eqb o.item x, eqb-true)

pub item_parts : (x : ℕ) (o : Operation) → writes_item x o ≡ true → (o.writes ≡ true) × (o.item ≡ x)
item_parts x o h = let r = and_parts o.writes (eqb o.item x) h in (r.0, eqb-true o.item x r.1)

pub conflict_of : (a b : Operation) → (a.txn ≡ b.txn → ⊥) → a.item ≡ b.item → (a.writes || b.writes) ≡ true → conflict a b ≡ true
conflict_of a b ne i w =
    and_from (not (eqb a.txn b.txn)) (eqb a.item b.item && (a.writes || b.writes)) (not_from_false (eqb a.txn b.txn) (ne_eqb a.txn b.txn ne))
    (and_from (eqb a.item b.item) (a.writes || b.writes) (eq-eqb a.item b.item i) w)

-- once an update that has not ended wrote x, only it does
own_tail : {s : Setting} {t : Trace} {m : ℕ → ℕ} → Reached s t m → (u x : ℕ) → ended_in t u ≡ false → (c : Operation → Bool) →
    Pairs (λ a b. wrote_by x u a ≡ true → (writes_item x b && c b) ≡ true → wrote_by x u b ≡ true) t.operations
own_tail {t = t} r u x running c =
    Pairs-map (Locked t) (λ a b. wrote_by x u a ≡ true → (writes_item x b && c b) ≡ true → wrote_by x u b ≡ true) t.operations
    (λ a b ia ib l ma nb.
    let pa = wrote_parts x u a ma in
    let wb = (and_parts (writes_item x b) (c b) nb).0 in
    let pb = item_parts x b wb in
    ⊎_elim
    (λ e. and_from (writes_item x b) (eqb b.txn u) wb e)
    (λ ne. absurd (true≢false (sym
    (l (conflict_of a b (λ e. eqb-false b.txn u ne (sym e ∙ pa.2)) (pa.1 ∙ sym pb.1) (or_left a.writes b.writes pa.0))
    (writers r a ia pa.0) (writers r b ib pb.0))
    ∙ (ap (ended_in t) pa.2 ∙ running))))
    (cases_Bool (eqb b.txn u)))
    (locks r)

pub right_true : (x y : Bool) → y ≡ true → (x && y) ≡ x
right_true true y h = h
right_true false y h = refl

-- the committed values after a commit
pub committed_after : {s : Setting} {t : Trace} {m : ℕ → ℕ} → Reached s t m → (o : ℕ → ℤ) (u x : ℕ) → Active t u →
    committed_in o (with_commit t u) x ≡ after_writes (committed_in o t x) (filter (wrote_by x u) t.operations)
committed_after {t = t} r o u x a =
    let n : Operation → Bool = λ w. writes_item x w && is_among (t.commits ++ u ∷ []) w.txn in
    let n0 : Operation → Bool = λ w. writes_item x w && is_among t.commits w.txn in
    let e1 : filter n t.operations ≡ filter (λ w. n w && not (wrote_by x u w)) t.operations ++ filter (wrote_by x u) t.operations =
    filter_tail n (wrote_by x u) t.operations (own_tail r u x a.open_ended (λ w. is_among (t.commits ++ u ∷ []) w.txn))
    (λ w h. let p = and_parts (writes_item x w) (eqb w.txn u) h in
    and_from (writes_item x w) (is_among (t.commits ++ u ∷ []) w.txn) p.0 (ap (is_among (t.commits ++ u ∷ [])) (eqb-true w.txn u p.1) ∙ among_new t.commits u)) in
    let open_commit : is_among t.commits u ≡ false = (or_parts (is_among t.commits u) (is_among t.aborts u) a.open_ended).0 in
    let e2 : filter (λ w. n w && not (wrote_by x u w)) t.operations ≡ filter n0 t.operations = filter_agree_in (λ w. n w && not (wrote_by x u w)) n0 t.operations (λ w i. agree w open_commit) in
    ap (after_writes (o x)) (e1 ∙ ap (λ zs. zs ++ filter (wrote_by x u) t.operations) e2)
    ∙ after_writes-append (o x) (filter n0 t.operations) (filter (wrote_by x u) t.operations)
  where
    agree : (w : Operation) → is_among t.commits u ≡ false → ((writes_item x w && is_among (t.commits ++ u ∷ []) w.txn) && not (writes_item x w && eqb w.txn u)) ≡ (writes_item x w && is_among t.commits w.txn)
    agree w oc =
        ⊎_elim
        (λ wi. ⊎_elim
        (λ e. and_right (writes_item x w && is_among (t.commits ++ u ∷ []) w.txn) (not (writes_item x w && eqb w.txn u)) (not_from_true (writes_item x w && eqb w.txn u) (and_from (writes_item x w) (eqb w.txn u) wi e))
        ∙ sym (and_right (writes_item x w) (is_among t.commits w.txn) (ap (is_among t.commits) (eqb-true w.txn u e) ∙ oc)))
        (λ ne. right_true (writes_item x w && is_among (t.commits ++ u ∷ []) w.txn) (not (writes_item x w && eqb w.txn u)) (not_from_false (writes_item x w && eqb w.txn u) (and_right (writes_item x w) (eqb w.txn u) ne))
        ∙ ap (λ b. writes_item x w && b) (among_other t.commits u w.txn (λ q. eqb-false w.txn u ne (sym q))))
        (cases_Bool (eqb w.txn u)))
        (λ nwi. and_left (writes_item x w && is_among (t.commits ++ u ∷ []) w.txn) (not (writes_item x w && eqb w.txn u)) (and_left (writes_item x w) (is_among (t.commits ++ u ∷ []) w.txn) nwi)
        ∙ sym (and_left (writes_item x w) (is_among t.commits w.txn) nwi))
        (cases_Bool (writes_item x w))

-- a transaction that has ended has either committed or aborted
pub ended_agree : {s : Setting} {t : Trace} {m : ℕ → ℕ} → Reached s t m → (v : ℕ) → ended_in t v ≡ true → not (is_among t.aborts v) ≡ is_among t.commits v
ended_agree {t = t} r v e =
    ⊎_elim
    (λ c. not_from_false (is_among t.aborts v) (false_from_ne_true (is_among t.aborts v) (λ a. ends_apart r v c a)) ∙ sym c)
    (λ nc. ⊎_elim (λ c. absurd (true≢false (sym c ∙ nc))) (λ a. not_from_true (is_among t.aborts v) a ∙ sym nc) (or_cases (is_among t.commits v) (is_among t.aborts v) e))
    (cases_Bool (is_among t.commits v))

-- if each writer of an item has ended, its current value is the committed one
pub settled : {s : Setting} {t : Trace} {m : ℕ → ℕ} → Reached s t m → (o : ℕ → ℤ) (x : ℕ) →
    ((w : Operation) → In w t.operations → writes_item x w ≡ true → ended_in t w.txn ≡ true) → current_in o t x ≡ committed_in o t x
settled {t = t} r o x f =
    grind (arith, after_writes (o x), filter_agree_in, writes_item, is_among, ⊎_elim, ended_agree, and_left, cases_Bool)

-- the current value, with the writes of an update that has not ended set apart
pub current_split : {s : Setting} {t : Trace} {m : ℕ → ℕ} → Reached s t m → (o : ℕ → ℤ) (u x : ℕ) → Active t u →
    current_in o t x ≡ after_writes (current_in o (with_abort t u) x) (filter (wrote_by x u) t.operations)
current_split {t = t} r o u x a =
    let n : Operation → Bool = λ w. writes_item x w && not (is_among t.aborts w.txn) in
    let n0 : Operation → Bool = λ w. writes_item x w && not (is_among (t.aborts ++ u ∷ []) w.txn) in
    let open_abort : is_among t.aborts u ≡ false = (or_parts (is_among t.commits u) (is_among t.aborts u) a.open_ended).1 in
    let e1 : filter n t.operations ≡ filter (λ w. n w && not (wrote_by x u w)) t.operations ++ filter (wrote_by x u) t.operations =
    filter_tail n (wrote_by x u) t.operations (own_tail r u x a.open_ended (λ w. not (is_among t.aborts w.txn)))
    (λ w h. let p = and_parts (writes_item x w) (eqb w.txn u) h in
    and_from (writes_item x w) (not (is_among t.aborts w.txn)) p.0 (not_from_false (is_among t.aborts w.txn) (ap (is_among t.aborts) (eqb-true w.txn u p.1) ∙ open_abort))) in
    let e2 : filter (λ w. n w && not (wrote_by x u w)) t.operations ≡ filter n0 t.operations = filter_agree_in (λ w. n w && not (wrote_by x u w)) n0 t.operations (λ w i. agree w) in
    ap (after_writes (o x)) (e1 ∙ ap (λ zs. zs ++ filter (wrote_by x u) t.operations) e2)
    ∙ after_writes-append (o x) (filter n0 t.operations) (filter (wrote_by x u) t.operations)
  where
    agree : (w : Operation) → ((writes_item x w && not (is_among t.aborts w.txn)) && not (writes_item x w && eqb w.txn u)) ≡ (writes_item x w && not (is_among (t.aborts ++ u ∷ []) w.txn))
    agree w =
        ⊎_elim
        (λ wi. ⊎_elim
        (λ e. and_right (writes_item x w && not (is_among t.aborts w.txn)) (not (writes_item x w && eqb w.txn u)) (not_from_true (writes_item x w && eqb w.txn u) (and_from (writes_item x w) (eqb w.txn u) wi e))
        ∙ sym (and_right (writes_item x w) (not (is_among (t.aborts ++ u ∷ []) w.txn)) (not_from_true (is_among (t.aborts ++ u ∷ []) w.txn) (ap (is_among (t.aborts ++ u ∷ [])) (eqb-true w.txn u e) ∙ among_new t.aborts u))))
        (λ ne. right_true (writes_item x w && not (is_among t.aborts w.txn)) (not (writes_item x w && eqb w.txn u)) (not_from_false (writes_item x w && eqb w.txn u) (and_right (writes_item x w) (eqb w.txn u) ne))
        ∙ ap (λ b. writes_item x w && not b) (sym (among_other t.aborts u w.txn (λ q. eqb-false w.txn u ne (sym q)))))
        (cases_Bool (eqb w.txn u)))
        (λ nwi. and_left (writes_item x w && not (is_among t.aborts w.txn)) (not (writes_item x w && eqb w.txn u)) (and_left (writes_item x w) (not (is_among t.aborts w.txn)) nwi)
        ∙ sym (and_left (writes_item x w) (not (is_among (t.aborts ++ u ∷ []) w.txn)) nwi))
        (cases_Bool (writes_item x w))

-- of two elements, one is ahead
pub pairs_either : {X : Type 0} (R : X → X → Type 0) (xs : List X) → Pairs R xs → (a b : X) → In a xs → In b xs → (a ≡ b → ⊥) → R a b ⊎ R b a
pairs_either R [] p a b ia ib ne = absurd ia
pairs_either R (x ∷ xs) p a b ia ib ne =
    ⊎_elim
    (λ ea. ⊎_elim (λ eb. absurd (ne (sym ea ∙ eb))) (λ jb. inl (subst (λ z. R z b) ea (each_at (R x) xs b p.0 jb))) ib)
    (λ ja. ⊎_elim (λ eb. inr (subst (λ z. R z a) eb (each_at (R x) xs a p.0 ja))) (λ jb. pairs_either R xs p.1 a b ja jb ne) ib)
    ia

-- if an active update wrote the item, every other writer of it has ended
others_ended : {s : Setting} {t : Trace} {m : ℕ → ℕ} → Reached s t m → (u x : ℕ) → Active t u →
    (a : Operation) → In a t.operations → wrote_by x u a ≡ true → (w : Operation) → In w t.operations → writes_item x w ≡ true → (w.txn ≡ u → ⊥) → ended_in t w.txn ≡ true
others_ended {t = t} r u x ac a ia ma w iw hw ne =
    grind (arith, wrote_parts x u a ma, item_parts x w hw, ⊎_elim, true≢false, conflict_of, or_left, writers, ended_in t, pairs_either, locks r)

-- an abort leaves the current value, or puts the committed one back
pub current_after_abort : {s : Setting} {t : Trace} {m : ℕ → ℕ} → Reached s t m → (o : ℕ → ℤ) (u x : ℕ) → Active t u →
    (current_in o (with_abort t u) x ≡ committed_in o t x) ⊎ (current_in o (with_abort t u) x ≡ current_in o t x)
current_after_abort {t = t} r o u x a =
    ⊎_elim
    (λ none. inr (sym (current_split r o u x a ∙ ap (after_writes (current_in o (with_abort t u) x)) none)))
    (λ some. let f = filter-some (wrote_by x u) t.operations some in
    inl (ap (after_writes (o x))
    (filter_agree_in (λ w. writes_item x w && not (is_among (t.aborts ++ u ∷ []) w.txn)) (λ w. writes_item x w && is_among t.commits w.txn) t.operations
    (λ w i. agree w i f.0 f.1 f.2))))
    (empty_or_not (filter (wrote_by x u) t.operations))
  where
    open_commit : is_among t.commits u ≡ false
    open_commit = (or_parts (is_among t.commits u) (is_among t.aborts u) a.open_ended).0

    agree : (w : Operation) → In w t.operations → (b : Operation) → In b t.operations → wrote_by x u b ≡ true →
        (writes_item x w && not (is_among (t.aborts ++ u ∷ []) w.txn)) ≡ (writes_item x w && is_among t.commits w.txn)
    agree w i b ib mb =
        ⊎_elim
        (λ wi. ⊎_elim
        (λ e. and_right (writes_item x w) (not (is_among (t.aborts ++ u ∷ []) w.txn)) (not_from_true (is_among (t.aborts ++ u ∷ []) w.txn) (ap (is_among (t.aborts ++ u ∷ [])) e ∙ among_new t.aborts u))
        ∙ sym (and_right (writes_item x w) (is_among t.commits w.txn) (ap (is_among t.commits) e ∙ open_commit)))
        (λ ne. ap (λ b. writes_item x w && not b) (among_other t.aborts u w.txn (λ q. ne (sym q)))
        ∙ ap (λ b. writes_item x w && b) (ended_agree r w.txn (others_ended r u x a b ib mb w i wi ne)))
        (cases_eq w.txn u))
        (λ n. and_left (writes_item x w) (not (is_among (t.aborts ++ u ∷ []) w.txn)) n ∙ sym (and_left (writes_item x w) (is_among t.commits w.txn) n))
        (cases_Bool (writes_item x w))

-- a commit leaves the committed value, or makes the current one it
pub committed_after_commit : {s : Setting} {t : Trace} {m : ℕ → ℕ} → Reached s t m → (o : ℕ → ℤ) (u x : ℕ) → Active t u →
    (committed_in o (with_commit t u) x ≡ committed_in o t x) ⊎ (committed_in o (with_commit t u) x ≡ current_in o t x)
committed_after_commit {t = t} r o u x a =
    ⊎_elim
    (λ none. inl (committed_after r o u x a ∙ ap (after_writes (committed_in o t x)) none))
    (λ some. inr (committed_after r o u x a
    ∙ (after_writes-some (filter (wrote_by x u) t.operations) (committed_in o t x) (current_in o (with_abort t u) x) some ∙ sym (current_split r o u x a))))
    (empty_or_not (filter (wrote_by x u) t.operations))

pub filter_push_false : {X : Type 0} (p : X → Bool) (xs : List X) (y : X) → p y ≡ false → filter p (xs ++ y ∷ []) ≡ filter p xs
filter_push_false p xs y h = filter-append p xs (y ∷ []) ∙ (ap (λ zs. filter p xs ++ zs) (cond-false (p y) (y ∷ []) [] h) ∙ append-nil (filter p xs))

pub filter_push_true : {X : Type 0} (p : X → Bool) (xs : List X) (y : X) → p y ≡ true → filter p (xs ++ y ∷ []) ≡ filter p xs ++ y ∷ []
filter_push_true p xs y h = filter-append p xs (y ∷ []) ∙ ap (λ zs. filter p xs ++ zs) (cond-true (p y) (y ∷ []) [] h)

-- one more operation of an active transaction
pub committed_with : (o : ℕ → ℤ) (t : Trace) (w : Operation) (x : ℕ) → ended_in t w.txn ≡ false → committed_in o (with_operation t w) x ≡ committed_in o t x
committed_with o t w x h = grind (arith, after_writes (o x), filter_push_false, writes_item, is_among, and_right, or_parts)

pub current_with_other : (o : ℕ → ℤ) (t : Trace) (w : Operation) (x : ℕ) → writes_item x w ≡ false → current_in o (with_operation t w) x ≡ current_in o t x
current_with_other o t w x h = grind (arith, after_writes (o x), filter_push_false, writes_item, is_among, and_left)

pub current_with_write : (o : ℕ → ℤ) (t : Trace) (w : Operation) (x : ℕ) → ended_in t w.txn ≡ false → writes_item x w ≡ true → current_in o (with_operation t w) x ≡ w.value
current_with_write o t w x h wi =
    grind (arith, after_writes (o x), filter_push_true, writes_item, is_among, and_from, not_from_false, or_parts, after_writes-append, filter)

-- the value of x after the updates us
abbrev pub state_in : (ℕ → ℤ) → Trace → List ℕ → ℕ → ℤ
state_in o t us x = after_writes (o x) (flat_map (λ u. filter (wrote_by x u) t.operations) us)

pub flat_map_agree : {X Y : Type 0} (f g : X → List Y) (xs : List X) → ((x : X) → In x xs → f x ≡ g x) → flat_map f xs ≡ flat_map g xs
flat_map_agree f g [] h = refl
flat_map_agree f g (x ∷ xs) h = ap (λ zs. zs ++ flat_map f xs) (h x (inl refl)) ∙ ap (λ zs. g x ++ zs) (flat_map_agree f g xs (λ y i. h y (inr i)))

-- an operation of another transaction changes no state
pub state_with : (o : ℕ → ℤ) (t : Trace) (w : Operation) (us : List ℕ) (x : ℕ) → ((u : ℕ) → In u us → w.txn ≡ u → ⊥) → state_in o (with_operation t w) us x ≡ state_in o t us x
state_with o t w us x h =
    grind (arith, after_writes (o x), flat_map_agree, filter, filter_push_false, and_right, writes_item x w, eqb, ne_eqb)

pub commit_among : (t : Trace) (u : ℕ) → In u (committed_updates_in t) → is_among t.commits u ≡ true
commit_among t u i = any-from_number t.commits u (In-of_filter (update_in t) t.commits u i).0

version_with : (o : ℕ → ℤ) (t : Trace) (w : Operation) (x : ℕ) → ended_in t w.txn ≡ false → state_in o t (committed_updates_in t) x ≡ committed_in o t x →
    state_in o (with_operation t w) (committed_updates_in t) x ≡ committed_in o (with_operation t w) x
version_with o t w x h e =
    state_with o t w (committed_updates_in t) x
    (λ u i q. true≢false (sym (commit_among t u i) ∙ (sym (ap (is_among t.commits) q) ∙ (or_parts (is_among t.commits w.txn) (is_among t.aborts w.txn) h).0)))
    ∙ (e ∙ sym (committed_with o t w x h))

-- the committed updates, one after another in the order of their commits, leave the committed values
pub committed_version : {s : Setting} {t : Trace} {m : ℕ → ℕ} → Reached s t m → (o : ℕ → ℤ) (x : ℕ) → state_in o t (committed_updates_in t) x ≡ committed_in o t x
committed_version nothing o x = refl
committed_version (begin {t = t} r b keeps) o x =
    ap (λ us. state_in o t us x) (filter_agree_in (update_in (with_begins t b)) (update_in t) t.commits
    (λ u i. update_stays t b u keeps ((known r).of_ends u (or_left (is_among t.commits u) (is_among t.aborts u) (any-from_number t.commits u i)))))
    ∙ committed_version r o x
committed_version {s = s} (read_update {t = t} r v y ac up free) o x = version_with o t (read_of v y (current_in s.opening t y)) x ac.open_ended (committed_version r o x)
committed_version {s = s} (read_query {t = t} r v y n ac up free) o x = version_with o t (read_of v y (current_in s.opening t y)) x ac.open_ended (committed_version r o x)
committed_version (write {t = t} r v y w n ac up free paid) o x = version_with o t (write_of v y w) x ac.open_ended (committed_version r o x)
committed_version (commit {t = t} r u a) o x =
    let wb : ℕ → List Operation = λ u. filter (wrote_by x u) t.operations in
    let c : List ℕ = committed_updates_in t in
    ap (λ us. after_writes (o x) (flat_map wb us)) (filter-append (update_in t) t.commits (u ∷ []))
    ∙ ((cond_both (update_in t u) (u ∷ []) [] (λ zs. after_writes (o x) (flat_map wb (c ++ zs)) ≡ after_writes (committed_in o t x) (wb u))
    (λ up. ap (after_writes (o x)) (flat_map-append wb c (u ∷ []) ∙ ap (λ zs. flat_map wb c ++ zs) (append-nil (wb u)))
    ∙ (after_writes-append (o x) (flat_map wb c) (wb u) ∙ ap (λ v. after_writes v (wb u)) (committed_version r o x)))
    (λ nup. ap (λ us. after_writes (o x) (flat_map wb us)) (append-nil c)
    ∙ (committed_version r o x ∙ sym (ap (after_writes (committed_in o t x)) (filter_none_in (wrote_by x u) t.operations
    (λ w i. false_from_ne_true (wrote_by x u w) (λ h. let p = wrote_parts x u w h in true≢false (sym (sym (ap (update_in t) p.2) ∙ writers r w i p.0) ∙ nup))))))))
    ∙ sym (committed_after r o u x a))
committed_version (abort {t = t} r u a) o x = committed_version r o x
