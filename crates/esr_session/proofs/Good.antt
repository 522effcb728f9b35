-- Lists of receipts that are all good match the history.
use Rattle.std.proofs.Common.{◌≡◌, inl, inr, ℕ, zero, suc, ◌+◌, ◌<◌, ◌≤◌, Bool, true, false, ltb, List, [], ◌∷◌, ◌++◌, All, length, get_or, set, take, drop, drop-cons, refl, ap, sym, subst, ◌∙◌, append_assoc, arith, append-nil, get_or-set_other, take-append-drop}
use Rattle.std.proofs.lemmas.List.Elements.{All-append}
use Rattle.std.proofs.lemmas.Option.{slice_get_within}
use Rattle.std.proofs.Math.ListN.{length-set}
use Rattle.std.proofs.lemmas.Grind.{get_or-set_at, flat_map-append}
use Rattle.std.proofs.lemmas.Bool.Decides.{nat_tests}
use Rattle.esr_history.specs.declared.event.Entry.{Entry}
use Rattle.esr_session.specs.Receipts.{Names, RisesFrom, Matches, IsFirstForeign, IsValidReceipt, ValidFrom, AllValid, next_place, receipts_in, count_in, count_at, entry_of, Receipt}
use Rattle.esr_session.specs.Marks.{AreMarked}
use Rattle.esr_session.proofs.Counts.{eq_or_not, one_same, one_other, count_at-append, count_at-cons, length_receipts, upto-count, upto-ones, upto-each}

pub all_cons : {X : Type 0} (P : X → Type 0) (x : X) (xs : List X) → P x → All P xs → All P (x ∷ xs)
all_cons P x xs here rest zero d lt = here
all_cons P x xs here rest (suc k) d lt = rest k d (omega arith)

low_next : (es : List Entry) (earlier : List Receipt) (low : ℕ) (rs : List Receipt) → ValidFrom es earlier low rs → low ≤ next_place low rs
low_next es earlier low [] h = omega arith
low_next es earlier low (r ∷ rs) h = omega (arith, h.0.1, low_next es earlier (r.at + 1) rs h.1)

none_below : (es : List Entry) (earlier : List Receipt) (low : ℕ) (rs : List Receipt) → ValidFrom es earlier low rs → (k : ℕ) → k < low → count_at k rs ≡ 0
none_below es earlier low [] h k lt = refl
none_below es earlier low (r ∷ rs) h k lt =
    omega (arith, count_at-cons k r rs, one_other r.at k (λ e. omega (arith, e, h.0.1)), none_below es earlier (r.at + 1) rs h.1 k (omega (arith, h.0.1)))

pub none_after : (es : List Entry) (earlier : List Receipt) (low : ℕ) (rs : List Receipt) → ValidFrom es earlier low rs → (k : ℕ) → next_place low rs ≤ k → count_at k rs ≡ 0
none_after es earlier low [] h k le = refl
none_after es earlier low (r ∷ rs) h k le =
    grind (arith, low_next es earlier (r.at + 1) rs h.1, count_at-cons k r rs, one_other, none_after es earlier (r.at + 1) rs h.1 k le)

pub good_from-snoc : (es : List Entry) (earlier : List Receipt) (low : ℕ) (rs : List Receipt) (r : Receipt) → ValidFrom es earlier low rs → IsValidReceipt es earlier (next_place low rs) r → ValidFrom es earlier low (rs ++ r ∷ [])
good_from-snoc es earlier low [] r h good = (good, tt)
good_from-snoc es earlier low (s ∷ rs) r h good = (h.0, good_from-snoc es earlier (s.at + 1) rs r h.1 good)

pub next_place-snoc : (low : ℕ) (rs : List Receipt) (r : Receipt) → next_place low (rs ++ r ∷ []) ≡ r.at + 1
next_place-snoc low [] r = refl
next_place-snoc low (s ∷ rs) r = next_place-snoc (s.at + 1) rs r

positive : (n : ℕ) → 0 < n → ltb 0 n ≡ true
positive n lt = grind (arith, nat_tests)

pub marked-snoc : (rs : List Receipt) (marks : List Bool) (r : Receipt) → AreMarked rs marks → r.at < length marks → AreMarked (rs ++ r ∷ []) (set marks r.at true)
marked-snoc rs marks r h within k lt =
    elim (eq_or_not k r.at) [
      | inl e ↦ get_or-set_at marks r.at k true false e within ∙ sym (positive _ (omega (arith, count_at-append k rs (r ∷ []), one_same r.at k (sym e))))
      | inr ne ↦ get_or-set_other marks r.at k true false ne ∙ (h k (omega (arith, lt, length-set marks r.at true)) ∙ ap (ltb 0) (omega (arith, count_at-append k rs (r ∷ []), one_other r.at k (λ e. ne (sym e)))))
    ]

pub all_good-snoc : (es : List Entry) (earlier : List Receipt) (lists : List (List Receipt)) (rs : List Receipt) → AllValid es earlier lists → ValidFrom es (earlier ++ receipts_in lists) 0 rs → AllValid es earlier (lists ++ rs ∷ [])
all_good-snoc es earlier [] rs h good = (subst (λ (e : List Receipt). ValidFrom es e 0 rs) (append-nil earlier) good, tt)
all_good-snoc es earlier (xs ∷ lists) rs h good =
    (h.0, all_good-snoc es (earlier ++ xs) lists rs h.1 (subst (λ (e : List Receipt). ValidFrom es e 0 rs) (sym (append_assoc earlier xs (receipts_in lists))) good))

good_named : (es : List Entry) (earlier : List Receipt) (low : ℕ) (rs : List Receipt) → ValidFrom es earlier low rs → All (Names es) rs
good_named es earlier low [] h = λ k d lt. absurd (omega arith)
good_named es earlier low (r ∷ rs) h = all_cons (Names es) r rs h.0.0 (good_named es earlier (r.at + 1) rs h.1)

all_named : (es : List Entry) (earlier : List Receipt) (lists : List (List Receipt)) → AllValid es earlier lists → All (Names es) (receipts_in lists)
all_named es earlier [] h = λ k d lt. absurd (omega arith)
all_named es earlier (rs ∷ lists) h =
    All-append (Names es) rs (receipts_in lists) (good_named es earlier 0 rs h.0) (all_named es (earlier ++ rs) lists h.1)

good_rises : (es : List Entry) (earlier : List Receipt) (low : ℕ) (rs : List Receipt) → ValidFrom es earlier low rs → RisesFrom low rs
good_rises es earlier low [] h = tt
good_rises es earlier low (r ∷ rs) h = (h.0.1, good_rises es earlier (r.at + 1) rs h.1)

all_rise : (es : List Entry) (earlier : List Receipt) (lists : List (List Receipt)) → AllValid es earlier lists → All (RisesFrom 0) lists
all_rise es earlier [] h = λ k d lt. absurd (omega arith)
all_rise es earlier (rs ∷ lists) h =
    all_cons (RisesFrom 0) rs lists (good_rises es earlier 0 rs h.0) (all_rise es (earlier ++ rs) lists h.1)

-- a list names a place at most once, and not one that was named before
abbrev IsNew : List Receipt → List Receipt → ℕ → Type 0
IsNew earlier rs k = (count_at k rs ≤ 1) × (0 < count_at k rs → count_at k earlier ≡ 0)

good_new : (es : List Entry) (earlier : List Receipt) (low : ℕ) (rs : List Receipt) → ValidFrom es earlier low rs → (k : ℕ) → IsNew earlier rs k
good_new es earlier low [] h k = (omega arith, λ lt. absurd (omega (arith, lt)))
good_new es earlier low (r ∷ rs) h k =
    let more = count_at-cons k r rs in
    let rest = good_new es earlier (r.at + 1) rs h.1 k in
    elim (eq_or_not r.at k) [
      | inl e ↦ (
        omega (arith, more, one_same r.at k e, none_below es earlier (r.at + 1) rs h.1 k (omega (arith, e))),
        λ _. subst (λ (n : ℕ). count_at n earlier ≡ 0) e h.0.2,
      )
      | inr ne ↦ (
        omega (arith, more, one_other r.at k ne, rest.0),
        λ lt. rest.1 (omega (arith, lt, more, one_other r.at k ne)),
      )
    ]

at_most_one : (a b : ℕ) → a ≤ 1 → b ≤ 1 → (0 < b → a ≡ 0) → a + b ≤ 1
at_most_one a zero p q h = omega arith
at_most_one a (suc b) p q h = omega (arith, h (omega arith))

all_once : (es : List Entry) (earlier : List Receipt) (lists : List (List Receipt)) → AllValid es earlier lists → ((k : ℕ) → count_at k earlier ≤ 1) → (k : ℕ) → count_at k (earlier ++ receipts_in lists) ≤ 1
all_once es earlier [] h once k = omega (arith, once k, count_at-append k earlier [])
all_once es earlier (rs ∷ lists) h once k =
    let more : (n : ℕ) → count_at n (earlier ++ rs) ≤ 1 = λ n.
    let new = good_new es earlier 0 rs h.0 n in
    omega (arith, count_at-append n earlier rs, at_most_one (count_at n earlier) (count_at n rs) (once n) new.0 new.1) in
    subst (λ (l : List Receipt). count_at k l ≤ 1) (append_assoc earlier rs (receipts_in lists)) (all_once es (earlier ++ rs) lists h.1 more k)

pub named_below : (es : List Entry) (r : Receipt) → Names es r → r.at < length es
named_below es r h = slice_get_within es r.at (entry_of r) h

zero_of : (n : ℕ) → ltb 0 n ≡ false → n ≡ 0
zero_of n h = grind (arith, nat_tests)

-- the place of a good receipt is not marked
pub good_unmarked : (es : List Entry) (earlier rs : List Receipt) (marks : List Bool) (r : Receipt) → AreMarked (earlier ++ rs) marks → length marks ≡ length es → ValidFrom es earlier 0 rs → IsValidReceipt es earlier (next_place 0 rs) r → get_or marks r.at false ≡ false
good_unmarked es earlier rs marks r marked len before good =
    grind (arith, count_at-append r.at earlier rs, none_after es earlier 0 rs before r.at good.1, named_below es r good.0, ltb 0)

-- a receipt whose index is not marked is good
pub unmarked_good : (es : List Entry) (earlier rs : List Receipt) (marks : List Bool) (r : Receipt) → AreMarked (earlier ++ rs) marks → length marks ≡ length es → Names es r → next_place 0 rs ≤ r.at → get_or marks r.at false ≡ false → IsValidReceipt es earlier (next_place 0 rs) r
unmarked_good es earlier rs marks r marked len names le free =
    grind (arith, zero_of, named_below es r names, count_at-append r.at earlier rs)

pub cut_at : {X : Type 0} (xs : List X) (i : ℕ) (d : X) → i < length xs → xs ≡ take i xs ++ get_or xs i d ∷ drop (suc i) xs
cut_at xs i d lt = sym (take-append-drop i xs) ∙ ap (λ t. take i xs ++ t) (drop-cons xs i d lt)

pub receipts_in-snoc : (lists : List (List Receipt)) (rs : List Receipt) → receipts_in (lists ++ rs ∷ []) ≡ receipts_in lists ++ rs
receipts_in-snoc lists rs = grind (arith, flat_map-append, append-nil rs)

-- good receipts, as many as there are entries, match
pub good_matches : (es : List Entry) (lists : List (List Receipt)) → AllValid es [] lists → length es ≤ count_in lists → Matches es lists
good_matches es lists h enough =
    let rs = receipts_in lists in
    let named = all_named es [] lists h in
    let below : All (λ (r : Receipt). r.at < length es) rs = λ k d lt. named_below es (get_or rs k d) (named k d lt) in
    let once : (k : ℕ) → count_at k rs ≤ 1 = all_once es [] lists h (λ k. omega arith) in
    let all = upto-count rs (length es) below in
    record {
      named = named;
      once = upto-each (λ k. count_at k rs) (length es) once (omega (arith, all, length_receipts lists, enough));
      rising = all_rise es [] lists h;
    }

-- receipts that match are as many as the entries
pub matches_count : (es : List Entry) (lists : List (List Receipt)) → Matches es lists → length es ≡ count_in lists
matches_count es lists m =
    let rs = receipts_in lists in
    let below : All (λ (r : Receipt). r.at < length es) rs = λ k d lt. named_below es (get_or rs k d) (m.named k d lt) in
    let ones = upto-ones (λ k. count_at k rs) (length es) m.once in
    omega (arith, upto-count rs (length es) below, ones, length_receipts lists)

all_left : {X : Type 0} (P : X → Type 0) (xs ys : List X) → All P (xs ++ ys) → All P xs
all_left P [] ys h = λ k d lt. absurd (omega arith)
all_left P (x ∷ xs) ys h =
    all_cons P x xs (h 0 x (omega arith)) (all_left P xs ys (λ k d lt. h (suc k) d (omega arith)))

all_right : {X : Type 0} (P : X → Type 0) (xs ys : List X) → All P (xs ++ ys) → All P ys
all_right P [] ys h = h
all_right P (x ∷ xs) ys h = all_right P xs ys (λ k d lt. h (suc k) d (omega arith))

all_mid : {X : Type 0} (P : X → Type 0) (xs : List X) (x : X) (ys : List X) → All P (xs ++ x ∷ ys) → P x
all_mid P xs x ys h = all_right P xs (x ∷ ys) h 0 x (omega arith)

all_of_list : (P : Receipt → Type 0) (done : List (List Receipt)) (list : List Receipt) (later : List (List Receipt)) → All P (receipts_in (done ++ list ∷ later)) → All P list
all_of_list P [] list later h = all_left P list (receipts_in later) h
all_of_list P (d ∷ done) list later h =
    all_of_list P done list later (all_right P d (receipts_in (done ++ list ∷ later)) h)

rises_mid : (low : ℕ) (good : List Receipt) (r : Receipt) (rest : List Receipt) → RisesFrom low (good ++ r ∷ rest) → next_place low good ≤ r.at
rises_mid low [] r rest h = h.0
rises_mid low (s ∷ good) r rest h = rises_mid (s.at + 1) good r rest h.1

-- each receipt of lists that match is good
matched_good : (es : List Entry) (done : List (List Receipt)) (good : List Receipt) (r : Receipt) (rest : List Receipt) (later : List (List Receipt))
    → Matches es (done ++ (good ++ r ∷ rest) ∷ later) → IsValidReceipt es (receipts_in done) (next_place 0 good) r
matched_good es done good r rest later m =
    let list = good ++ r ∷ rest in
    let names = all_mid (Names es) good r rest (all_of_list (Names es) done list later m.named) in
    let low = rises_mid 0 good r rest (all_mid (RisesFrom 0) done list later m.rising) in
    let one_here = m.once r.at (named_below es r names) in
    let all = ap (count_at r.at) (flat_map-append (λ (l : List Receipt). l) done (list ∷ later)) in
    let a = count_at-append r.at (receipts_in done) (list ++ receipts_in later) in
    let b = count_at-append r.at list (receipts_in later) in
    let d = count_at-append r.at good (r ∷ rest) in
    let e = count_at-cons r.at r rest in
    (names, low, omega (arith, one_here, all, a, b, d, e, one_same r.at r.at refl))

-- lists with a foreign receipt do not match
pub foreign_unmatched : (es : List Entry) (lists : List (List Receipt)) (r : Receipt) → IsFirstForeign es lists r → ¬ Matches es lists
foreign_unmatched es lists r f m =
    f.foreign.bad (matched_good es f.done f.foreign.good r f.foreign.rest f.later (subst (λ (l : List (List Receipt)). Matches es l) (f.parts ∙ ap (λ l. f.done ++ l ∷ f.later) f.foreign.parts) m))
