-- Each step of a board keeps its rule.
use Rattle.std.proofs.Common.{◌≡◌, ℕ, suc, ◌+◌, ◌-◌, ◌%◌, ◌^◌, ◌<◌, ◌≤◌, cond, eqb, leb, ltb, List, [], ◌∷◌, length, get_or, set, sym, refl, ap, ◌∙◌, subst, ⊎_elim, arith, sum_by, All, length-set, get_or-set_same, get_or-set_other, lt-ltb, le-ltb, eq-eqb, ne_eqb, false-eqb, true, false, length-append}
use mathlib.Core.Option.{none, some}
use lib.ListN.{get_elem?}
use Rattle.std.proofs.lemmas.Bool.{cases_lt}
use Rattle.std.proofs.lemmas.List.Sums.{sum_by-append, sum_by_push, sum_by-le-sum_by}
use Rattle.atomic_table.specs.Table.{Me, step, keeps, stepped, Allows, Splits, Joins}
use Rattle.atomic_table.proofs.Lists.{at_set, at_snoc, set_else}
use Rattle.esr_board.specs.Claims.{times, count_past, below, passes_of, IsFair, IsKept, with_claim, Claimed, with_one_less, one_pass, joined, spent, Hand, BoardSize}
use Rattle.esr_board.proofs.Weights.{sum_set, part_le, ones, length-below, past_yes, past_no, count_past_push, count_past-below, times-below-none, times_at}

-- the word never passes the jobs by more than the seats
pub word_le : (jobs seats word : ℕ) (hands : List Hand) → IsFair jobs seats word hands → word ≤ jobs + seats
word_le jobs seats word hands r = grind (arith, cond, leb, count_past-below jobs word, sum_by-le-sum_by)

-- a list of numbers drawn is no longer than the word
pub claimed_le : (jobs seats word : ℕ) (hands : List Hand) (id : ℕ) (v : Hand) → IsFair jobs seats word hands → get_elem? hands id ≡ some v → length v.claimed ≤ word
claimed_le jobs seats word hands id v r at = grind (arith, part_le, sum_by, ones (below word), ones v.claimed, length-below word)

-- each number drawn is below the word
pub claimed_below : (jobs seats word : ℕ) (hands : List Hand) (id : ℕ) (v : Hand) → IsFair jobs seats word hands → get_elem? hands id ≡ some v → All (λ x. x < word) v.claimed
claimed_below jobs seats word hands id v r at k d h =
    let x : ℕ = get_or v.claimed k d in
    ⊎_elim (λ (l : x < word). l)
    (λ (g : word ≤ x).
    let part = part_le (λ (h : Hand). times x h.claimed) hands id v at in
    let all = r.0 (λ y. cond {A = ℕ} (eqb y x) 1 0) in
    let none_there = times-below-none x word g in
    let one = times_at v.claimed k d h in absurd (omega arith))
    (cases_lt x word)

pub passes-claim : (v : Hand) (n : ℕ) → 0 < v.passes → passes_of v.jobs (with_claim v n) ≡ passes_of v.jobs v
passes-claim v n some_pass = let p = count_past_push v.jobs v.claimed n in
    ⊎_elim (λ (l : n < v.jobs). let z = past_no v.jobs n l in let c : cond {A = ℕ} (ltb n v.jobs) v.passes (v.passes - 1) ≡ v.passes = ap (λ b. cond b v.passes (v.passes - 1)) (lt-ltb n v.jobs l) in omega arith)
    (λ (g : v.jobs ≤ n). let z = past_yes v.jobs n g in let c : cond {A = ℕ} (ltb n v.jobs) v.passes (v.passes - 1) ≡ v.passes - 1 = ap (λ b. cond b v.passes (v.passes - 1)) (le-ltb n v.jobs g) in omega arith)
    (cases_lt n v.jobs)

fair-claim : (v : Hand) (seats word : ℕ) (hands : List Hand) (id : ℕ) → 0 < v.passes → IsFair v.jobs seats word hands → get_elem? hands id ≡ some v → IsFair v.jobs seats (suc word) (set hands id (with_claim v word))
fair-claim v seats word hands id some_pass r at =
    grind (arith, passes-claim v word some_pass, sum_set, sum_by, sum_by_push, ⊎_elim, at_set)

has_pass : (p : ℕ) → false ≡ eqb p 0 → 0 < p
has_pass p e = let n = false-eqb p 0 e in omega arith

-- one number is claimed
pub claims : (size : BoardSize) (slots id : ℕ) (me : Me (Unit {0}) Hand) → me.0.jobs ≡ size.jobs → size.jobs ≤ 65535 → size.seats ≤ 64 → 0 < me.0.passes
    → Allows (IsKept size) slots id me 0 (λ n. (n + 1) % 2 ^ 64) (Claimed (step slots 0 1 0 none) me)
claims size slots id me its bounded_jobs bounded_seats some_pass s r _ at fits =
    let word : ℕ = get_or s.words 0 0 in let v : Hand = me.0 in let w : Hand = with_claim v word in
    let fair : IsFair v.jobs size.seats word s.views = subst (λ (j : ℕ). IsFair j size.seats word s.views) (sym its) r.3 in
    let le = word_le v.jobs size.seats word s.views fair in
    let next : suc word ≡ (word + 1) % 18446744073709551616 = omega arith in
    let wide : length s.words ≡ 3 = r.0 in
    let now : IsKept size (stepped s 0 (suc word) id me.1 w keeps) = (
      length-set s.words 0 (suc word) ∙ wide,
      get_or-set_other s.words 0 1 (suc word) 0 (omega arith) ∙ r.1,
      get_or-set_other s.words 0 2 (suc word) 0 (omega arith) ∙ r.2,
      subst (λ (n : ℕ). IsFair size.jobs size.seats n (set s.views id w)) (sym (get_or-set_same s.words 0 (suc word) 0 (omega arith)))
          (subst (λ (j : ℕ). IsFair j size.seats (suc word) (set s.views id w)) its (fair-claim v size.seats word s.views id some_pass fair at)),
    ) in (
      w,
      keeps,
      tt,
      subst (λ (n : ℕ). IsKept size (stepped s 0 n id me.1 w keeps)) next now,
      (refl, claimed_below v.jobs size.seats word s.views id v fair at, claimed_le v.jobs size.seats word s.views id v fair at, omega arith),
    )

-- one pass goes to a new seat
pub splits : (size : BoardSize) (id : ℕ) (v : Hand) → v.jobs ≡ size.jobs → 0 < v.passes → v.claimed ≡ [] → Splits (IsKept size) id v (with_one_less v) (one_pass v)
splits size id v its some_pass nothing s r at = grind (arith, sum_set, sum_by, sum_by_push, set, ⊎_elim, at_set, at_snoc)

-- a seat takes over the hand of another
pub joins : (size : BoardSize) (id : ℕ) (v : Hand) (other : ℕ) (w : Hand) → Joins (IsKept size) id v other w (joined v w) spent
joins size id v other w s r at apart there =
    grind (arith, set, set_else, sum_by, sum_by-append, sum_set, cond, leb, ⊎_elim, at_set)

-- the state of a seat after its claim
abbrev pub M : Type 0
M = Me (Unit {0}) Hand

pub counted-claim : (m m' : M) (n k : ℕ) → m' ≡ (with_claim m.0 n, m.1) → k ≡ length m.0.claimed → k + 1 ≡ length m'.0.claimed
counted-claim m m' n k e is = subst (λ (z : M). k + 1 ≡ length z.0.claimed) (sym e) (let a = length-append m.0.claimed (n ∷ []) in omega arith)

pub one_pass-claim : (m m' : M) (n : ℕ) → m' ≡ (with_claim m.0 n, m.1) → false ≡ eqb m.0.passes 0 → passes_of m.0.jobs m.0 ≡ 1 → passes_of m'.0.jobs m'.0 ≡ 1
one_pass-claim m m' n e has one = subst (λ (z : M). passes_of z.0.jobs z.0 ≡ 1) (sym e) (let p = passes-claim m.0 n (has_pass m.0.passes has) in p ∙ one)

pub ended-claim : (m m' : M) (n : ℕ) → m' ≡ (with_claim m.0 n, m.1) → false ≡ eqb m.0.passes 0 → passes_of m.0.jobs m.0 ≡ 1 → (m.0.jobs ≤ n → true ≡ eqb m'.0.passes 0) × (n < m.0.jobs → false ≡ eqb m'.0.passes 0)
ended-claim m m' n e has one =
    let p = has_pass m.0.passes has in
    subst (λ (z : M). (m.0.jobs ≤ n → true ≡ eqb z.0.passes 0) × (n < m.0.jobs → false ≡ eqb z.0.passes 0)) (sym e) (
      (λ g. let c : cond {A = ℕ} (ltb n m.0.jobs) m.0.passes (m.0.passes - 1) ≡ m.0.passes - 1 = ap (λ b. cond {A = ℕ} b m.0.passes (m.0.passes - 1)) (le-ltb n m.0.jobs g) in
          sym (eq-eqb _ 0 (omega arith))),
      (λ l. let c : cond {A = ℕ} (ltb n m.0.jobs) m.0.passes (m.0.passes - 1) ≡ m.0.passes = ap (λ b. cond {A = ℕ} b m.0.passes (m.0.passes - 1)) (lt-ltb n m.0.jobs l) in
          sym (ne_eqb _ 0 (λ z. omega arith))),
    )

-- a seat that has its pass drew nothing past the jobs
pub not_ended : (jobs : ℕ) (v : Hand) → v.jobs ≡ jobs → false ≡ eqb v.passes 0 → passes_of v.jobs v ≡ 1 → 0 < count_past jobs v.claimed → ⊥
not_ended jobs v its has one past = let p = has_pass v.passes has in let same : count_past v.jobs v.claimed ≡ count_past jobs v.claimed = ap (λ (j : ℕ). count_past j v.claimed) its in omega arith
