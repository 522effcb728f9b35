-- If the seats have each number once, there is a result for each job.
use Rattle.std.proofs.Common.{◌≡◌, ℕ, zero, suc, ◌+◌, ◌<◌, ◌≤◌, ◌⊎◌, cond, eqb, leb, ltb, List, [], ◌∷◌, ◌++◌, map, length, sym, refl, ap, ◌∙◌, subst, inl, inr, ⊎_elim, arith, sum_by, filter, All, Option, lt-ltb, le-ltb, eq-eqb}
use Rattle.std.proofs.lemmas.Bool.{cases_lt}
use Rattle.std.proofs.lemmas.List.Sums.{sum_by-cons, sum_by_push}
use Rattle.std.proofs.lemmas.List.Elements.{All-append}
use borrow.Author.Tests.{lt-leb}
use Rattle.esr_board.specs.Claims.{times, count_past, HasClaimed, EachOnceBelow}
use Rattle.esr_board.specs.Boards.{claimed, all_claimed, BoardSeat}
use Rattle.esr_board.specs.Shares.{IsFilled}
use Rattle.esr_board.proofs.Closes.{sum_flat}

module _ {X : Type 0} where
  pub all_pushed : (P : X → Type 0) (old new : List X) (x : X) → new ≡ old ++ x ∷ [] → All P old → P x → All P new
  all_pushed P old new x e a p = subst (All P) (sym e) (All-append P old (x ∷ []) a one)
    where
      one : All P (x ∷ [])
      one zero d l = p
      one (suc k) d l = absurd (omega arith)

times_cons : (n x : ℕ) (xs : List ℕ) → times n (x ∷ xs) ≡ cond {A = ℕ} (eqb x n) 1 0 + times n xs
times_cons n x xs = sum_by-cons (λ y. cond {A = ℕ} (eqb y n) 1 0) x xs

-- a filter by the jobs keeps each job
times_kept : (jobs k : ℕ) (xs : List ℕ) → k < jobs → times k xs ≤ times k (filter (λ n. ltb n jobs) xs)
times_kept jobs k [] l = omega arith
times_kept jobs k (x ∷ xs) l = let r = times_kept jobs k xs l in let c = times_cons k x xs in
    ⊎_elim
    (λ (below : x < jobs).
    let e : filter (λ n. ltb n jobs) (x ∷ xs) ≡ x ∷ filter (λ n. ltb n jobs) xs = ap (λ t. cond {A = List ℕ} t (x ∷ filter (λ n. ltb n jobs) xs) (filter (λ n. ltb n jobs) xs)) (lt-ltb x jobs below) in
    let c2 = times_cons k x (filter (λ n. ltb n jobs) xs) in let e2 : times k (filter (λ n. ltb n jobs) (x ∷ xs)) ≡ times k (x ∷ filter (λ n. ltb n jobs) xs) = ap (times k) e in omega arith)
    (λ (past : jobs ≤ x).
    let e : filter (λ n. ltb n jobs) (x ∷ xs) ≡ filter (λ n. ltb n jobs) xs = ap (λ t. cond {A = List ℕ} t (x ∷ filter (λ n. ltb n jobs) xs) (filter (λ n. ltb n jobs) xs)) (le-ltb x jobs past) in
    let e2 : times k (filter (λ n. ltb n jobs) (x ∷ xs)) ≡ times k (filter (λ n. ltb n jobs) xs) = ap (times k) e in
    let ne : ¬ (x ≡ k) = λ z. omega arith in
    let z : cond {A = ℕ} (eqb x k) 1 0 ≡ 0 = ap (λ b. cond {A = ℕ} b 1 0) (Rattle.std.proofs.Common.ne_eqb x k ne) in omega arith)
    (cases_lt x jobs)

-- one seat more
pub seat_more : (jobs k : ℕ) (old new : List BoardSeat) (s : BoardSeat) (js : List ℕ) → new ≡ old ++ s ∷ [] → HasClaimed jobs [] (claimed s) js → k < jobs → 0 < times k (all_claimed new) → (0 < times k (all_claimed old)) ⊎ (0 < times k js)
seat_more jobs k old new s js e d l h =
    let weight : ℕ → ℕ = λ y. cond {A = ℕ} (eqb y k) 1 0 in
    let p = sum_by_push (λ (t : BoardSeat). times k (claimed t)) old s in
    let flat_old = sum_flat weight claimed old in
    let flat_new = sum_flat weight claimed new in
    let q : sum_by (λ (t : BoardSeat). times k (claimed t)) new ≡ sum_by (λ (t : BoardSeat). times k (claimed t)) (old ++ s ∷ []) = ap (sum_by (λ (t : BoardSeat). times k (claimed t))) e in
    let same : times k (claimed s) ≡ times k d.0 = ap (times k) d.1 in
    let kept = times_kept jobs k d.0 l in
    let is : times k (filter (λ n. ltb n jobs) d.0) ≡ times k js = ap (times k) d.2 in
    ⊎_elim (λ (some_old : 0 < times k (all_claimed old)). inl some_old) (λ (none_old : times k (all_claimed old) ≤ 0). inr (omega arith)) (cases_lt 0 (times k (all_claimed old)))

-- a number past the jobs occurs in the list
past_there : (jobs : ℕ) (xs : List ℕ) → 0 < count_past jobs xs → (m : ℕ) × (jobs ≤ m) × (0 < times m xs)
past_there jobs [] h = absurd (omega arith)
past_there jobs (x ∷ xs) h = let c = sum_by-cons (λ y. cond {A = ℕ} (leb jobs y) 1 0) x xs in
    ⊎_elim
    (λ (below : x < jobs). let z : cond {A = ℕ} (leb jobs x) 1 0 ≡ 0 = ap (λ b. cond {A = ℕ} b 1 0) (lt-leb jobs x below) in
    let r = past_there jobs xs (omega arith) in let t = times_cons r.0 x xs in (r.0, r.1, omega arith))
    (λ (past : jobs ≤ x). let t = times_cons x x xs in let one : cond {A = ℕ} (eqb x x) 1 0 ≡ 1 = ap (λ b. cond {A = ℕ} b 1 0) (eq-eqb x x refl) in (x, past, omega arith))
    (cases_lt x jobs)

pub all_filled : {T : Type 0} (jobs : ℕ) (seats : List BoardSeat) (slots : List (Option T)) → 0 < length seats → All (λ s. 0 < count_past jobs (claimed s)) seats → EachOnceBelow (length (all_claimed seats)) (all_claimed seats)
    → ((k : ℕ) → k < jobs → 0 < times k (all_claimed seats) → IsFilled slots k) → (k : ℕ) → k < jobs → IsFilled slots k
all_filled jobs [] slots some_seat past once filled k l = absurd (omega arith)
all_filled jobs (s ∷ ss) slots some_seat past once filled k l =
    let seats : List BoardSeat = s ∷ ss in let word : ℕ = length (all_claimed seats) in
    let weight : ℕ → ℕ = λ y. cond {A = ℕ} (leb jobs y) 1 0 in
    let flat = sum_flat weight claimed seats in let c = sum_by-cons (λ (t : BoardSeat). count_past jobs (claimed t)) s ss in
    let first = past 0 s (omega arith) in
    let m = past_there jobs (all_claimed seats) (omega arith) in
    let m_once = once m.0 in let k_once = once k in
    let reached : m.0 < word = ⊎_elim (λ (h : m.0 < word). h) (λ (h : word ≤ m.0). let z : cond {A = ℕ} (ltb m.0 word) 1 0 ≡ 0 = ap (λ b. cond {A = ℕ} b 1 0) (le-ltb m.0 word h) in absurd (let q = m.2 in omega arith)) (cases_lt m.0 word) in
    let low : k < word = (let q = m.1 in omega arith) in
    let one : cond {A = ℕ} (ltb k word) 1 0 ≡ 1 = ap (λ b. cond {A = ℕ} b 1 0) (lt-ltb k word low) in
    filled k l (omega arith)
