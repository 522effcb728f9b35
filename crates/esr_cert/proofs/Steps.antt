-- One step of each loop over a list.
use Rattle.std.proofs.Common.{◌≡◌, ◌≢◌, ℕ, zero, suc, ◌+◌, ◌≤◌, ◌<◌, List, [], ◌∷◌, Bool, true, false, cond, ◌&&◌, ◌||◌, nat_lt, nat_le, refl, sym, ap, ◌∙◌, sum_by, arith, length, get_or, drop, take, map}
use Rattle.std.proofs.lemmas.Bool.Decides.{nat_tests}
use Rattle.std.proofs.lemmas.List.{drop_more, length-map, get_or-map}
use Rattle.std.specs.List.{list_all, list_any}
use Rattle.std.proofs.lemmas.List.Sums.{sum_by_more}
use Rattle.std.proofs.lemmas.Bool.{or_left, or_right, or_from}
use Rattle.esr_cert.specs.Capacities.{is_row_within, are_rows_within}
use Rattle.esr_cert.specs.Problem.{Chain, is_strictly_ascending, version, pair_lt, are_pairs_ascending, are_linked}

pub ascending_yes : (xs : List ℕ) (i j : ℕ) → j ≡ i + 1 → j < length xs → get_or xs i 0 < get_or xs j 0 → is_strictly_ascending (drop i xs) ≡ is_strictly_ascending (drop j xs)
ascending_yes xs i j e h l =
    let t : nat_lt (get_or xs i 0) (get_or xs j 0) ≡ true = grind (arith, nat_tests) in
    let a : drop i xs ≡ get_or xs i 0 ∷ drop j xs = rw e (drop_more xs i 0 (omega arith)) in
    let b : drop j xs ≡ get_or xs j 0 ∷ drop (j + 1) xs = drop_more xs j 0 h in
    rw (a, b, t) refl

pub ascending_no : (xs : List ℕ) (i j : ℕ) → j ≡ i + 1 → j < length xs → get_or xs j 0 ≤ get_or xs i 0 → is_strictly_ascending (drop i xs) ≡ false
ascending_no xs i j e h l =
    let t : nat_lt (get_or xs i 0) (get_or xs j 0) ≡ false = grind (arith, nat_tests) in
    let a : drop i xs ≡ get_or xs i 0 ∷ drop j xs = rw e (drop_more xs i 0 (omega arith)) in
    let b : drop j xs ≡ get_or xs j 0 ∷ drop (j + 1) xs = drop_more xs j 0 h in
    rw (a, b, t) refl

pub ascending_end : (xs : List ℕ) (i : ℕ) → length xs ≤ i + 1 → is_strictly_ascending (drop i xs) ≡ true
ascending_end [] zero h = refl
ascending_end [] (suc i) h = refl
ascending_end (x ∷ []) zero h = refl
ascending_end (x ∷ y ∷ xs) zero h = absurd (omega arith)
ascending_end (x ∷ xs) (suc i) h = ascending_end xs i (omega arith)

pub get_or_map_read : {X Y : Type 0} (f : X → Y) (xs : List X) (i : ℕ) (x : X) → i < length xs → x ≡ get_or xs i x → get_or (map f xs) i (f x) ≡ f x
get_or_map_read f xs i x h e = get_or-map f xs i x (f x) h ∙ ap f (sym e)

-- the element that a loop over a mapped list has reached
pub drop_map_more : {X Y : Type 0} (f : X → Y) (xs : List X) (i : ℕ) (x : X) → i < length xs → x ≡ get_or xs i x → drop i (map f xs) ≡ f x ∷ drop (i + 1) (map f xs)
drop_map_more f xs i x h e =
    let l : i < length (map f xs) = rw length-map h in
    drop_more (map f xs) i (f x) l ∙ ap (λ y. y ∷ drop (i + 1) (map f xs)) (get_or-map f xs i x (f x) h ∙ ap f (sym e))

-- a loop that tests each element of a mapped list
pub list_all_map_yes : {X Y : Type 0} (p : Y → Bool) (f : X → Y) (xs : List X) (i : ℕ) (x : X) → i < length xs → x ≡ get_or xs i x → p (f x) ≡ true → list_all p (drop i (map f xs)) ≡ list_all p (drop (i + 1) (map f xs))
list_all_map_yes p f xs i x h e t = ap (list_all p) (drop_map_more f xs i x h e) ∙ ap (λ b. b && list_all p (drop (i + 1) (map f xs))) t

pub list_all_map_no : {X Y : Type 0} (p : Y → Bool) (f : X → Y) (xs : List X) (i : ℕ) (x : X) → i < length xs → x ≡ get_or xs i x → p (f x) ≡ false → list_all p (drop i (map f xs)) ≡ false
list_all_map_no p f xs i x h e t = ap (list_all p) (drop_map_more f xs i x h e) ∙ ap (λ b. b && list_all p (drop (i + 1) (map f xs))) t

pub pairs_ascending_step : (xs : List (ℕ × ℕ)) (i j : ℕ) (a b : ℕ × ℕ) → j ≡ i + 1 → j < length xs → get_or xs i (0, 0) ≡ a → get_or xs j (0, 0) ≡ b → are_pairs_ascending (drop i xs) ≡ (pair_lt a b && are_pairs_ascending (drop j xs))
pairs_ascending_step xs i j a b e h ea eb =
    let x : drop i xs ≡ a ∷ drop j xs = rw e (drop_more xs i (0, 0) (omega arith)) ∙ ap (λ y. y ∷ drop j xs) ea in
    let y : drop j xs ≡ b ∷ drop (j + 1) xs = drop_more xs j (0, 0) h ∙ ap (λ z. z ∷ drop (j + 1) xs) eb in
    rw (x, y) refl

pub pairs_ascending_end : (xs : List (ℕ × ℕ)) (i : ℕ) → length xs ≤ i + 1 → are_pairs_ascending (drop i xs) ≡ true
pairs_ascending_end [] zero h = refl
pairs_ascending_end [] (suc i) h = refl
pairs_ascending_end (x ∷ []) zero h = refl
pairs_ascending_end (x ∷ y ∷ xs) zero h = absurd (omega arith)
pairs_ascending_end (x ∷ xs) (suc i) h = pairs_ascending_end xs i (omega arith)

pub linked_end : (before : List (ℕ × ℕ)) (xs : List ℕ) (i : ℕ) → length xs ≤ i + 1 → are_linked before (drop i xs) ≡ true
linked_end before [] zero h = refl
linked_end before [] (suc i) h = refl
linked_end before (x ∷ []) zero h = refl
linked_end before (x ∷ y ∷ xs) zero h = absurd (omega arith)
linked_end before (x ∷ xs) (suc i) h = linked_end before xs i (omega arith)

pub item_at : (ks : List Chain) (i : ℕ) (k : Chain) → drop i ks ≡ k ∷ drop (i + 1) ks → i < length ks → get_or (map (λ k. k.item) ks) i 0 ≡ k.item
item_at ks i k e h = get_or-map (λ (k : Chain). k.item) ks i k 0 h ∙ ap (λ (k : Chain). k.item) (first ks i k e h)
  where
    first : (ks : List Chain) (i : ℕ) (k : Chain) → drop i ks ≡ k ∷ drop (i + 1) ks → i < length ks → get_or ks i k ≡ k
    first ks i k e h = ap (λ xs. get_or xs 0 k) (sym (drop_more ks i k h) ∙ e)

-- ---- rows of amounts

-- lists of different lengths
pub row_within_apart : (cs flow : List ℕ) → length cs ≢ length flow → is_row_within cs flow ≡ false
row_within_apart [] [] h = absurd (h refl)
row_within_apart [] (a ∷ flow) h = refl
row_within_apart (c ∷ cs) [] h = refl
row_within_apart (c ∷ cs) (a ∷ flow) h = rw (row_within_apart cs flow (λ e. h (ap suc e))) (go (nat_le a c))
  where
    go : (b : Bool) → (b && false) ≡ false
    go true = refl
    go false = refl

pub rows_within_step : (ks : List Chain) (fs : List (List ℕ)) (i : ℕ) (k : Chain) (f : List ℕ) → drop i ks ≡ k ∷ drop (i + 1) ks → drop i fs ≡ f ∷ drop (i + 1) fs → are_rows_within (drop i ks) (drop i fs) ≡ (is_row_within k.costs f && are_rows_within (drop (i + 1) ks) (drop (i + 1) fs))
rows_within_step ks fs i k f a b = rw (a, b) refl

pub rows_within_apart : (ks : List Chain) (fs : List (List ℕ)) → length ks ≢ length fs → are_rows_within ks fs ≡ false
rows_within_apart [] [] h = absurd (h refl)
rows_within_apart [] (f ∷ fs) h = refl
rows_within_apart (k ∷ ks) [] h = refl
rows_within_apart (k ∷ ks) (f ∷ fs) h = rw (rows_within_apart ks fs (λ e. h (ap suc e))) (go (is_row_within k.costs f))
  where
    go : (b : Bool) → (b && false) ≡ false
    go true = refl
    go false = refl

-- ---- versions

any_last : (has : ℕ → Bool) (ws : List ℕ) (k : ℕ) → k < length ws → has (get_or ws k 0) ≡ true → list_any has (take (suc k) ws) ≡ true
any_last has [] k l h = absurd (omega arith)
any_last has (w ∷ ws) zero l h = or_left (has w) (list_any has (take 0 ws)) h
any_last has (w ∷ ws) (suc k) l h = or_right (has w) (list_any has (take (suc k) ws)) (any_last has ws k (omega arith) h)

any_less : (has : ℕ → Bool) (ws : List ℕ) (k : ℕ) → k < length ws → has (get_or ws k 0) ≡ false → list_any has (take (suc k) ws) ≡ list_any has (take k ws)
any_less has [] k l h = absurd (omega arith)
any_less has (w ∷ ws) zero l h = or_from (has w) (list_any has (take 0 ws)) h refl
any_less has (w ∷ ws) (suc k) l h = ap (λ b. has w || b) (any_less has ws k (omega arith) h)

pub version_last : (has : ℕ → Bool) (ws : List ℕ) (k : ℕ) → k < length ws → has (get_or ws k 0) ≡ true → version has (take (suc k) ws) ≡ suc k
version_last has [] k l h = absurd (omega arith)
version_last has (w ∷ ws) zero l h = ap (λ b. cond b (suc (version has (take 0 ws))) 0) (any_last has (w ∷ ws) 0 l h)
version_last has (w ∷ ws) (suc k) l h =
    ap (λ b. cond b (suc (version has (take (suc k) ws))) 0) (any_last has (w ∷ ws) (suc k) l h) ∙ ap suc (version_last has ws k (omega arith) h)

pub version_less : (has : ℕ → Bool) (ws : List ℕ) (k : ℕ) → k < length ws → has (get_or ws k 0) ≡ false → version has (take (suc k) ws) ≡ version has (take k ws)
version_less has [] k l h = absurd (omega arith)
version_less has (w ∷ ws) zero l h = ap (λ b. cond b (suc (version has (take 0 ws))) 0) (any_less has (w ∷ ws) 0 l h)
version_less has (w ∷ ws) (suc k) l h =
    ap (λ b. cond b (suc (version has (take (suc k) ws))) 0) (any_less has (w ∷ ws) (suc k) l h)
    ∙ ap (λ n. cond (list_any has (take (suc k) (w ∷ ws))) (suc n) 0) (version_less has ws k (omega arith) h)

-- ---- sums

pub sum_step : {X Y : Type 0} (f : Y → ℕ) (g : X → Y) (xs : List X) (i : ℕ) (x : X) {sum more : ℕ} → i < length xs → x ≡ get_or xs i x → sum ≡ sum_by f (take i (map g xs)) → more ≡ f (g x) → sum + more ≡ sum_by f (take (i + 1) (map g xs))
sum_step f g xs i x {sum} {more} l is kept e =
    let within : i < length (map g xs) = omega (arith, l, length-map xs g) in
    let read : f (get_or (map g xs) i (g x)) ≡ f (g x) = ap f (get_or_map_read g xs i x l is) in
    omega (arith, sum_by_more f (map g xs) i (g x) within, read, kept, e)
