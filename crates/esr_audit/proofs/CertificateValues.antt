-- The code has a value for each certificate of a well-formed problem: its lists are short enough for vectors.
use Rattle.std.proofs.Common.{◌≡◌, ℕ, suc, ◌+◌, ◌*◌, ◌^◌, ◌<◌, ◌≤◌, ◌⊎◌, Bool, true, ◌&&◌, ◌==◌, nat_lt, List, [], ◌∷◌, length, map, Vec, Global}
use Rattle.std.proofs.Common.{refl, sym, ap, ◌∙◌, inl, inr, arith, true≢false, mul-le-mul_right}
use Rattle.std.specs.List.{list_all, AllByRecursion}
use Rattle.std.proofs.lemmas.Bool.{and_parts, and_from, or_cases, ltb-true, lt-ltb, eqb-true}
use Rattle.std.proofs.lemmas.List.{length-map}
use denote.RawPtr.{null_ptr}
use Rattle.esr_base.specs.declared.limits.TheConstants.{MAX_ITEMS, MAX_TRANSACTIONS}
use Rattle.esr_cert.specs.declared.certificate.Certificate as code
use Rattle.esr_cert.specs.Problem.{Chain, Problem, update_count, is_strictly_ascending, pair_lt, are_pairs_ascending, chain_has_shape, has_valid_shape, chain_is_in_range, is_in_range, is_well_formed}
use Rattle.esr_cert.specs.Certificate.{Certificate, are_rows_matched, Certifies}
use Rattle.esr_cert.specs.Views.{rows_of, certificate_of}
use Rattle.esr_cert.proofs.Sound.{HasShape, shape_facts, InRange, range_facts}
use Rattle.esr_cert.proofs.Distinct.{distinct_bounded, ascending_bounded}
use Rattle.esr_cert.proofs.Certified.{IsFaultless, faultless, IsWithin, within_facts}

-- ---- vectors

-- an allocator: in the logic there is one without a runtime
any_alloc : Global
any_alloc = record { memory = record { seal = tt } }

-- a vector with these elements
pub vec_of : {X : Type 0} → (xs : List X) → length xs < 2 ^ 63 → (v : Vec X Global) × (v.items ≡ xs)
vec_of xs short = (record { ptr = null_ptr; len = length xs; cap = length xs; alloc = any_alloc; items = xs; ok = (refl, omega arith); small = short }, refl)

vecs_of : (rows : List (List ℕ)) → AllByRecursion (λ row. length row < 2 ^ 63) rows → (vs : List (Vec ℕ Global)) × (rows_of vs ≡ rows)
vecs_of [] short = ([], refl)
vecs_of (row ∷ rows) short =
    let first : (v : Vec ℕ Global) × (v.items ≡ row) = vec_of row short.0 in
    let others : (vs : List (Vec ℕ Global)) × (rows_of vs ≡ rows) = vecs_of rows short.1 in
    (first.0 ∷ others.0, ap (λ xs. xs ∷ rows_of others.0) first.1 ∙ ap (λ xss. row ∷ xss) others.1)

-- ---- lengths

-- ascending pairs of numbers below n are at most the square of n
pair_number : ℕ → ℕ × ℕ → ℕ
pair_number n e = e.0 * n + e.1

number_rises : (n : ℕ) (a b : ℕ × ℕ) → a.1 < n → pair_lt a b ≡ true → pair_number n a < pair_number n b
unfolding pair_number
number_rises n a b l h = go (or_cases (nat_lt a.0 b.0) ((a.0 == b.0) && nat_lt a.1 b.1) h)
  where
    go : ((nat_lt a.0 b.0 ≡ true) ⊎ (((a.0 == b.0) && nat_lt a.1 b.1) ≡ true)) → a.0 * n + a.1 < b.0 * n + b.1
    go (inl t) =
        let first : a.0 < b.0 = ltb-true a.0 b.0 t in
        let rows : suc a.0 * n ≤ b.0 * n = mul-le-mul_right n first in
        omega arith
    go (inr t) =
        let both : ((a.0 == b.0) ≡ true) × (nat_lt a.1 b.1 ≡ true) = and_parts (a.0 == b.0) (nat_lt a.1 b.1) t in
        let second : a.1 < b.1 = ltb-true a.1 b.1 both.1 in
        let same : a.0 * n ≡ b.0 * n = ap (λ x. x * n) (eqb-true a.0 b.0 both.0) in
        omega arith

number_below : (n : ℕ) (e : ℕ × ℕ) → e.0 < n → e.1 < n → pair_number n e < n * n
unfolding pair_number
number_below n e a b = let rows : suc e.0 * n ≤ n * n = mul-le-mul_right n a in omega arith

abbrev within_square : ℕ → ℕ × ℕ → Bool
within_square n e = nat_lt e.0 n && nat_lt e.1 n

ends_below : (n : ℕ) (e : ℕ × ℕ) → within_square n e ≡ true → (e.0 < n) × (e.1 < n)
ends_below n e h = let both : (nat_lt e.0 n ≡ true) × (nat_lt e.1 n ≡ true) = and_parts (nat_lt e.0 n) (nat_lt e.1 n) h in (ltb-true e.0 n both.0, ltb-true e.1 n both.1)

numbers_ascend : (n : ℕ) (pairs : List (ℕ × ℕ)) → are_pairs_ascending pairs ≡ true → list_all (within_square n) pairs ≡ true → is_strictly_ascending (map (pair_number n) pairs) ≡ true
numbers_ascend n [] h r = refl
numbers_ascend n (a ∷ []) h r = refl
numbers_ascend n (a ∷ b ∷ pairs) h r =
    let up : (pair_lt a b ≡ true) × (are_pairs_ascending (b ∷ pairs) ≡ true) = and_parts (pair_lt a b) (are_pairs_ascending (b ∷ pairs)) h in
    let here : (within_square n a ≡ true) × (list_all (within_square n) (b ∷ pairs) ≡ true) = and_parts (within_square n a) (list_all (within_square n) (b ∷ pairs)) r in
    and_from (nat_lt (pair_number n a) (pair_number n b)) (is_strictly_ascending (map (pair_number n) (b ∷ pairs)))
    (lt-ltb (pair_number n a) (pair_number n b) (number_rises n a b (ends_below n a here.0).1 up.0)) (numbers_ascend n (b ∷ pairs) up.1 here.1)

numbers_below : (n : ℕ) (pairs : List (ℕ × ℕ)) → list_all (within_square n) pairs ≡ true → list_all (λ t. nat_lt t (n * n)) (map (pair_number n) pairs) ≡ true
numbers_below n [] r = refl
numbers_below n (a ∷ pairs) r =
    let here : (within_square n a ≡ true) × (list_all (within_square n) pairs ≡ true) = and_parts (within_square n a) (list_all (within_square n) pairs) r in
    let ends : (a.0 < n) × (a.1 < n) = ends_below n a here.0 in
    and_from (nat_lt (pair_number n a) (n * n)) (list_all (λ t. nat_lt t (n * n)) (map (pair_number n) pairs))
    (lt-ltb (pair_number n a) (n * n) (number_below n a ends.0 ends.1)) (numbers_below n pairs here.1)

pairs_bounded : (n : ℕ) (pairs : List (ℕ × ℕ)) → are_pairs_ascending pairs ≡ true → list_all (within_square n) pairs ≡ true → length pairs ≤ n * n
pairs_bounded n pairs h r =
    omega (arith, length-map pairs (pair_number n), ascending_bounded (n * n) (map (pair_number n) pairs) (numbers_ascend n pairs h r) (numbers_below n pairs r))

-- a problem has at most as many chains as there are items
items_below : (n : ℕ) (chains : List Chain) → list_all (chain_is_in_range n) chains ≡ true → list_all (λ x. nat_lt x MAX_ITEMS) (map (λ (c : Chain). c.item) chains) ≡ true
items_below n [] r = refl
items_below n (c ∷ chains) r =
    let here : (chain_is_in_range n c ≡ true) × (list_all (chain_is_in_range n) chains ≡ true) = and_parts (chain_is_in_range n c) (list_all (chain_is_in_range n) chains) r in
    and_from (nat_lt c.item MAX_ITEMS) (list_all (λ x. nat_lt x MAX_ITEMS) (map (λ (c : Chain). c.item) chains))
    (and_parts (nat_lt c.item MAX_ITEMS) (list_all (λ w. nat_lt w n) c.writers) here.0).0 (items_below n chains here.1)

-- and a chain has at most as many costs as there are updates, and one
costs_bounded : (n : ℕ) (before : List (ℕ × ℕ)) (c : Chain) → chain_has_shape before c ≡ true → chain_is_in_range n c ≡ true → length c.costs ≤ n + 1
costs_bounded n before c h r =
    let a = and_parts _ _ h in
    let b : ((length c.costs == suc (length c.writers)) ≡ true) × (is_strictly_ascending c.writers ≡ true) = and_parts (length c.costs == suc (length c.writers)) (is_strictly_ascending c.writers) a.0 in
    let count : length c.costs ≡ suc (length c.writers) = eqb-true (length c.costs) (suc (length c.writers)) b.0 in
    let below : list_all (λ w. nat_lt w n) c.writers ≡ true = (and_parts (nat_lt c.item MAX_ITEMS) (list_all (λ w. nat_lt w n) c.writers) r).1 in
    omega (arith, ascending_bounded n c.writers b.1 below)

rows_short : (n : ℕ) (before : List (ℕ × ℕ)) (chains : List Chain) (rows : List (List ℕ)) → n ≤ 65535 → list_all (chain_has_shape before) chains ≡ true
    → list_all (chain_is_in_range n) chains ≡ true → are_rows_matched chains rows ≡ true → AllByRecursion (λ row. length row < 2 ^ 63) rows
rows_short n before [] [] l h r m = tt
rows_short n before [] (row ∷ rows) l h r m = absurd (true≢false (sym m))
rows_short n before (c ∷ chains) [] l h r m = tt
rows_short n before (c ∷ chains) (row ∷ rows) l h r m =
    let shape : (chain_has_shape before c ≡ true) × (list_all (chain_has_shape before) chains ≡ true) = and_parts (chain_has_shape before c) (list_all (chain_has_shape before) chains) h in
    let range : (chain_is_in_range n c ≡ true) × (list_all (chain_is_in_range n) chains ≡ true) = and_parts (chain_is_in_range n c) (list_all (chain_is_in_range n) chains) r in
    let both : ((length row == length c.costs) ≡ true) × (are_rows_matched chains rows ≡ true) = and_parts (length row == length c.costs) (are_rows_matched chains rows) m in
    let same : length row ≡ length c.costs = eqb-true (length row) (length c.costs) both.0 in
    let few : length row ≤ 65536 = omega (arith, costs_bounded n before c shape.0 range.0) in
    (omega arith, rows_short n before chains rows l shape.1 range.1 both.1)

rows_count : (chains : List Chain) (rows : List (List ℕ)) → are_rows_matched chains rows ≡ true → length rows ≡ length chains
rows_count [] [] m = refl
rows_count [] (row ∷ rows) m = absurd (true≢false (sym m))
rows_count (c ∷ chains) [] m = absurd (true≢false (sym m))
rows_count (c ∷ chains) (row ∷ rows) m = ap suc (rows_count chains rows (and_parts (length row == length c.costs) (are_rows_matched chains rows) m).1)

-- the lists of a certificate are short
pub record IsShort (c : Certificate) : Type 0 where
  pub set : length c.set ≤ 65535
  pub rows : length c.chain_flow < 2 ^ 63
  pub each_row : AllByRecursion (λ row. length row < 2 ^ 63) c.chain_flow
  pub back_flow : length c.back_flow < 2 ^ 63
  pub must_flow : length c.must_flow < 2 ^ 63

pub certificate_is_short : (p : Problem) (c : Certificate) → is_well_formed p ≡ true → Certifies p c → IsShort c
certificate_is_short p c sound certified =
    let both : (has_valid_shape p ≡ true) × (is_in_range p ≡ true) = and_parts (has_valid_shape p) (is_in_range p) sound in
    let s : HasShape p = shape_facts p both.0 in
    let r : InRange p = range_facts p both.1 in
    let f : IsFaultless p c = faultless p c certified in
    let w : IsWithin p c = within_facts p c f.within in
    let updates : update_count p ≤ 65535 = distinct_bounded MAX_TRANSACTIONS p.updates s.distinct r.numbers in
    let set : length c.set ≤ update_count p = ascending_bounded (update_count p) c.set f.ascending f.in_range in
    let musts : length p.must ≤ update_count p = ascending_bounded (update_count p) p.must s.must r.must in
    let chains : length p.chains ≤ 4096 =
    omega (arith, length-map p.chains (λ (c : Chain). c.item), ascending_bounded MAX_ITEMS (map (λ (c : Chain). c.item) p.chains) s.items (items_below (update_count p) p.chains r.chains)) in
    let pairs : length p.before ≤ update_count p * update_count p = pairs_bounded (update_count p) p.before s.pairs r.pairs in
    let square : update_count p * update_count p ≤ 65535 * update_count p = mul-le-mul_right (update_count p) updates in
    record {
      set = omega arith;
      rows = omega (arith, rows_count p.chains c.chain_flow w.rows);
      each_row = rows_short (update_count p) p.before p.chains c.chain_flow updates s.chains r.chains w.rows;
      back_flow = omega (arith, w.backs);
      must_flow = omega (arith, w.musts);
    }

-- the code's value of a certificate
pub certificate_value : (c : Certificate) → IsShort c → (k : code.Certificate) × (certificate_of k ≡ c)
certificate_value c short =
    let set : (v : Vec ℕ Global) × (v.items ≡ c.set) = vec_of c.set (omega (arith, short.set)) in
    let rows : (vs : List (Vec ℕ Global)) × (rows_of vs ≡ c.chain_flow) = vecs_of c.chain_flow short.each_row in
    let count : length rows.0 < 2 ^ 63 = omega (arith, length-map rows.0 (λ (v : Vec ℕ Global). v.items), ap length rows.1, short.rows) in
    let chain_flow : (v : Vec (Vec ℕ Global) Global) × (v.items ≡ rows.0) = vec_of rows.0 count in
    let back_flow : (v : Vec ℕ Global) × (v.items ≡ c.back_flow) = vec_of c.back_flow short.back_flow in
    let must_flow : (v : Vec ℕ Global) × (v.items ≡ c.must_flow) = vec_of c.must_flow short.must_flow in
    let same_rows : rows_of chain_flow.0.items ≡ c.chain_flow = ap rows_of chain_flow.1 ∙ rows.1 in (
      record { set = set.0; chain_flow = chain_flow.0; back_flow = back_flow.0; must_flow = must_flow.0; worth = c.worth; augmentations = c.augmentations },
      λ i. record { set = set.1 i; chain_flow = same_rows i; back_flow = back_flow.1 i; must_flow = must_flow.1 i; worth = c.worth; augmentations = c.augmentations },
    )
