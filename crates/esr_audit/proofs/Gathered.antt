-- Costs and chains gathered one after another.
use Rattle.std.proofs.Common.{◌≡◌, ℕ, ℤ, pos, refl, ◌+◌, ◌<◌, ◌≤◌, Bool, true, false, cond, ◌||◌, List, [], ◌∷◌, ◌++◌, length, take, get_or, map, filter, arith, ap, ◌∙◌, sym, subst, inl, inr, set, Vec, Global, append-nil, eqb, eq-eqb, ne_eqb, get_or-set_same, get_or-set_other}
use Rattle.std.specs.List.{list_any, range_with_len, AllByRecursion}
use Rattle.std.proofs.lemmas.Bool.{cases_eq}
use Rattle.std.proofs.lemmas.List.{take_more, map-append, map-set, get_or-map, length-map}
use Rattle.esr_history.proofs.Charges.{range-push}
use Rattle.esr_items.specs.Values.{IsValue}
use Rattle.esr_audit.specs.Reads.{values_of, list_at, ItemRead}
pub use Rattle.esr_order.proofs.ValueLists.{value_fits, list_push, list_is}

-- one version more
pub cost_step : (D : ℤ → ℕ) (o : ℤ) (vs : List ℤ) (costs new : List ℕ) (r i : ℕ) → new ≡ costs ++ r ∷ [] → costs ≡ map D (o ∷ take i vs) → i < length vs → r ≡ D (get_or vs i (pos 0)) → new ≡ map D (o ∷ take (i + 1) vs)
cost_step D o vs costs new r i pushed so_far l is =
    pushed
    ∙ ap (λ cs. cs ++ r ∷ []) so_far
    ∙ ap (λ n. map D (o ∷ take i vs) ++ n ∷ []) is
    ∙ sym (map-append D (o ∷ take i vs) (get_or vs i (pos 0) ∷ []))
    ∙ ap (λ xs. map D (o ∷ xs)) (sym (take_more vs i (pos 0) l))

pub items_more : (P : ℕ → Bool) (n : ℕ) → filter P (range_with_len 0 (n + 1)) ≡ filter P (range_with_len 0 n) ++ (cond (P n) (n ∷ []) [])
items_more P n =
    let e : 0 + n ≡ n = omega arith in
    ap (filter P) (range-push 0 n ∙ ap (λ m. range_with_len 0 n ++ m ∷ []) e) ∙ pushed (range_with_len 0 n)
  where
    pushed : (xs : List ℕ) → filter P (xs ++ n ∷ []) ≡ filter P xs ++ (cond (P n) (n ∷ []) [])
    pushed [] = cases (P n)
      where
        cases : (b : Bool) → cond b (n ∷ []) [] ≡ [] ++ cond b (n ∷ []) []
        cases true = refl
        cases false = refl
    pushed (x ∷ xs) = cases (P x) (pushed xs)
      where
        cases : (b : Bool) → filter P (xs ++ n ∷ []) ≡ filter P xs ++ (cond (P n) (n ∷ []) []) → cond b (x ∷ filter P (xs ++ n ∷ [])) (filter P (xs ++ n ∷ [])) ≡ cond b (x ∷ filter P xs) (filter P xs) ++ (cond (P n) (n ∷ []) [])
        cases true rest = ap (λ ys. x ∷ ys) rest
        cases false rest = rest

-- one item more that was read, and one that was not
pub chain_step : {X Y : Type 0} (view : X → Y) (G : ℕ → Y) (P : ℕ → Bool) (n : ℕ) (chains new : List X) (c : X) → map view chains ≡ map G (filter P (range_with_len 0 n)) → P n ≡ true → new ≡ chains ++ c ∷ [] → view c ≡ G n → map view new ≡ map G (filter P (range_with_len 0 (n + 1)))
chain_step view G P n chains new c so_far passes pushed is =
    ap (map view) pushed ∙ map-append view chains (c ∷ [])
    ∙ ap (λ ys. ys ++ view c ∷ []) so_far
    ∙ ap (λ y. map G (filter P (range_with_len 0 n)) ++ y ∷ []) is
    ∙ sym (map-append G (filter P (range_with_len 0 n)) (n ∷ []))
    ∙ sym (ap (map G) (items_more P n ∙ ap (λ b. filter P (range_with_len 0 n) ++ (cond b (n ∷ []) [])) passes))

pub chain_skip : {X Y : Type 0} (view : X → Y) (G : ℕ → Y) (P : ℕ → Bool) (n : ℕ) (chains : List X) → map view chains ≡ map G (filter P (range_with_len 0 n)) → P n ≡ false → map view chains ≡ map G (filter P (range_with_len 0 (n + 1)))
chain_skip view G P n chains so_far fails =
    so_far ∙ sym (ap (map G) (items_more P n ∙ ap (λ b. filter P (range_with_len 0 n) ++ (cond b (n ∷ []) [])) fails ∙ append-nil (filter P (range_with_len 0 n))))

-- ---- lists of values, one for each item

-- a value was put to those of its item
module _ (lists : List (Vec ℤ Global)) (read : ItemRead) (was now : Vec ℤ Global) (inside : read.item < length lists) (is : was ≡ get_or lists read.item was) (grown : now.items ≡ was.items ++ read.value ∷ []) where
  abbrev seen : Vec ℤ Global → List ℤ
  seen v = v.items

  at_item : list_at (set lists read.item now) read.item ≡ list_at lists read.item ++ values_of (read ∷ []) read.item
  at_item =
      ap (λ l. get_or l read.item []) (map-set seen lists read.item now)
      ∙ get_or-set_same (map seen lists) read.item now.items [] (omega (arith, inside, length-map lists seen))
      ∙ grown
      ∙ ap (λ vs. vs ++ read.value ∷ []) (list_is lists read.item was inside is)
      ∙ ap (λ b. list_at lists read.item ++ map (λ (r : ItemRead). r.value) (cond b (read ∷ []) [])) (sym (eq-eqb read.item read.item refl))

  pub put_at : (x : ℕ) → list_at (set lists read.item now) x ≡ list_at lists x ++ values_of (read ∷ []) x
  put_at x = elim (cases_eq x read.item) [
    | inl e ↦ subst (λ y. list_at (set lists read.item now) y ≡ list_at lists y ++ values_of (read ∷ []) y) (sym e) at_item
    | inr ne ↦
        ap (λ l. get_or l x []) (map-set seen lists read.item now)
        ∙ get_or-set_other (map seen lists) read.item x now.items [] ne
        ∙ sym (append-nil (list_at lists x))
        ∙ ap (λ b. list_at lists x ++ map (λ (r : ItemRead). r.value) (cond b (read ∷ []) [])) (sym (ne_eqb read.item x (λ q. ne (sym q))))
  ]

-- ---- the values that were read of one item

pub values_append : (before after : List ItemRead) (x : ℕ) → values_of (before ++ after) x ≡ values_of before x ++ values_of after x
values_append [] after x = refl
values_append (r ∷ before) after x = at (eqb r.item x) (values_append before after x)
  where
    at : (b : Bool) → values_of (before ++ after) x ≡ values_of before x ++ values_of after x
        → map (λ (s : ItemRead). s.value) (cond b (r ∷ filter (λ (s : ItemRead). eqb s.item x) (before ++ after)) (filter (λ (s : ItemRead). eqb s.item x) (before ++ after)))
        ≡ map (λ (s : ItemRead). s.value) (cond b (r ∷ filter (λ (s : ItemRead). eqb s.item x) before) (filter (λ (s : ItemRead). eqb s.item x) before)) ++ values_of after x
    at true rest = ap (λ vs. r.value ∷ vs) rest
    at false rest = rest

-- one read more
pub values_more : (reads : List ItemRead) (i x : ℕ) (d : ItemRead) → i < length reads → values_of (take (i + 1) reads) x ≡ values_of (take i reads) x ++ values_of (get_or reads i d ∷ []) x
values_more reads i x d l = ap (λ rs. values_of rs x) (take_more reads i d l) ∙ values_append (take i reads) (get_or reads i d ∷ []) x

-- an item was read if there is a value
pub none_read : (reads : List ItemRead) (x : ℕ) → length (values_of reads x) ≡ 0 → list_any (λ (r : ItemRead). eqb r.item x) reads ≡ false
none_read [] x e = refl
none_read (r ∷ reads) x e = at (eqb r.item x) e (none_read reads x)
  where
    at : (b : Bool) → length (map (λ (s : ItemRead). s.value) (cond b (r ∷ filter (λ (s : ItemRead). eqb s.item x) reads) (filter (λ (s : ItemRead). eqb s.item x) reads))) ≡ 0
        → (length (values_of reads x) ≡ 0 → list_any (λ (s : ItemRead). eqb s.item x) reads ≡ false) → (b || list_any (λ (s : ItemRead). eqb s.item x) reads) ≡ false
    at true e rest = absurd (omega arith)
    at false e rest = rest e

pub some_read : (reads : List ItemRead) (x : ℕ) → (length (values_of reads x) ≡ 0 → ⊥) → list_any (λ (r : ItemRead). eqb r.item x) reads ≡ true
some_read [] x n = absurd (n refl)
some_read (r ∷ reads) x n = at (eqb r.item x) n (some_read reads x)
  where
    at : (b : Bool) → (length (map (λ (s : ItemRead). s.value) (cond b (r ∷ filter (λ (s : ItemRead). eqb s.item x) reads) (filter (λ (s : ItemRead). eqb s.item x) reads))) ≡ 0 → ⊥)
        → ((length (values_of reads x) ≡ 0 → ⊥) → list_any (λ (s : ItemRead). eqb s.item x) reads ≡ true) → (b || list_any (λ (s : ItemRead). eqb s.item x) reads) ≡ true
    at true n rest = refl
    at false n rest = rest n

pub values_bounded : (reads : List ItemRead) (x : ℕ) → length (values_of reads x) ≤ length reads
values_bounded [] x = omega arith
values_bounded (r ∷ reads) x = at (eqb r.item x) (values_bounded reads x)
  where
    at : (b : Bool) → length (values_of reads x) ≤ length reads → length (map (λ (s : ItemRead). s.value) (cond b (r ∷ filter (λ (s : ItemRead). eqb s.item x) reads) (filter (λ (s : ItemRead). eqb s.item x) reads))) ≤ length (r ∷ reads)
    at true l = omega arith
    at false l = omega arith

pub values_in_range : (reads : List ItemRead) (x : ℕ) → AllByRecursion (λ (r : ItemRead). IsValue r.value) reads → AllByRecursion IsValue (values_of reads x)
values_in_range [] x a = tt
values_in_range (r ∷ reads) x a = at (eqb r.item x) (values_in_range reads x a.1)
  where
    at : (b : Bool) → AllByRecursion IsValue (values_of reads x) → AllByRecursion IsValue (map (λ (s : ItemRead). s.value) (cond b (r ∷ filter (λ (s : ItemRead). eqb s.item x) reads) (filter (λ (s : ItemRead). eqb s.item x) reads)))
    at true rest = (a.0, rest)
    at false rest = rest
