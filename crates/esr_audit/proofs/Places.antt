-- Positions in a list of transactions, and the transactions there.
use Rattle.std.proofs.Common.{◌≡◌, ℕ, suc, ◌+◌, ◌≤◌, Bool, true, false, cond, ◌||◌, List, [], ◌∷◌, length, filter, refl, sym, ap, ◌∙◌, arith, Option, Some, None, slice_get}
use Rattle.std.specs.List.{list_any, range_with_len}
use Rattle.esr_cert.specs.Problem.{version}
use Rattle.esr_audit.specs.Problems.{passes_at, places}

-- two lists, of which each place passes its test in the one as in the other
abbrev pub Alike : (ℕ → Bool) → (ℕ → Bool) → List ℕ → List ℕ → Type 0
Alike T S [] [] = Unit {0}
Alike T S [] (y ∷ ys) = ⊥
Alike T S (x ∷ xs) [] = ⊥
Alike T S (x ∷ xs) (y ∷ ys) = (T x ≡ S y) × Alike T S xs ys

any_alike : (T S : ℕ → Bool) (xs ys : List ℕ) → Alike T S xs ys → list_any T xs ≡ list_any S ys
any_alike T S [] [] a = refl
any_alike T S [] (y ∷ ys) a = absurd a
any_alike T S (x ∷ xs) [] a = absurd a
any_alike T S (x ∷ xs) (y ∷ ys) a = ap (λ b. b || list_any T xs) a.0 ∙ ap (λ b. S y || b) (any_alike T S xs ys a.1)

pub version_alike : (T S : ℕ → Bool) (xs ys : List ℕ) → Alike T S xs ys → version T xs ≡ version S ys
version_alike T S [] [] a = refl
version_alike T S [] (y ∷ ys) a = absurd a
version_alike T S (x ∷ xs) [] a = absurd a
version_alike T S (x ∷ xs) (y ∷ ys) a =
    ap (λ b. cond b (suc (version T xs)) 0) (any_alike T S (x ∷ xs) (y ∷ ys) a)
    ∙ ap (λ n. cond (list_any S (y ∷ ys)) (suc n) 0) (version_alike T S xs ys a.1)

pub length_alike : (T S : ℕ → Bool) (xs ys : List ℕ) → Alike T S xs ys → length xs ≡ length ys
length_alike T S [] [] a = refl
length_alike T S [] (y ∷ ys) a = absurd a
length_alike T S (x ∷ xs) [] a = absurd a
length_alike T S (x ∷ xs) (y ∷ ys) a = omega (arith, length_alike T S xs ys a.1)

-- the list `us` continues with `rest` from index a on
abbrev Continues : List ℕ → ℕ → List ℕ → Type 0
Continues us a rest = (k : ℕ) → slice_get us (a + k) ≡ slice_get rest k

continues : (us : List ℕ) (a u : ℕ) (rest : List ℕ) → Continues us a (u ∷ rest) → Continues us (a + 1) rest
continues us a u rest g k = let e : (a + 1) + k ≡ a + suc k = omega arith in ap (slice_get us) e ∙ g (suc k)

passes_here : (us : List ℕ) (a u : ℕ) (rest : List ℕ) (S : ℕ → Bool) → Continues us a (u ∷ rest) → passes_at us S a ≡ S u
passes_here us a u rest S g =
    let e : a + 0 ≡ a = omega arith in
    ap (λ (o : Option ℕ). elim o [ Some t ↦ S t | None ↦ false ]) (ap (slice_get us) (sym e) ∙ g 0)

alike_from : (us : List ℕ) (S W : ℕ → Bool) (rest : List ℕ) (a : ℕ) → Continues us a rest → Alike (passes_at us S) S (filter (passes_at us W) (range_with_len a (length rest))) (filter W rest)
alike_from us S W [] a g = tt
alike_from us S W (u ∷ rest) a g =
    at (passes_at us W a) refl (W u) refl (alike_from us S W rest (a + 1) (continues us a u rest g))
  where
    at : (b : Bool) → passes_at us W a ≡ b → (c : Bool) → W u ≡ c → Alike (passes_at us S) S (filter (passes_at us W) (range_with_len (a + 1) (length rest))) (filter W rest)
        → Alike (passes_at us S) S (cond b (a ∷ filter (passes_at us W) (range_with_len (a + 1) (length rest))) (filter (passes_at us W) (range_with_len (a + 1) (length rest)))) (cond c (u ∷ filter W rest) (filter W rest))
    at true e true f more = (passes_here us a u rest S g, more)
    at false e false f more = more
    at true e false f more = let bad : true ≡ false = sym e ∙ passes_here us a u rest W g ∙ f in cc
    at false e true f more = let bad : false ≡ true = sym e ∙ passes_here us a u rest W g ∙ f in cc

-- the indices of those that pass W represent them
pub places_alike : (us : List ℕ) (S W : ℕ → Bool) → Alike (passes_at us S) S (places us W) (filter W us)
places_alike us S W = alike_from us S W us 0 (λ k. ap (slice_get us) (let e : 0 + k ≡ k = omega arith in e))

pub places_version : (us : List ℕ) (S W : ℕ → Bool) → version (passes_at us S) (places us W) ≡ version S (filter W us)
places_version us S W = version_alike (passes_at us S) S (places us W) (filter W us) (places_alike us S W)

pub length-places : (us : List ℕ) (W : ℕ → Bool) → length (places us W) ≡ length (filter W us)
length-places us W = length_alike (passes_at us W) W (places us W) (filter W us) (places_alike us W W)

pub version_le : (S : ℕ → Bool) (ws : List ℕ) → version S ws ≤ length ws
version_le S [] = omega arith
version_le S (w ∷ ws) = at (list_any S (w ∷ ws)) (version_le S ws)
  where
    at : (b : Bool) → version S ws ≤ length ws → cond b (suc (version S ws)) 0 ≤ length (w ∷ ws)
    at true l = omega arith
    at false l = omega arith
