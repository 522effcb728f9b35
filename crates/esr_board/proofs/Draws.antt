-- The claims of a seat in several calls.
use Rattle.std.proofs.Common.{◌≡◌, ℕ, ◌<◌, cond, ltb, List, [], ◌∷◌, ◌++◌, map, length, get_or, sym, refl, ap, ◌∙◌, subst, arith, Any, lt-ltb, length-append, append_assoc, append-nil}
use Rattle.std.proofs.lemmas.List.{map-append}
use Rattle.std.proofs.lemmas.List.Elements.{filter-append}
use Rattle.esr_board.specs.Claims.{HasClaimed}

pub claimed_then : (jobs : ℕ) (a b c js ks : List ℕ) → HasClaimed jobs a b js → HasClaimed jobs b c ks → HasClaimed jobs a c (js ++ ks)
claimed_then jobs a b c js ks x y = grind (arith, append_assoc a x.0 y.0, filter-append, ltb)

pub claimed_job : (jobs : ℕ) (b c : List ℕ) (n : ℕ) → c ≡ b ++ n ∷ [] → n < jobs → HasClaimed jobs b c (n ∷ [])
claimed_job jobs b c n e l = (n ∷ [], e, ap (λ t. cond {A = List ℕ} t (n ∷ []) []) (lt-ltb n jobs l))

pub claimed_more : {X : Type 0} (jobs : ℕ) (a b c : List ℕ) (found after : List (ℕ × X)) (n : ℕ) (x : X) → HasClaimed jobs a b (map (λ p. p.0) found) → c ≡ b ++ n ∷ [] → n < jobs → after ≡ found ++ (n, x) ∷ [] → HasClaimed jobs a c (map (λ p. p.0) after)
claimed_more {X} jobs a b c found after n x d e l more =
    subst (HasClaimed jobs a c) (sym (ap (map (λ (p : ℕ × X). p.0)) more ∙ map-append (λ (p : ℕ × X). p.0) found ((n, x) ∷ [])))
    (claimed_then jobs a b c (map (λ p. p.0) found) (n ∷ []) d (claimed_job jobs b c n e l))

pub claimed_last : (jobs : ℕ) (a b c js : List ℕ) → HasClaimed jobs a b js → HasClaimed jobs b c [] → HasClaimed jobs a c js
claimed_last jobs a b c js x y = subst (HasClaimed jobs a c) (append-nil js) (claimed_then jobs a b c js [] x y)

pub any_last : (P : ℕ → Type 0) (xs : List ℕ) (n : ℕ) → P n → Any P (xs ++ n ∷ [])
any_last P xs n p = (length xs, n, omega (arith, length-append xs (n ∷ [])), at xs n, p)
  where
    at : (xs : List ℕ) (n : ℕ) → get_or (xs ++ n ∷ []) (length xs) n ≡ n
    at [] n = refl
    at (x ∷ xs) n = at xs n
