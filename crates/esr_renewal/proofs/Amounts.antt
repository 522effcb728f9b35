-- Sums of amounts over the reads of a history.
use Rattle.std.proofs.Common.{◌≡◌, ℕ, ◌+◌, ◌*◌, ◌<◌, ◌≤◌, Bool, true, false, ◌&&◌, ◌==◌, List, [], ◌∷◌, refl, sym, ◌∙◌, inl, inr, arith, sum_by, count_by, cond, if◌then◌else◌}
use Rattle.std.specs.List.{range_with_len}
use Rattle.std.proofs.lemmas.Bool.{cases_eq, eq-eqb, ne_eqb}
use Rattle.std.proofs.lemmas.List.Sums.{sum_by-cons}
use Rattle.esr_history.specs.Events.{reads}
use Rattle.esr_renewal.specs.Types.{TxnId, ItemId, Event, BeginUpdate, BeginQuery, Read, Write, Commit, Abort}
use Rattle.esr_history.proofs.Membership.{In}
use Rattle.esr_history.proofs.Sums.{sum_by_add, once}
use Rattle.esr_renewal.proofs.OpenCharges.{amount_if}

pub sum_within : {X : Type 0} (f g k : X → ℕ) (xs : List X) → ((x : X) → In x xs → f x ≤ g x + k x) → sum_by f xs ≤ sum_by g xs + sum_by k xs
sum_within f g k [] each = omega arith
sum_within f g k (x ∷ xs) each =
    let one : f x ≤ g x + k x = each x (inl refl) in
    let rest : sum_by f xs ≤ sum_by g xs + sum_by k xs = sum_within f g k xs (λ y i. each y (inr i)) in
    rw (sum_by-cons f x xs, sum_by-cons g x xs, sum_by-cons k x xs) (omega (arith, one, rest))

pub sum_same : {X : Type 0} (f g : X → ℕ) (xs : List X) → ((x : X) → In x xs → f x ≡ g x) → sum_by f xs ≡ sum_by g xs
sum_same f g [] each = refl
sum_same f g (x ∷ xs) each =
    let one : f x ≡ g x = each x (inl refl) in
    let rest : sum_by f xs ≡ sum_by g xs = sum_same f g xs (λ y i. each y (inr i)) in
    rw (sum_by-cons f x xs, sum_by-cons g x xs) (omega (arith, one, rest))

-- an amount for each read, over the reads or over the readers
pub by_reader : (p : ℕ → Bool) (y amount : ℕ) (n : ℕ) (es : List Event)
    → ((q : TxnId) (x : ItemId) → In (Read q x) es → (1 ≤ q.0) × (q.0 < 1 + n))
    → sum_by (amount_if (λ q x. p q && (x == y)) (λ x. amount)) es
    ≤ sum_by (λ q. if p q then count_by (reads q y) es * amount else 0) (range_with_len 1 n)
by_reader p y amount n [] known = omega arith
by_reader p y amount n (e ∷ es) known = at e (λ q x own. known q x (inl own)) (by_reader p y amount n es (λ q x i. known q x (inr i)))
  where
    more : (e : Event) (q : ℕ) → (if p q then count_by (reads q y) (e ∷ es) * amount else 0) ≡ (if p q then count_by (reads q y) es * amount else 0) + (if p q then cond (reads q y e) amount 0 else 0)
    more e q =
        let c = sum_by-cons (λ f. cond (reads q y f) 1 0) e es in
        rw c (each (p q) (reads q y e) (count_by (reads q y) es))
      where
        each : (b r : Bool) (n : ℕ) → (if b then (cond r 1 0 + n) * amount else 0) ≡ (if b then n * amount else 0) + (if b then cond r amount 0 else 0)
        each false r n = refl
        each true true n = omega arith
        each true false n = omega arith

    grown : (e : Event) → sum_by (λ q. if p q then count_by (reads q y) (e ∷ es) * amount else 0) (range_with_len 1 n)
        ≡ sum_by (λ q. if p q then count_by (reads q y) es * amount else 0) (range_with_len 1 n) + sum_by (λ q. if p q then cond (reads q y e) amount 0 else 0) (range_with_len 1 n)
    grown e =
        sum_same (λ q. if p q then count_by (reads q y) (e ∷ es) * amount else 0) (λ q. (if p q then count_by (reads q y) es * amount else 0) + (if p q then cond (reads q y e) amount 0 else 0)) (range_with_len 1 n) (λ q i. more e q)
        ∙ sum_by_add (λ q. if p q then count_by (reads q y) es * amount else 0) (λ q. if p q then cond (reads q y e) amount 0 else 0) (range_with_len 1 n)

    other : (e : Event) → amount_if (λ q x. p q && (x == y)) (λ x. amount) e ≡ 0
        → sum_by (amount_if (λ q x. p q && (x == y)) (λ x. amount)) es ≤ sum_by (λ q. if p q then count_by (reads q y) es * amount else 0) (range_with_len 1 n)
        → sum_by (amount_if (λ q x. p q && (x == y)) (λ x. amount)) (e ∷ es) ≤ sum_by (λ q. if p q then count_by (reads q y) (e ∷ es) * amount else 0) (range_with_len 1 n)
    other e none rest =
        let a = sum_by-cons (amount_if (λ q x. p q && (x == y)) (λ x. amount)) e es in
        let g = grown e in
        omega (arith, a, g, none, rest)

    at : (e : Event) → ((q : TxnId) (x : ItemId) → e ≡ Read q x → (1 ≤ q.0) × (q.0 < 1 + n))
        → sum_by (amount_if (λ q x. p q && (x == y)) (λ x. amount)) es ≤ sum_by (λ q. if p q then count_by (reads q y) es * amount else 0) (range_with_len 1 n)
        → sum_by (amount_if (λ q x. p q && (x == y)) (λ x. amount)) (e ∷ es) ≤ sum_by (λ q. if p q then count_by (reads q y) (e ∷ es) * amount else 0) (range_with_len 1 n)
    at (BeginUpdate l) own rest = other (BeginUpdate l) refl rest
    at (BeginQuery l s) own rest = other (BeginQuery l s) refl rest
    at (Write t x v) own rest = other (Write t x v) refl rest
    at (Commit t) own rest = other (Commit t) refl rest
    at (Abort t) own rest = other (Abort t) refl rest
    at (Read t x) own rest =
        let a = sum_by-cons (amount_if (λ q x. p q && (x == y)) (λ x. amount)) (Read t x) es in
        let g = grown (Read t x) in
        let r = own t x refl in
        let s = sum_same (λ q. if p q then cond (reads q y (Read t x)) amount 0 else 0) (λ q. if t.0 == q then (if p t.0 && (x.0 == y) then amount else 0) else 0) (range_with_len 1 n) (λ q i. single q) in
        let o = once t.0 (if p t.0 && (x.0 == y) then amount else 0) 1 n r.0 r.1 in
        omega (arith, a, g, rest, s, o)
      where
        single : (q : ℕ) → (if p q then cond (t.0 == q && (x.0 == y)) amount 0 else 0) ≡ (if t.0 == q then (if p t.0 && (x.0 == y) then amount else 0) else 0)
        single q =
            elim (cases_eq t.0 q) [
              | inl e ↦ rw (eq-eqb t.0 q e, sym e) (own_part (p t.0) (x.0 == y))
              | inr ne ↦ rw (ne_eqb t.0 q ne) (no_part (p q) 0)
            ]
          where
            own_part : (a b : Bool) → (if a then cond b amount 0 else 0) ≡ (if a && b then amount else 0)
            own_part true true = refl
            own_part true false = refl
            own_part false b = refl

            no_part : (a : Bool) (n : ℕ) → (if a then n else n) ≡ n
            no_part true n = refl
            no_part false n = refl
