-- Chains of the same last values are equal.
use Rattle.std.proofs.Common.{◌≡◌, ℕ, zero, suc, ◌+◌, ◌<◌, ◌≤◌, ℤ, Option, refl, ◌∙◌, ap, arith, filter, cond, ◌∷◌, is_some}
use Rattle.std.specs.List.{filter_map, cons_option, range_with_len}
use Rattle.esr_order.specs.Chains.{chain_from}

pub chain_agree : (last other : ℕ → Option ℤ) (n : ℕ) → ((i : ℕ) → i < n → last i ≡ other i) → chain_from last n ≡ chain_from other n
chain_agree last other n same = λ k. record { writers = writers 0 n (λ i low high. same i (omega arith)) k; values = values 0 n (λ i low high. same i (omega arith)) k }
  where
    writers : (a m : ℕ) → ((i : ℕ) → a ≤ i → i < a + m → last i ≡ other i) → filter (λ i. is_some (last i)) (range_with_len a m) ≡ filter (λ i. is_some (other i)) (range_with_len a m)
    writers a zero agree = refl
    writers a (suc m) agree =
        ap (λ o. cond (is_some o) (a ∷ filter (λ i. is_some (last i)) (range_with_len (a + 1) m)) (filter (λ i. is_some (last i)) (range_with_len (a + 1) m))) (agree a (omega arith) (omega arith))
        ∙ ap (λ l. cond (is_some (other a)) (a ∷ l) l) (writers (a + 1) m (λ i low high. agree i (omega arith) (omega arith)))

    values : (a m : ℕ) → ((i : ℕ) → a ≤ i → i < a + m → last i ≡ other i) → filter_map last (range_with_len a m) ≡ filter_map other (range_with_len a m)
    values a zero agree = refl
    values a (suc m) agree =
        ap (λ o. cons_option o (filter_map last (range_with_len (a + 1) m))) (agree a (omega arith) (omega arith)) ∙ ap (cons_option (other a)) (values (a + 1) m (λ i low high. agree i (omega arith) (omega arith)))
