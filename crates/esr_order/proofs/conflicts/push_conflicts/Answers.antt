use Rattle.std.proofs.Common.{◌≡◌, ℕ, ◌+◌, ◌-◌, [], ◌∷◌, ◌++◌, Bool, true, false, cond, eqb, drop, get_or, reverse, refl, sym, ap, ◌∙◌, append_assoc, arith}
use Rattle.std.proofs.lemmas.List.{drop_more, reverse-append}
use Rattle.esr_order.specs.Conflicts.{pair_of, pairs_from}
use Rattle.esr_order.proofs.conflicts.push_conflicts.Goals as goal

at_most_one : (b : Bool) (e : ℕ × ℕ) → reverse (cond b [] (e ∷ [])) ≡ cond b [] (e ∷ [])
at_most_one true e = refl
at_most_one false e = refl

pub loop-k-preserved : goal.loop-k-preserved
loop-k-preserved c =
    let i = c.args.i in
    let others = c.args.others.now in
    let k = c.loop-k.k - 1 in
    let j = get_or others k 0 in
    let next : k + 1 ≡ c.loop-k.k = omega (arith, c.loop-k-test.true) in
    let here : drop k others ≡ j ∷ drop c.loop-k.k others = drop_more others k 0 (omega (arith, c.loop-k-test.true, c.loop-k.auto.k)) ∙ ap (λ n. j ∷ drop n others) next in
    c.in_ok-conflict.ensures ∙ ap (λ l. l ++ pair_of i j) c.loop-k.invariant ∙ append_assoc c.args.pairs.now.items (reverse (pairs_from i (drop c.loop-k.k others))) (pair_of i j)
    ∙ ap (λ l. c.args.pairs.now.items ++ l) (
    ap (λ l. reverse (pairs_from i (drop c.loop-k.k others)) ++ l) (sym (at_most_one (eqb i j) (i, j)))
    ∙ sym (reverse-append (pair_of i j) (pairs_from i (drop c.loop-k.k others)))
    ∙ ap (λ l. reverse (pairs_from i l)) (sym here))
