use Rattle.std.proofs.Common.{◌≡◌, ◌+◌, ◌-◌, ◌&&◌, ◌∙◌, sym, ap, drop, get_or, true, refl, arith}
use Rattle.esr_cert.specs.Problem.{are_pairs_ascending, pair_lt}
use Rattle.esr_cert.proofs.Steps.{pairs_ascending_end, pairs_ascending_step}
use Rattle.esr_cert.proofs.shape.are_pairs_ascending.Goals as goal

pub returns : goal.returns
returns c = sym (sym c.loop-i.invariant ∙ pairs_ascending_end c.args.pairs.now (c.loop-i.i - 1) (omega arith))

pub loop-i-preserved : goal.loop-i-preserved
loop-i-preserved c =
    let xs = c.args.pairs.now in
    let i = c.loop-i.i in
    let step = pairs_ascending_step xs (i - 1) i (get_or xs (i - 1) (0, 0)) (get_or xs i (0, 0)) (omega arith) (omega arith) refl refl in
    let here : pair_lt (get_or xs (i - 1) (0, 0)) (get_or xs i (0, 0)) ≡ true = sym c.pair_lt.ensures ∙ c.if-not-pair_lt.false in
    let z : are_pairs_ascending (drop (i - 1) xs) ≡ are_pairs_ascending (drop i xs) = step ∙ ap (λ b. b && are_pairs_ascending (drop i xs)) here in
    let same : i + 1 - 1 ≡ i = omega arith in
    rw same (sym z ∙ c.loop-i.invariant)
