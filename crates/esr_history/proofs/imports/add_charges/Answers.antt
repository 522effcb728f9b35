use Rattle.std.proofs.Common.{◌≡◌, ◌+◌, ◌<◌, ◌≤◌, ◌^◌, ℕ, length, take, get_or, ap, refl, arith, slice_index_or, ◌==◌, if◌then◌else◌, eq-eqb}
use Rattle.std.proofs.lemmas.List.Sums.{sum_by_more, sum_by-take-le}
use Rattle.esr_history.specs.Events.{TxnId}
use Rattle.esr_history.specs.Imports.{imported}
use Rattle.esr_history.proofs.imports.add_charges.Goals as goal

pub overflow_add-imports : goal.overflow_add-imports
overflow_add-imports c =
    let cs = c.args.charges.now in
    let i = c.loop-charge.charge-index in
    let none : TxnId × ℕ = (record { 0 = 0 }, 0) in
    let charge : TxnId × ℕ = get_or cs i none in
    let t = charge.0.0 in
    let f = λ (g : TxnId × ℕ). if g.0.0 == t then g.1 else 0 in
    let inside : t < length c.args.imports.now = omega (arith, c.loop-charge.invariant.0, c.if-t-imports.true) in
    let here : f charge ≡ charge.1 = ap (λ b. if b then charge.1 else 0) (eq-eqb t t refl) in
    let more : imported (take (i + 1) cs) t ≡ imported (take i cs) t + f charge = sum_by_more f cs i none c.loop-charge-test.true in
    let part : imported (take (i + 1) cs) t ≤ imported cs t = sum_by-take-le f cs (i + 1) in
    let so_far : slice_index_or c.loop-charge.imports t 0 ≡ slice_index_or c.args.imports.now t 0 + imported (take i cs) t = c.loop-charge.invariant.1 t inside in
    let fits : slice_index_or c.args.imports.now t 0 + imported cs t < 2 ^ 64 = c.requires t in
    omega (arith, here, more, part, so_far, fits)
