use Rattle.std.proofs.Common.{ℕ, ◌+◌, ◌-◌, ◌%◌, leb, cond, bit_and, bit_or, refl, arith}
use Rattle.esr_grammar.specs.Stops.{is_stop}
use Rattle.esr_grammar.proofs.Lanes.{both, splat, itself, mask_is}
use Rattle.esr_grammar.proofs.quick.name_stops.Goals as goal

at_least : ℕ → ℕ → ℕ
at_least a b = cond (leb a b) 255 0

less : ℕ → ℕ → ℕ
less a b = (a + (256 - b)) % 256

pub returns : goal.returns
unfolding at_least less
returns g c =
    let v = c.args.bytes in
    let n = g.row.N in
    let long = c.fits-bytes.0 in
    mask_is _ is_stop v _ (omega (arith, c.requires, long)) c.fits-bytes.1
    (both bit_and _ _ v
    (both bit_and _ _ v
    (both at_least _ _ v (splat 26 n v long) (both less _ _ v (both bit_or _ _ v (itself v) (splat 32 n v long)) (splat 97 n v long)))
    (both at_least _ _ v (splat 10 n v long) (both less _ _ v (itself v) (splat 48 n v long))))
    (both _ _ _ v (itself v) (splat 95 n v long)))
    refl
