use Rattle.std.proofs.Common.{◌≡◌, ◌-◌, ◌++◌, length, length-append, map, ap, ◌∙◌, arith}
use Rattle.std.proofs.lemmas.Simd.{pick_l_whole, length-chunk}
use Rattle.esr_grammar.specs.Stops.{is_stop}
use Rattle.esr_grammar.proofs.Halves.{both_halves}
use lib.Lanes.{chunk, mask_l}
use Rattle.esr_grammar.proofs.quick.short_stops.Goals as goal

pub returns : goal.returns
returns c =
    let bytes = c.args.bytes.now in
    let first = chunk 0 8 bytes in
    let last = chunk (length bytes - 8) 8 bytes in
    let size : length (first ++ last) ≡ 16 =
    omega (arith, length-append first last, length-chunk 0 8 bytes (omega (arith, c.requires.long)), length-chunk (length bytes - 8) 8 bytes (omega (arith, c.requires.long))) in
    both_halves is_stop bytes c.name_stops-stops.result c.requires.long c.requires.short (c.name_stops-stops.ensures ∙ ap (λ l. mask_l (map is_stop l)) (pick_l_whole 0 (first ++ last) 16 size))
