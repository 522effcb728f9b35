use Rattle.std.proofs.Common.{sym, arith}
use Rattle.esr_grammar.specs.Stops.{is_stop}
use Rattle.esr_grammar.proofs.Lanes.{first_passes, first_within}
use Rattle.esr_grammar.proofs.quick.front_name_in.Goals as goal

pub cut_name-requires-clause-first : goal.cut_name-requires-clause-first
cut_name-requires-clause-first c =
    let are = c.requires in
    sym (first_passes is_stop are.0 c.args.bytes.now c.args.stops (omega (arith, are.1)) are.2 are.3 c.if-stops-eq0.false)

pub cut_name-requires-clause-short : goal.cut_name-requires-clause-short
cut_name-requires-clause-short c =
    let are = c.requires in
    omega (arith, are.1, first_within is_stop are.0 c.args.bytes.now c.args.stops (omega (arith, are.1)) are.2 are.3 c.if-stops-eq0.false)
