use Rattle.std.proofs.Common.{◌≤◌, length, sym, arith}
use Rattle.esr_report.specs.Keyed.{IsKeyOf}
use Rattle.esr_report.proofs.names.Names.number_of_uncached.Goals as goal

pub returns-in-Some : goal.returns-in-Some
returns-in-Some c =
    let short : length c.args.name.now ≤ 16 = omega (arith, c.in-Some.ensures.short, c.key_of-key.ensures.length) in
    let key : IsKeyOf c.key_of-key.result c.args.name.now = record { short = short; bytes = λ i. omega (arith, c.type_inv.name i); low = c.key_of-key.ensures.low; high = c.key_of-key.ensures.high; length = c.key_of-key.ensures.length } in
    sym (c.in-Some.ensures.position c.args.name.now key)

pub returns-in-None : goal.returns-in-None
returns-in-None c = c.search.ensures
