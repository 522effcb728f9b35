use Rattle.std.proofs.Common.{arith, ◌-◌}
use Rattle.esr_cert.proofs.Steps.{ascending_end}
use Rattle.esr_cert.proofs.lists.is_strictly_ascending.Goals as goal

pub returns : goal.returns
returns c =
    let e = ascending_end c.args.numbers.now (c.loop-i.i - 1) (omega arith) in
    cc
