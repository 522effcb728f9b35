use Rattle.std.proofs.Common.{◌-◌, ◌∙◌, sym, arith}
use Rattle.esr_cert.proofs.Steps.{linked_end}
use Rattle.esr_cert.proofs.shape.are_linked.Goals as goal

pub returns : goal.returns
returns c = sym (sym c.loop-i.invariant ∙ linked_end c.args.before.now c.args.writers.now (c.loop-i.i - 1) (omega arith))
