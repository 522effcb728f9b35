use Rattle.std.proofs.Common.{arith, ◌∙◌, length, ap}
use Rattle.esr_cert.proofs.ArcsLaws.{count_is, arcs_are}
use Rattle.esr_cert.proofs.arcs.Arcs.len.Goals as goal

pub bounds-self-inside-self-inside : goal.bounds-self-inside-self-inside
bounds-self-inside-self-inside c = omega (arith, count_is c.self.inside.updates.now c.self.inside.before.now c.self.inside.chains.now c.self.inside.must.now c.self.invariant.0 c.self.inside.chain_starts.now c.self.invariant.1)

pub returns : goal.returns
returns c = arcs_are c.self.inside.updates.now c.self.inside.before.now c.self.inside.chains.now c.self.inside.must.now c.self.invariant.0 c.self.inside.chain_starts.now c.self.invariant.1 ∙ ap length c.self.view_is
