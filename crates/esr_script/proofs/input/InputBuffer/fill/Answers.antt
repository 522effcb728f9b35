use Rattle.std.proofs.Common.{refl, ◌∙◌, arith}
use Rattle.esr_script.proofs.Buffers.{has_capacity, kept, filled}
use Rattle.esr_script.proofs.input.InputBuffer.fill.Goals as goal

pub returns-in-Ok-clause-ok : goal.returns-in-Ok-clause-ok
returns-in-Ok-clause-ok g c = grind (arith, filled, has_capacity)

pub returns-in-Err-clause-err : goal.returns-in-Err-clause-err
returns-in-Err-clause-err g c =
    let inv = c.self.invariant in
    let turned = c.deref_mut.ensures.value ∙ c.copy_within.ensures.items in
    (refl, kept c.self.inside.buffer.items c.deref_mut.result.now _ c.self.inside.start c.self.inside.end _ inv.0 inv.1 c.self.view_is turned (c.copy_within.ensures.len ∙ c.self.inside.buffer.ok.0) c.read.new.buf c.copy_within.new.self.items c.read.auto.buf, c.in-Err.ensures.bytes)
