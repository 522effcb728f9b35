use Rattle.std.proofs.Common.{◌∙◌, ap}
use Rattle.esr_engine.specs.Carrying.{carried_entry}
use Rattle.esr_engine.proofs.CarriedParts.{passed, pushed}
use Rattle.esr_engine.proofs.engine.EmbeddedEngine.push_entries.Goals.{in-Some+in_ok-push-in-Some, in-None}
use Rattle.esr_engine.proofs.engine.EmbeddedEngine.push_entries.Goals as goal

pub loop-i-preserved : goal.loop-i-preserved
loop-i-preserved c =
    elim c.match-carried_entry.branch [
      | in-Some+in_ok-push-in-Some w ↦
          pushed (carried_entry c.args.self.now c.args.kind) c.args.operations.now c.loop-i.i c.operation.result c.args.entries.now.items c.loop-i.entries.items _ w.in-Some.entry
          c.operation.ensures.entry w.in-Some.ensures c.loop-i.invariant (ap (λ v. v.items) w.entries-is ∙ w.in_ok-push-in-Some.ensures.items)
      | in-None w ↦
          ap (λ v. v.items) w.entries-is ∙ passed (carried_entry c.args.self.now c.args.kind) c.args.operations.now c.loop-i.i c.operation.result c.args.entries.now.items c.loop-i.entries.items
          c.operation.ensures.entry w.in-None.ensures c.loop-i.invariant
    ]
