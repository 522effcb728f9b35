use Rattle.std.proofs.Common.{rules, ◌≡◌, []}
use Rattle.esr_drive.proofs.Tasks.{all_before, last_of, all_more, tasks_more}
use Rattle.esr_drive.proofs.blocks.tasks_of.Goals as goal

pub loop-i-preserved : goal.loop-i-preserved
loop-i-preserved g c =
    let inv = c.loop-i.invariant in
    let popped = c.in-Some.ensures.items in (
      search rules,
      search rules,
      search rules,
      all_before (λ session. session ≡ []) c.loop-i.sessions.items c.pop.new.self.items c.in-Some.session popped inv.3,
      all_more (λ task. task.session ≡ []) c.loop-i.tasks.items c.push_reserved.new.self.items _ c.push_reserved.ensures.items inv.4 (last_of (λ session. session ≡ []) c.loop-i.sessions.items c.pop.new.self.items c.in-Some.session popped inv.3),
      tasks_more (λ task. task.calls.now) c.loop-i.tasks.items c.push_reserved.new.self.items _ c.args.blocks.now c.loop-i.i c.index-blocks-i.result c.push_reserved.ensures.items inv.5 c.loop-i-test.true c.index-blocks-i.is c.as_slice.ensures.value,
    )
