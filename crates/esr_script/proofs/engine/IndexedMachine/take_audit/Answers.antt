use Rattle.std.proofs.Common.{rules, ◌≡◌}
use Rattle.esr_items.specs.Weights.{weighted}
use Rattle.esr_script.proofs.Kept.{taken}
use Rattle.esr_script.proofs.engine.IndexedMachine.take_audit.Goals as goal
use Rattle.esr_script.proofs.engine.IndexedMachine.take_audit.Goals.{then-eq, else-eq}

pub returns-clause-summary : goal.returns-clause-summary
returns-clause-summary c = elim c.if-eq.branch [
  | then-eq w ↦
      let same : c.in_ok-audit.audit.query.0 ≡ c.args.q.0 = search rules in
      rw w.result-is (taken weighted c.self.inside.machine c.args.self.now c.args.q.0 c.self.inside.last_audit c.in_ok-audit.audit
      c.in_ok-audit.ensures.value c.self.invariant.1 c.history-history.ensures.legal c.self.view_is same).1
  | else-eq w ↦ rw w.result-is tt
]

pub returns-clause-committed : goal.returns-clause-committed
returns-clause-committed c = elim c.if-eq.branch [
  | then-eq w ↦
      let same : c.in_ok-audit.audit.query.0 ≡ c.args.q.0 = search rules in
      rw w.result-is (taken weighted c.self.inside.machine c.args.self.now c.args.q.0 c.self.inside.last_audit c.in_ok-audit.audit
      c.in_ok-audit.ensures.value c.self.invariant.1 c.history-history.ensures.legal c.self.view_is same).0
  | else-eq w ↦ rw w.result-is tt
]
