use Rattle.esr_script.specs.Stages.{is_running, history_of}
use Rattle.esr_script.proofs.Answering.{audit_of}
use Rattle.esr_script.proofs.script.Script.summarize.Goals as goal
use Rattle.esr_script.proofs.script.Script.summarize.Goals.{in-Ok, in-Err}

pub returns-clause-audit : goal.returns-clause-audit
returns-clause-audit c = elim c.match-summarize.branch [
  | in-Ok w ↦
      let made = w.in-Ok.ensures in
      rw w.result-is (audit_of c.args.self.now c.self.inside.items c.self.inside.transactions (is_running c.self.inside.stage) (history_of c.self.inside.stage) (history_of c.ensure_started.new.self)
      c.args.name.now c.transaction-q.result c.self.view_is c.in_ok-ensure_started.ensures.ok.1 c.transaction-q.ensures
      w.in-Ok.audit made.committed made.summary made.stable)
  | in-Err w ↦ rw w.result-is tt
]
