use Rattle.esr_script.specs.Stages.{is_running, history_of}
use Rattle.esr_script.proofs.Answering.{found_of}
use Rattle.esr_script.proofs.script.Script.find.Goals as goal
use Rattle.esr_script.proofs.script.Script.find.Goals.{in-Ok, in-Err}

pub returns-clause-found : goal.returns-clause-found
returns-clause-found c = elim c.match-audit.branch [
  | in-Ok w ↦
      let found = w.in-Ok.ensures in
      rw w.result-is (found_of c.args.self.now c.self.inside.items c.self.inside.transactions (is_running c.self.inside.stage) (history_of c.self.inside.stage) (history_of c.ensure_started.new.self)
      c.args.name.now c.transaction-q.result c.self.view_is c.in_ok-ensure_started.ensures.ok.1 c.transaction-q.ensures
      w.in-Ok.found found.query found.committed found.distance found.import found.before found.shown found.relevant)
  | in-Err w ↦ rw w.result-is tt
]
