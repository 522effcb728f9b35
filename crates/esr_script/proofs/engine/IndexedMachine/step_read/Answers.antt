use Rattle.esr_script.proofs.engine.IndexedMachine.step_read.Goals as goal

pub returns-in-Read-clause-reply : goal.returns-in-Read-clause-reply
returns-in-Read-clause-reply c = rw (c.in-Read.is, ← c.self.view_is) c.read.ensures.reply
