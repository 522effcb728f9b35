use Rattle.esr_least.proofs.query.of_least.Goals as goal

pub returns : goal.returns
returns g c = λ i. (c.args.q.0, c.requires.0 i, c.import.ensures i, c.requires.1 i)
