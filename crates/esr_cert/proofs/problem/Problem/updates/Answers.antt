use Rattle.std.proofs.Common.{◌≡◌, ◌∙◌, true, sym, ap}
use Rattle.esr_cert.specs.Problem.{is_well_formed}
use Rattle.esr_cert.proofs.Sound.{count_within_max}
use Rattle.esr_cert.proofs.problem.Problem.updates.Goals as goal

pub returns-clause-count_within_max : goal.returns-clause-count_within_max
returns-clause-count_within_max c =
    let sound : is_well_formed c.args.self.now ≡ true = ap is_well_formed (sym c.self.view_is) ∙ c.self.invariant.0 in
    count_within_max c.args.self.now sound
