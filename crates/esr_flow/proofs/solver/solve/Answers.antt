use Rattle.std.proofs.Common.{◌≤◌, List, ℕ, sym, subst}
use Rattle.esr_cert.specs.declared.range.TheConstants.{MAX_COST}
use Rattle.esr_cert.specs.Network.{Network}
use Rattle.esr_cert.specs.Flow.{IsFlow, worth}
use Rattle.esr_cert.proofs.Sound.{facts}
use Rattle.esr_flow.specs.Maximum.{HasLimit}
use Rattle.esr_flow.proofs.Smallest.{worth_small}
use Rattle.esr_flow.proofs.SolveLaws.{has_limit}
use Rattle.esr_flow.proofs.solver.solve.Goals as goal

pub find_maximum-requires-clause-small : goal.find_maximum-requires-clause-small
find_maximum-requires-clause-small c =
    subst (λ (net : Network). (f : List ℕ) → IsFlow net f → worth net f ≤ MAX_COST) (sym c.args.net.now.same) (worth_small c.args.net.now.problem.now (facts c.args.net.now.problem.now c.args.net.now.well_formed))

pub find_maximum-requires-clause-limited : goal.find_maximum-requires-clause-limited
find_maximum-requires-clause-limited c = subst HasLimit (sym c.args.net.now.same) (has_limit c.args.net.now.problem.now (facts c.args.net.now.problem.now c.args.net.now.well_formed))
