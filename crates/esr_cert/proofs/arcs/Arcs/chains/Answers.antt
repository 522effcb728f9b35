use Rattle.std.proofs.Common.{arith, sym, subst, refl, length}
use Rattle.std.proofs.lemmas.List.{length-map}
use Rattle.esr_cert.specs.ChainArcs.{HaveChainArcs}
use Rattle.esr_cert.specs.Views.{problem_of}
use Rattle.esr_cert.proofs.ArcsLaws.{updates_bounded}
use Rattle.esr_cert.proofs.ChainArcsLaws.{have_links}
use Rattle.esr_cert.proofs.arcs.Arcs.chains.Goals as goal

pub overflow_cast-source : goal.overflow_cast-source
overflow_cast-source c = omega (arith, updates_bounded c.self.inside.updates.now c.self.inside.before.now c.self.inside.chains.now c.self.inside.must.now c.self.invariant.0 c.self.inside.chain_starts.now c.self.invariant.1)

pub returns-clause-chain_arcs : goal.returns-clause-chain_arcs
returns-clause-chain_arcs c =
    subst (λ arcs. HaveChainArcs arcs (length c.self.inside.updates.now) c.self.inside.chains.now) c.self.view_is
    (have_links (problem_of c.self.inside.updates.now c.self.inside.before.now c.self.inside.chains.now c.self.inside.must.now) c.self.invariant.0 c.self.inside.chains.now refl (length c.self.inside.updates.now)
    (sym (length-map c.self.inside.updates.now (λ t. t.0))))

pub returns-clause-source_within_max : goal.returns-clause-source_within_max
returns-clause-source_within_max c = omega (arith, updates_bounded c.self.inside.updates.now c.self.inside.before.now c.self.inside.chains.now c.self.inside.must.now c.self.invariant.0 c.self.inside.chain_starts.now c.self.invariant.1)
