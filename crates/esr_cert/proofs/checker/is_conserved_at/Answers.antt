use Rattle.std.proofs.Common.{arith, ◌∙◌, ap, sym, subst}
use Rattle.esr_cert.specs.Problem.{Problem}
use Rattle.esr_cert.specs.Certificate.{Certificate, amounts}
use Rattle.esr_cert.specs.Adjacency.{row_in, span_at}
use Rattle.esr_cert.specs.ChainStarts.{AreChainStarts}
use Rattle.esr_cert.specs.FlowConservation.{is_balanced}
use Rattle.esr_cert.specs.Views.{certificate_of}
use Rattle.esr_cert.proofs.Sound.{facts}
use Rattle.esr_cert.proofs.Certified.{matched}
use Rattle.esr_cert.proofs.ChainStartsLaws.{are_starts}
use Rattle.esr_cert.proofs.FlowConservation.{balanced_at}
use Rattle.esr_cert.proofs.checker.is_conserved_at.Goals as goal

pub is_balanced-requires : goal.is_balanced-requires
is_balanced-requires c =
    let p : Problem = c.args.problem.now in
    let q : Certificate = certificate_of c.args.certificate.now in
    record { chain_starts = subst (λ chain_starts. AreChainStarts chain_starts q.chain_flow) (sym c.chain_starts.ensures.list) (are_starts p (facts p c.adjacency-adjacency.ensures.well_formed) q (matched p q c.requires.within)) }

pub returns : goal.returns
returns c =
    let p : Problem = c.args.problem.now in
    let q : Certificate = certificate_of c.args.certificate.now in
    let row = c.adjacency-adjacency.ensures.adjacency.rows.row c.args.v (omega (arith, c.requires.update)) in
    c.is_balanced.ensures
    ∙ ap (is_balanced (amounts q)) (c.row.ensures ∙ ap (λ steps. row_in steps (span_at c.adjacency-adjacency.result.now.spans.items c.args.v)) c.deref.ensures.value ∙ row)
    ∙ balanced_at p (facts p c.adjacency-adjacency.ensures.well_formed) q (matched p q c.requires.within) c.args.v
