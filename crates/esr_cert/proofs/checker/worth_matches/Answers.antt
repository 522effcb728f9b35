use Rattle.std.proofs.Common.{◌≡◌, ◌+◌, ◌∙◌, ◌&&◌, eqb, sym, ap, get_or, map, sum, sum_by, arith, eq-eqb, ne_eqb}
use Rattle.std.proofs.lemmas.Bool.{and_left}
use Rattle.esr_cert.specs.Problem.{in_set, chain_cost, cost}
use Rattle.esr_cert.specs.Network.{network}
use Rattle.esr_cert.specs.Flow.{worth}
use Rattle.esr_cert.specs.Certificate.{amounts}
use Rattle.esr_cert.specs.Views.{chain_view, rows_of, certificate_of}
use Rattle.esr_cert.proofs.Sound.{facts}
use Rattle.esr_cert.proofs.Certified.{matched}
use Rattle.esr_cert.proofs.Worth.{worth_firsts}
use Rattle.esr_cert.proofs.checker.worth_matches.Goals as goal
use Rattle.esr_cert.proofs.checker.worth_matches.Goals.{After-total}

-- the outflow of the source is the sum that the function computes
flow_worth : (c : After-total) → worth (network c.args.problem.now) (amounts (certificate_of c.args.certificate.now)) ≡ c.first_amounts.result + c.total.result
flow_worth c =
    let p = c.args.problem.now in
    let q = certificate_of c.args.certificate.now in
    let firsts : c.first_amounts.result ≡ sum_by (λ row. get_or row 0 0) q.chain_flow = c.first_amounts.ensures.value ∙ ap (λ rows. sum_by (λ row. get_or row 0 0) (rows_of rows)) c.deref.ensures.value in
    let must : c.total.result ≡ sum q.must_flow = c.total.ensures.value ∙ ap sum c.deref-2.ensures.value in
    omega (arith, worth_firsts p (facts p c.chains-chains.ensures.well_formed) q (matched p q c.requires.within), firsts, must)

pub returns-then-worth-first_amounts : goal.returns-then-worth-first_amounts
returns-then-worth-first_amounts c =
    let p = c.args.problem.now in
    let q = certificate_of c.args.certificate.now in
    sym (and_left (eqb q.worth (worth (network p) (amounts q))) (eqb q.worth (cost p (in_set q.set))) (ne_eqb q.worth (worth (network p) (amounts q)) (λ (e : q.worth ≡ worth (network p) (amounts q)). c.if-worth-first_amounts.true (c.from-worth.ensures ∙ e ∙ flow_worth (goal.at.returns-then-worth-first_amounts c).After-total))))

pub returns : goal.returns
returns c =
    let p = c.args.problem.now in
    let q = certificate_of c.args.certificate.now in
    let same : q.worth ≡ worth (network p) (amounts q) = sym c.from-worth.ensures ∙ c.if-worth-first_amounts.false ∙ sym (flow_worth (goal.at.returns c).After-total) in
    let costs : c.set_cost.result ≡ cost p (in_set q.set) =
    c.set_cost.ensures ∙ ap (λ set. sum_by (chain_cost (in_set set)) (map chain_view c.chains-chains.result.now)) c.deref-3.ensures.value ∙ ap (sum_by (chain_cost (in_set q.set))) c.chains-chains.ensures.list in
    sym (
    ap (λ b. b && eqb q.worth (cost p (in_set q.set))) (eq-eqb q.worth (worth (network p) (amounts q)) same)
    ∙ ap (λ n. eqb n (cost p (in_set q.set))) (sym c.from-worth.ensures)
    ∙ ap (eqb c.from-worth.result) (sym costs)
    )
