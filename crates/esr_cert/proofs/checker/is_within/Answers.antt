use Rattle.std.proofs.Common.{◌≡◌, ◌∙◌, ◌&&◌, eqb, sym, ap, length, arith, eq-eqb}
use Rattle.esr_cert.specs.Capacities.{are_rows_within}
use Rattle.esr_cert.specs.Views.{rows_of, certificate_of}
use Rattle.esr_cert.proofs.Sound.{facts}
use Rattle.esr_cert.proofs.Within.{within_rows}
use Rattle.esr_cert.proofs.checker.is_within.Goals as goal

pub returns-then-not-are_rows_within : goal.returns-then-not-are_rows_within
returns-then-not-are_rows_within c =
    let p = c.args.problem.now in
    let q = certificate_of c.args.certificate.now in
    let rows : c.are_rows_within.result ≡ are_rows_within p.chains q.chain_flow =
    c.are_rows_within.ensures ∙ ap (λ chains. are_rows_within chains (rows_of c.deref.result.now)) c.chains.ensures.list ∙ ap (λ rows. are_rows_within p.chains (rows_of rows)) c.deref.ensures.value in
    sym (within_rows p (facts p c.chains.ensures.well_formed) q ∙ ap (λ b. b && eqb (length q.back_flow) (length p.before) && eqb (length q.must_flow) (length p.must)) (sym rows ∙ c.if-not-are_rows_within.true))

pub returns : goal.returns
returns c =
    let p = c.args.problem.now in
    let q = certificate_of c.args.certificate.now in
    let rows : c.are_rows_within.result ≡ are_rows_within p.chains q.chain_flow =
    c.are_rows_within.ensures ∙ ap (λ chains. are_rows_within chains (rows_of c.deref.result.now)) c.chains.ensures.list ∙ ap (λ rows. are_rows_within p.chains (rows_of rows)) c.deref.ensures.value in
    let backs : length q.back_flow ≡ length p.before = omega (arith, c.if-len-before.false, c.len.ensures, c.args.certificate.now.back_flow.ok.0, ap length c.before-2.ensures.list) in
    let musts : c.len-2.result ≡ length q.must_flow = omega (arith, c.len-2.ensures, c.args.certificate.now.must_flow.ok.0) in
    sym (
    within_rows p (facts p c.chains.ensures.well_formed) q
    ∙ ap (λ b. b && eqb (length q.back_flow) (length p.before) && eqb (length q.must_flow) (length p.must)) (sym rows ∙ c.if-not-are_rows_within.false)
    ∙ ap (λ b. b && eqb (length q.must_flow) (length p.must)) (eq-eqb (length q.back_flow) (length p.before) backs)
    ∙ ap (λ n. eqb n (length p.must)) (sym musts)
    ∙ ap (λ must. eqb c.len-2.result (length must)) (sym c.must.ensures.list)
    )
