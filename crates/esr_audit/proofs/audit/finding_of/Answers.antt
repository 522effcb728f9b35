use Rattle.std.proofs.Common.{◌≡◌, ◌∙◌, sym, subst, refl, ap, ℕ, map, filter_map, slice_get}
use Rattle.esr_base.specs.declared.numbers.TxnId.{TxnId}
use Rattle.esr_history.proofs.Laws.{import_bounds_distance}
use Rattle.esr_cert.specs.Views.{certificate_of}
use Rattle.esr_audit.specs.Findings.{IsAnswer}
use Rattle.esr_audit.proofs.Found.{answer_from, found_of}
use Rattle.esr_audit.proofs.audit.finding_of.Given.{Over}
use Rattle.esr_audit.proofs.audit.finding_of.Goals as goal

found : (g : Over) (c : goal.In_ok-before g) → map (λ (t : TxnId). t.0) c.in_ok-before.before.items ≡ filter_map (slice_get c.in_ok-problem.problem.updates) c.in_ok-certificate.certificate.set.items
found g c = found_of c.in_ok-problem.problem c.updates.result.now c.in_ok-before.before.items c.updates.ensures.list c.in_ok-certificate.certificate.set.items (c.in_ok-before.ensures ∙ ap (filter_map (slice_get c.updates.result.now)) c.deref.ensures.value)

answer : (g : Over) (c : goal.In_ok-before g) → IsAnswer g.M.Metric.distance_by c.args.history.now.schedule c.args.q.0 c.in_ok-certificate.certificate.worth c.import-import.result (map (λ (t : TxnId). t.0) c.in_ok-before.before.items)
answer g c =
    let d = g.M.Metric.distance_by in
    let h = c.args.history.now.schedule in
    let legal = c.log-invariant.ensures.legal in
    let bound = import_bounds_distance d (λ w. record { same = g.met.M.Metric.same w; symmetric = g.met.M.Metric.symmetric w; triangle = g.met.M.Metric.triangle w }) h legal in
    let a = answer_from d h c.args.q.0 c.log-invariant.ensures.range legal c.in_ok-problem.problem (certificate_of c.in_ok-certificate.certificate) c.in_ok-problem.ensures.is_problem c.updates.ensures.well_formed c.in_ok-certificate.ensures.certifies bound c.requires.committed_query c.in_ok-certificate.ensures.least in
    subst (λ (n : ℕ). IsAnswer d h c.args.q.0 c.in_ok-certificate.certificate.worth n (map (λ (t : TxnId). t.0) c.in_ok-before.before.items)) (sym c.import-import.ensures)
    (subst (IsAnswer d h c.args.q.0 c.in_ok-certificate.certificate.worth _) (sym (found g c)) a)

pub returns-clause-finding : goal.returns-clause-finding
returns-clause-finding g c = record {
  answer = answer g c;
  shown = record { is_problem = c.in_ok-problem.ensures.is_problem; certified = c.in_ok-certificate.ensures.certifies; set_is = found g c; worth_is = refl; smallest = c.in_ok-certificate.ensures.least; without_count = c.in_ok-certificate.ensures.no_augmentation_count };
  relevant = c.in_ok-problem.ensures.relevant;
}
