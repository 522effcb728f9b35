use Rattle.std.proofs.Common.{◌++◌, ◌∷◌, [], List, map, take, ap, ◌∙◌, sym, subst, All}
use Rattle.std.proofs.lemmas.List.{map-append, take_more}
use Rattle.std.proofs.lemmas.List.Elements.{All-push}
use Rattle.esr_base.specs.declared.numbers.TxnId.{TxnId}
use Rattle.esr_audit.specs.Findings.{IsFinding, IsFindingOf, Finding}
use Rattle.esr_audit.proofs.audit.findings_of.Goals as goal

pub loop-q-preserved : goal.loop-q-preserved
loop-q-preserved g c =
    let f = c.in_ok-finding.finding in
    let new = c.in-Ok.ensures.items in (
      ap (map (λ (f : Finding). f.query)) new
          ∙ map-append (λ (f : Finding). f.query) c.loop-q.findings.items (f ∷ [])
          ∙ ap (λ (qs : List TxnId). qs ++ f.query ∷ []) c.loop-q.invariant.0
          ∙ ap (λ (q : TxnId). take c.loop-q.q-index c.args.queries.now ++ q ∷ []) c.in_ok-finding.ensures.query
          ∙ sym (take_more c.args.queries.now c.loop-q.q-index (record { 0 = 0 }) c.loop-q-test.true),
      subst (All (IsFinding g.M.Metric.distance_by c.args.history.now.schedule)) (sym new)
          (All-push (IsFinding g.M.Metric.distance_by c.args.history.now.schedule) c.loop-q.findings.items f c.loop-q.invariant.1
          (subst (λ (q : TxnId). IsFindingOf g.M.Metric.distance_by c.args.history.now.schedule q.0 f) (sym c.in_ok-finding.ensures.query) c.in_ok-finding.ensures.finding)),
    )
