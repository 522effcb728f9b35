use Rattle.std.proofs.Common.{rules, ◌≡◌, ◌∙◌, ap, map, List, [], ◌∷◌, refl}
use Rattle.esr_base.specs.declared.numbers.TxnId.{TxnId}
use Rattle.esr_audit.specs.Findings.{committed_queries, Finding}
use Rattle.esr_audit.proofs.SummaryLaws.{all_summaries}
use Rattle.esr_audit.proofs.audit.compute_book.Goals as goal

mapped_twice : {X Y Z : Type 0} (f : Y → Z) (h : X → Y) (xs : List X) → map (λ (x : X). f (h x)) xs ≡ map f (map h xs)
mapped_twice f h [] = refl
mapped_twice f h (x ∷ xs) = ap (λ zs. f (h x) ∷ zs) (mapped_twice f h xs)

pub returns-clause-book : goal.returns-clause-book
returns-clause-book g c =
    let h = c.args.history.now.schedule in
    let fs = c.in_ok-findings.findings.items in
    let listed : map (λ (t : TxnId). t.0) (map (λ (f : Finding). f.query) fs) ≡ committed_queries h = search rules in
    let queries : map (λ (f : Finding). f.query.0) fs ≡ committed_queries h = mapped_twice (λ (t : TxnId). t.0) (λ (f : Finding). f.query) fs ∙ listed in record {
      order = search rules;
      queries = queries;
      found = c.in_ok-findings.ensures.findings;
      of_findings = refl;
      summaries = all_summaries g.M.Metric.distance_by h fs (committed_queries h) c.in_ok-findings.ensures.findings queries;
    }
