use Rattle.std.proofs.Common.{◌≡◌, ◌∙◌, ◌≤◌, ap, map, subst, sym, length, All, IsTrue}
use Rattle.std.proofs.lemmas.List.{length-map}
use Rattle.esr_base.specs.declared.numbers.TxnId.{TxnId}
use Rattle.esr_history.specs.Machine.{accepted_in}
use Rattle.esr_history.specs.Operations.{commit_order}
use Rattle.esr_history.specs.Queries.{is_committed_query}
use Rattle.esr_audit.specs.Findings.{committed_queries}
use Rattle.esr_audit.proofs.Committed.{updates_are, queries_are, queries_committed, bounded_queries}
use Rattle.esr_audit.proofs.commits.commit_lists.Goals as goal

pub returns : goal.returns
returns g c =
    let d = g.M.Metric.distance_by in let h = c.args.history.now.schedule in
    let legal = c.log-invariant.ensures.legal in let txns = c.in_ok-txns.txns.items in let lists = c.in_ok-lists.lists in
    let numbers = map (λ (t : TxnId). t.0) in
    let are : map (λ (t : TxnId). t.0) txns ≡ commit_order (accepted_in h) = c.in_ok-txns.ensures in
    let queries : map (λ (t : TxnId). t.0) lists.queries.items ≡ committed_queries h =
    ap numbers c.in_ok-lists.ensures.queries ∙ queries_are d h legal txns are in
    let count : length lists.queries.items ≡ length (committed_queries h) = sym (length-map lists.queries.items (λ (t : TxnId). t.0)) ∙ ap length queries in record {
      all = ap numbers c.in_ok-lists.ensures.all ∙ are;
      updates = ap numbers c.in_ok-lists.ensures.updates ∙ updates_are d h legal txns are;
      queries = queries;
      committed = subst (All (λ (t : TxnId). IsTrue (is_committed_query h t.0))) (sym c.in_ok-lists.ensures.queries) (queries_committed d h legal txns are);
      count_within_max = subst (λ n. n ≤ 65535) (sym count ∙ sym lists.queries.ok.0) (bounded_queries d h legal);
    }
