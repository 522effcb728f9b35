use Rattle.std.proofs.Common.{rules, arith, ◌≡◌, ◌+◌, ◌++◌, [], ◌∷◌, List, take, get_or, get_or-set_other, None, Some, sym, ◌∙◌, subst, Option, IfSome}
use Rattle.std.specs.List.{AllZip}
use Rattle.std.proofs.lemmas.List.{take_more, take_all, get_or_default}
use Rattle.esr_base.specs.declared.numbers.TxnId.{TxnId}
use Rattle.esr_board.specs.Shares.{IsKeptOf, query_of}
use Rattle.esr_board.proofs.Keeping.{all_zip_push}
use Rattle.esr_board.proofs.parallel.unwrap_slots.Goals as goal

pub loop-k-preserved : goal.loop-k-preserved
loop-k-preserved g c = let was = c.loop-k.invariant in let k = c.loop-k.k in let x = c.in-Some.one in
    let P = IsKeptOf g.T.AuditResult.keeps g.M.Metric.distance_by c.args.history.now.schedule in let q = c.args.jobs.now in
    let same : get_or c.loop-k.slots.items k None ≡ get_or c.args.slots.items k None = was.rest k (omega arith) in
    let there : get_or c.loop-k.slots.items k None ≡ Some x = get_or_default c.loop-k.slots.items k None c.index_mut.result.now (search rules) ∙ sym c.index_mut.ensures.value ∙ sym c.in-Some.ensures.value in
    let here : get_or c.args.slots.items k None ≡ Some x = sym same ∙ there in
    let more : c.push.new.self.items ≡ c.loop-k.kept.items ++ x ∷ [] = search rules in
    let is : P (query_of q k) x = subst (λ (o : Option g.row.T.Denot). IfSome o (P (query_of q k))) here (c.requires.right k (search rules)) in
    let jobs : take (k + 1) q ≡ take k q ++ query_of q k ∷ [] = take_more q k (record { 0 = 0 }) (search rules) in record {
      len = search rules;
      rest = (λ j l. let ne : ¬ (j ≡ k) = λ e. omega arith in get_or-set_other c.loop-k.slots.items k j c.take.new.self None ne ∙ was.rest j (omega arith));
      kept = subst (λ (qs : List TxnId). AllZip P qs c.push.new.self.items) (sym jobs) (subst (λ (xs : List g.row.T.Denot). AllZip P (take k q ++ query_of q k ∷ []) xs) (sym more) (all_zip_push P (take k q) c.loop-k.kept.items (query_of q k) x was.kept is));
    }

pub returns-clause-kept : goal.returns-clause-kept
returns-clause-kept g c = subst (λ (qs : List TxnId). AllZip (IsKeptOf g.T.AuditResult.keeps g.M.Metric.distance_by c.args.history.now.schedule) qs c.loop-k.kept.items) (take_all c.loop-k.k c.args.jobs.now (search rules)) c.loop-k.invariant.kept
