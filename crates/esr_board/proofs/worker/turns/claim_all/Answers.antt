use Rattle.std.proofs.Common.{rules, false, sym, subst, ◌∙◌, ◌≡◌, ◌<◌, ◌++◌, [], ◌∷◌, ℕ, map, length, arith}
use Rattle.std.proofs.lemmas.List.{get_or_default}
use Rattle.esr_history.specs.Queries.{is_committed_query}
use Rattle.esr_base.specs.declared.numbers.TxnId.{TxnId}
use Rattle.esr_board.specs.Shares.{IsKeptOf, query_of}
use Rattle.esr_board.proofs.Whole.{all_pushed}
use Rattle.esr_board.proofs.Draws.{claimed_then, claimed_job, claimed_more, claimed_last, any_last}
use Rattle.esr_board.proofs.worker.turns.claim_all.Goals as goal

pub returns-in-Err-clause-err : goal.returns-in-Err-clause-err
returns-in-Err-clause-err g c = let job = c.in-Some.job in let js = map (λ (p : ℕ × g.row.T.Denot). p.0) c.loop-job.found.items in (
  js ++ job ∷ [],
  claimed_then _ _ _ _ js (job ∷ []) c.loop-job.invariant.has_claimed (claimed_job _ _ _ job c.in-Some.ensures.job.1 c.in-Some.ensures.job.0),
  λ e. any_last (λ n. (n < c.args.board.now.jobs) × (is_committed_query c.args.history.now.schedule (query_of c.args.jobs.now n).0 ≡ false)) js job (c.in-Some.ensures.job.0, c.in-Err.ensures.not_committed_query.0 (search rules)),
)

pub returns-then-is_err-clause-err : goal.returns-then-is_err-clause-err
returns-then-is_err-clause-err g c = let job = c.in-Some.job in let js = map (λ (p : ℕ × g.row.T.Denot). p.0) c.loop-job.found.items in (
  js ++ job ∷ [],
  claimed_then _ _ _ _ js (job ∷ []) c.loop-job.invariant.has_claimed (claimed_job _ _ _ job c.in-Some.ensures.job.1 c.in-Some.ensures.job.0),
  λ e. cc,
)

pub returns-clause-jobs : goal.returns-clause-jobs
returns-clause-jobs g c = claimed_last _ _ _ _ _ c.loop-job.invariant.has_claimed c.in_default.ensures.none.1

pub loop-job-preserved : goal.loop-job-preserved
loop-job-preserved g c = let job = c.in-Some.job in let x = c.in-Ok.kept in
    let keeps = g.T.AuditResult.keeps in let d = g.M.Metric.distance_by in let h = c.args.history.now.schedule in let q = c.args.jobs.now in
    let more : c.push.new.self.items ≡ c.loop-job.found.items ++ (job, x) ∷ [] = search rules in
    let below : job < length q = omega (arith, c.in-Some.ensures.job.0, c.requires.jobs) in
    let is : IsKeptOf keeps d h (query_of q job) x = subst (λ (t : TxnId). IsKeptOf keeps d h t x) (get_or_default q job _ (record { 0 = 0 }) below) c.in-Ok.ensures.kept in record {
      seat = search rules;
      has_claimed = claimed_more _ _ _ _ c.loop-job.found.items c.push.new.self.items job x c.loop-job.invariant.has_claimed c.in-Some.ensures.job.1 c.in-Some.ensures.job.0 more;
      kept = all_pushed (λ (p : ℕ × g.row.T.Denot). (p.0 < c.args.board.now.jobs) × IsKeptOf keeps d h (query_of q p.0) p.1) _ _ (job, x) more c.loop-job.invariant.kept (c.in-Some.ensures.job.0, is);
    }
