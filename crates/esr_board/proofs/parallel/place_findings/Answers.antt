use Rattle.std.proofs.Common.{rules, ℕ, ◌<◌, length, refl, inr, subst, arith}
use Rattle.esr_board.specs.Shares.{IsKeptOf, AreKept, query_of}
use Rattle.esr_board.proofs.Closes.{all_popped}
use Rattle.esr_board.proofs.Slots.{put_share, put_right, put_kept, put_filled}
use Rattle.esr_board.proofs.parallel.place_findings.Goals as goal

pub put-requires : goal.put-requires
put-requires g c =
    let below : c.in-Some.job < length c.loop-job.slots.items = (all_popped (λ (p : ℕ × g.row.T.Denot). (p.0 < length c.loop-job.slots.items) × IsKeptOf g.T.AuditResult.keeps g.M.Metric.distance_by c.args.history.now.schedule (query_of c.args.jobs.now p.0) p.1) _ _ (c.in-Some.job, c.in-Some.kept) c.in-Some.ensures.items c.loop-job.invariant.share).1.0 in
    search rules

pub loop-job-preserved : goal.loop-job-preserved
loop-job-preserved g c = let e = c.in-Some.ensures.items in let was = c.loop-job.invariant in let keeps = g.T.AuditResult.keeps in let d = g.M.Metric.distance_by in let h = c.args.history.now.schedule in let q = c.args.jobs.now in let job = c.in-Some.job in let x = c.in-Some.kept in
    let slots = c.loop-job.slots.items in let is = c.put.ensures in
    let here = (all_popped (λ (p : ℕ × g.row.T.Denot). (p.0 < length slots) × IsKeptOf keeps d h (query_of q p.0) p.1) _ _ (job, x) e was.share).1 in record {
      len = search rules;
      share = put_share keeps d h q slots _ job x is here.0 _ _ e was.share;
      right = put_right keeps d h q slots _ job x is here.0 here.1 was.right;
      kept = (λ k filled. put_kept keeps d h q slots _ job x is here.0 k (was.kept k filled));
      filled = (λ k. put_filled keeps d h q slots _ job x is here.0 _ _ _ k e (was.filled k));
    }

pub loop-job-init : goal.loop-job-init
loop-job-init g c = record {
  len = refl;
  share = subst (λ (n : ℕ). AreKept g.T.AuditResult.keeps g.M.Metric.distance_by c.args.history.now.schedule c.args.jobs.now n c.args.share.found.items) (omega (arith, c.args.slots.now.ok.0)) c.requires.share;
  right = c.requires.right;
  kept = (λ k filled. filled);
  filled = (λ k. inr refl);
}
