use Rattle.std.proofs.Common.{rules, ℕ, ◌≡◌, ◌<◌, ◌++◌, [], ◌∷◌, map, ⊎_elim, subst, sym, ◌∙◌, MatchResult}
use Rattle.esr_audit.specs.declared.finding.AuditError.TheVariants.{NoMemory}
use Rattle.esr_board.specs.Claims.{count_past, times}
use Rattle.esr_board.specs.Boards.{IsSeatOf, claimed, all_claimed}
use Rattle.esr_board.specs.Shares.{AreKept, IsWorked, IsShareOf}
use Rattle.esr_board.proofs.Closes.{all_popped}
use Rattle.esr_board.proofs.Whole.{all_pushed, seat_more}
use Rattle.esr_board.proofs.parallel.gather.Goals as goal

pub loop-next-preserved : goal.loop-next-preserved
loop-next-preserved g c = let was = c.loop-next.invariant in let b = c.args.board.now in let seat = c.in-Some.next.seat in
    let parts = all_popped (IsWorked g.T.AuditResult.keeps g.M.Metric.distance_by c.args.history.now.schedule c.args.jobs.now b) _ _ _ c.in-Some.ensures.items was.all in
    let is : IsShareOf g.T.AuditResult.keeps g.M.Metric.distance_by c.args.history.now.schedule c.args.jobs.now b.jobs (claimed seat) c.in-Ok-share.share = subst (λ r. MatchResult r (IsShareOf g.T.AuditResult.keeps g.M.Metric.distance_by c.args.history.now.schedule c.args.jobs.now b.jobs (claimed seat)) (λ e. e ≡ NoMemory)) c.in-Ok-share.is parts.1.1 in
    let more : c.push.new.self.items ≡ c.loop-next.seats.items ++ seat ∷ [] = search rules in record {
      all = parts.0;
      count = search rules;
      seats = all_pushed (λ s. IsSeatOf b s × (0 < count_past b.jobs (claimed s))) _ _ seat more was.seats (parts.1.0, is.2);
      len = search rules;
      right = search rules;
      filled = (λ k l h. ⊎_elim (λ (old : 0 < times k (all_claimed c.loop-next.seats.items)). c.place_findings.ensures.kept k (was.filled k l old))
          (λ (new : 0 < times k (map (λ (p : ℕ × g.row.T.Denot). p.0) c.in-Ok-share.share.found.items)). c.place_findings.ensures.filled k new)
          (seat_more b.jobs k c.loop-next.seats.items c.push.new.self.items seat _ more is.0 l h));
    }

pub place_findings-requires-clause-share : goal.place_findings-requires-clause-share
place_findings-requires-clause-share g c = let was = c.loop-next.invariant in let b = c.args.board.now in let seat = c.in-Some.next.seat in
    let parts = all_popped (IsWorked g.T.AuditResult.keeps g.M.Metric.distance_by c.args.history.now.schedule c.args.jobs.now b) _ _ _ c.in-Some.ensures.items was.all in
    let is : IsShareOf g.T.AuditResult.keeps g.M.Metric.distance_by c.args.history.now.schedule c.args.jobs.now b.jobs (claimed seat) c.in-Ok-share.share = subst (λ r. MatchResult r (IsShareOf g.T.AuditResult.keeps g.M.Metric.distance_by c.args.history.now.schedule c.args.jobs.now b.jobs (claimed seat)) (λ e. e ≡ NoMemory)) c.in-Ok-share.is parts.1.1 in
    subst (λ n. AreKept g.T.AuditResult.keeps g.M.Metric.distance_by c.args.history.now.schedule c.args.jobs.now n c.in-Ok-share.share.found.items) (sym (was.len ∙ c.requires.len)) is.1

pub returns-clause-slots : goal.returns-clause-slots
returns-clause-slots g c = (c.loop-next.invariant.len, c.loop-next.invariant.right)

pub returns-clause-filled : goal.returns-clause-filled
returns-clause-filled g c = c.loop-next.invariant.filled
