use Rattle.std.proofs.Common.{◌≡◌, IfSome, subst}
use Rattle.esr_stream.specs.Query.{QueryView}
use Rattle.esr_stream.proofs.least.least_of.Goals as goal

pub returns-in-Some : goal.returns-in-Some
returns-in-Some g c =
    let schedule : c.in-Some.query.schedule ≡ c.args.history.now.schedule = subst (λ o. IfSome o (λ (a : QueryView). a.schedule ≡ c.args.history.now.schedule)) c.in-Some.is c.in_ok-query.ensures.schedule in
    let query : c.in-Some.query.query ≡ c.args.q.0 = subst (λ o. IfSome o (λ (a : QueryView). a.query ≡ c.args.q.0)) c.in-Some.is c.in_ok-query.ensures.query in
    rw (← schedule, ← query) c.find.ensures
