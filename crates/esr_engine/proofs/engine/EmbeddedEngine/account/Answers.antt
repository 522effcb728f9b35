use Rattle.std.proofs.Common.{◌≡◌, ◌∙◌, ap, Some}
use Rattle.esr_items.specs.Weights.{weighted}
use Rattle.esr_history.specs.BackLinks.{facts_of}
use Rattle.esr_history.specs.Machine.{Schedule, accepted_in}
use Rattle.esr_history.specs.Outcomes.{outcome_of}
use Rattle.esr_engine.proofs.Accounts.{account_from_facts}
use Rattle.esr_engine.proofs.engine.EmbeddedEngine.account.Goals as goal

pub returns-in-Some-clause-account : goal.returns-in-Some-clause-account
returns-in-Some-clause-account c =
    let history : c.history-history.result.now.schedule ≡ c.args.self.now = c.history-history.ensures.schedule ∙ c.self.view_is in
    let is : Some c.in-Some.facts ≡ facts_of c.args.self.now.entries c.args.t.0 = c.in-Some.ensures ∙ ap (λ (g : Schedule). facts_of g.entries c.args.t.0) history in
    let known = c.outcome_of.ensures ∙ ap (λ (g : Schedule). outcome_of (accepted_in g) c.args.t.0) history in
    rw c.kind_of.ensures (account_from_facts weighted c.args.self.now c.args.t.0 c.in-Some.facts is c.charge_of.result c.charge_of.ensures c.outcome_of.result known)
