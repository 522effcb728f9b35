use Rattle.std.proofs.Common.{◌∙◌, ap, sym, subst}
use Rattle.esr_views.specs.QueryAnswers.{IsFoundOf}
use Rattle.esr_script.specs.Text.{ScriptState}
use Rattle.esr_script.proofs.script.Script.audited_query.Goals as goal

pub returns-in-Ok-clause-answered : goal.returns-in-Ok-clause-answered
returns-in-Ok-clause-answered g c = let same = c.in-Ok.ensures.ok in record {
  items = c.with.ensures.items ∙ ap (λ (z : ScriptState). z.items) same;
  transactions = c.with.ensures.transactions ∙ ap (λ (z : ScriptState). z.transactions) same;
  history = c.with.ensures.history ∙ ap (λ (z : ScriptState). z.history) same;
  finding = subst (IsFoundOf c.args.self c.args.name.now) (sym c.with.ensures.finding) c.in-Ok.ensures.found;
}
