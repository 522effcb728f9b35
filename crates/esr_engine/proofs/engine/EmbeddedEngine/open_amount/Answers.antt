use Rattle.std.proofs.Common.{◌≡◌, ◌∙◌, ap, sym, true, false, Some}
use Rattle.esr_history.specs.Events.{is_refusal}
use Rattle.esr_history.specs.Machine.{Schedule, accepted_in, writer}
use Rattle.esr_history.specs.ReportBounds.{is_active_query}
use Rattle.esr_engine.proofs.CarriedParts.{open_is}
use Rattle.esr_engine.proofs.engine.EmbeddedEngine.open_amount.Goals as goal

pub returns-in-Some : goal.returns-in-Some
returns-in-Some c =
    let h = c.args.self.now in
    let own : is_active_query h c.in-Read.txn.0 ≡ true = sym c.is_active_query.ensures ∙ c.if-is_active_query.true in
    let ok : is_refusal c.args.entry.reply ≡ false = sym c.is_refused.ensures ∙ c.if-is_refused.false in
    let holder : writer (accepted_in h) c.in-Read.item.0 ≡ Some c.in-Some.u.0 = sym (c.in-Some.ensures ∙ ap (λ (k : Schedule). writer (accepted_in k) c.in-Read.item.0) c.self.view_is) in
    c.uncommitted_distance.ensures ∙ open_is h c.args.query c.args.t.0 c.args.entry c.in-Read.txn c.in-Read.item ok c.in-Read.is own c.in-Some.u.0 holder true (sym c.if-is_charged.true ∙ c.is_charged.ensures)
