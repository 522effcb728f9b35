use Rattle.std.proofs.Common.{◌≡◌, ◌∙◌, Result, Ok, Err, IfOk, OnOk, false, is_err, length, sym, subst}
use Rattle.esr_history.specs.Machine.{Schedule}
use Rattle.esr_items.specs.Weights.{weighted}
use Rattle.esr_audit.specs.Findings.{summary_of}
use Rattle.esr_least.specs.Audits.{audit_fields}
use Rattle.esr_script.proofs.engine.IndexedMachine.summarize.Goals as goal

given : {T E : Type 0} (r : Result T E) (P : Type 0) → is_err r ≡ false → OnOk r P → P
given (Ok x) P ok p = p
given (Err e) P ok p = cc

pub summarize_by_index-requires : goal.summarize_by_index-requires
summarize_by_index-requires c = (
  c.extend.ensures.index,
  given c.extend.result (c.extend.new.self.read ≡ length c.history-history.result.now.schedule.entries) (sym c.is_err.ensures.value ∙ c.if-is_err.false) c.extend.ensures.whole,
)

pub returns-clause-summary : goal.returns-clause-summary
returns-clause-summary c =
    subst (λ (h : Schedule). IfOk c.summarize_by_index.result (λ a. audit_fields a ≡ summary_of weighted h c.args.q.0))
    (c.history-history.ensures.schedule ∙ (c.self.view_is ∙ c.take_audit.ensures.same)) c.summarize_by_index.ensures.summary
