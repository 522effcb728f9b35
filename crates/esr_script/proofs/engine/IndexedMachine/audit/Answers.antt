use Rattle.std.proofs.Common.{◌≡◌, ◌∙◌, Result, Ok, Err, OnOk, false, is_err, length, sym}
use Rattle.esr_script.proofs.engine.IndexedMachine.audit.Goals as goal

given : {T E : Type 0} (r : Result T E) (P : Type 0) → is_err r ≡ false → OnOk r P → P
given (Ok x) P ok p = p
given (Err e) P ok p = cc

pub audit_query_with_index-requires : goal.audit_query_with_index-requires
audit_query_with_index-requires c = (
  c.extend.ensures.index,
  given c.extend.result (c.extend.new.self.read ≡ length c.history-history.result.now.schedule.entries) (sym c.is_err.ensures.value ∙ c.if-is_err.false) c.extend.ensures.whole,
)
