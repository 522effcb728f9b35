use Rattle.std.proofs.Common.{ℕ, Vec, IfOk, subst, sym, ◌∙◌}
use Rattle.std.specs.declared.alloc.Global.{Global}
use Rattle.esr_tables.specs.declared.format.Format.{Format}
use Rattle.esr_tables.specs.Spans.{first_of, last_of}
use Rattle.esr_tables.specs.Written.{IsLedger}
use Rattle.esr_tables.proofs.Sent.{csv_written}
use Rattle.esr_tables.proofs.ledger.text_in.Goals as goal

pub returns-in-Csv : goal.returns-in-Csv
returns-in-Csv c = λ s recorded.
    subst (λ (f : Format). IfOk c.ledger_csv.result (λ (v : Vec ℕ Global). IsLedger f s v.items)) (sym c.in-Csv.is)
    (csv_written (λ (v : Vec ℕ Global). v.items) s c.args.recording.now recorded (first_of c.in_ok-spans.spans) (last_of c.in_ok-spans.spans)
    c.deref-in-Csv.result.now (c.deref-in-Csv.ensures.value ∙ c.in-Ok.ensures) c.ledger_csv.result c.ledger_csv.ensures)
