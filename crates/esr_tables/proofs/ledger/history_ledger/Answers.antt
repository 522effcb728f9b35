use Rattle.std.proofs.Common.{ℕ, Vec, ◌∙◌}
use Rattle.std.specs.declared.alloc.Global.{Global}
use Rattle.esr_tables.specs.Spans.{first_of, last_of}
use Rattle.esr_tables.proofs.Sent.{csv_of}
use Rattle.esr_tables.proofs.ledger.history_ledger.Goals as goal

pub returns : goal.returns
returns c =
    csv_of (λ (v : Vec ℕ Global). v.items) c.args.history.now.schedule c.args.transactions.now (first_of c.in_ok-spans.spans) (last_of c.in_ok-spans.spans)
    c.deref.result.now (c.deref.ensures.value ∙ c.in-Ok.ensures) c.ledger_csv.result c.ledger_csv.ensures
