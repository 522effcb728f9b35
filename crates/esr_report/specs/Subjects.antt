-- The names in an event, read from the struct that borrows them.
use Rattle.esr_report.specs.declared.lines.ReplyNames.{ReplyNames}
use Rattle.esr_report.specs.Lines.{Named}

abbrev pub named_by : ReplyNames → Named
named_by s = record { txn = s.txn.now; item = s.item.now; value = s.value }
