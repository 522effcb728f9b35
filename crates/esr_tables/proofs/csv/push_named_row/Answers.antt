use Rattle.esr_tables.proofs.csv.push_named_row.Goals as goal

pub returns : goal.returns
returns c = rw (c.name_of_transaction-name.ensures, c.of.ensures.first, c.of.ensures.last) at c.push_row.ensures
