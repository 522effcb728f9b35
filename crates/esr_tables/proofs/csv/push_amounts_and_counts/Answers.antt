use Rattle.esr_tables.proofs.csv.push_amounts_and_counts.Goals as goal

pub returns : goal.returns
returns c =
    rw (c.format.ensures.text, c.format-2.ensures.text, c.format-3.ensures.text, c.format-4.ensures.text, c.format-5.ensures.text, c.format-6.ensures.text, c.format-7.ensures.text, c.format-8.ensures.text) at c.push_all_fields.ensures
