use Rattle.esr_explain.proofs.charges.named_charge_line.Goals as goal

pub returns : goal.returns
returns c =
    rw (c.format.ensures.text, c.format-2.ensures.text, c.format-3.ensures.text, c.format-4.ensures.text, c.format-5.ensures.text, c.format-6.ensures.text) at c.push_line.ensures.ok
