use Rattle.std.proofs.Common.{◌∙◌, ◌++◌, ap, sym}
use Rattle.esr_dump.specs.Lines.{entry_text}
use Rattle.esr_dump.proofs.Texts.{entry_more}
use Rattle.esr_dump.proofs.spelling.push_entries.Goals as goal

pub loop-i-preserved : goal.loop-i-preserved
loop-i-preserved c =
    let f = entry_text c.args.items.now c.args.transactions.now in
    c.in_ok-push_entry.ensures
    ∙ (ap (λ l. l ++ f c.in-Some.entry) c.loop-i.invariant
    ∙ entry_more f c.args.out.now.items c.args.log.now.entries c.loop-i.i c.in-Some.entry (sym c.in-Some.ensures))
