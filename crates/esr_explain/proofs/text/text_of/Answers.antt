use Rattle.std.proofs.Common.{◌≡◌, ◌∙◌, ◌++◌, List, ℕ, ap, codes, flat_map, map}
use Rattle.esr_base.specs.declared.numbers.TxnId.{TxnId}
use Rattle.esr_report.specs.Lines.{names_line}
use Rattle.esr_explain.specs.Explain.{charge_line, read_line, distance_and_import_line}
use Rattle.esr_explain.proofs.Sent.{joined}
use Rattle.esr_explain.proofs.text.text_of.Goals as goal

pub returns : goal.returns
returns c =
    let items = c.args.items.now in let names = c.args.transactions.now in let e = c.args.explained.now in
    let numbers : List TxnId → List ℕ = map (λ (t : TxnId). t.0) in
    joined (flat_map (read_line items) e.reads.items) (flat_map (charge_line items names) e.charges.items)
    (names_line (codes "before") names (numbers e.before.now)) (names_line (codes "after") names (numbers e.after.items))
    (distance_and_import_line e.distance e.import)
    c.push_reads.new.out.items c.push_charges.new.out.items c.names_line.new.out.items c.names_line-2.new.out.items c.distance_and_import_line.new.out.items
    (c.in_ok-push_reads.ensures ∙ (ap (λ l. l ++ flat_map (read_line items) c.deref.result.now) c.new-out.ensures.items ∙ ap (flat_map (read_line items)) c.deref.ensures.value))
    (c.in_ok-push_charges.ensures ∙ ap (λ cs. c.push_reads.new.out.items ++ flat_map (charge_line items names) cs) c.deref-2.ensures.value)
    c.in_ok-names_line.ensures.ok
    (c.in_ok-names_line-2.ensures.ok ∙ ap (λ ts. c.names_line.new.out.items ++ names_line (codes "after") names (numbers ts)) c.deref-3.ensures.value)
    c.in_ok-distance_and_import_line.ensures
