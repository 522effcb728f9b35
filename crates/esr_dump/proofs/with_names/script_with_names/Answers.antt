use Rattle.std.proofs.Common.{arith}
use Rattle.esr_dump.proofs.Names.{carried_past, bounded_begun}
use Rattle.esr_dump.proofs.with_names.script_with_names.Goals as goal

pub returns : goal.returns
returns g c =
    let h = c.args.history.now.schedule in
    let begun = bounded_begun h.entries in
    carried_past c.in_ok-item_table.item_table c.in_ok-transaction_table.transaction_table (g.I.NamesByPosition.names c.args.item_names.now) (g.T.NamesByPosition.names c.args.transaction_names.now)
    _ _ h c.in_ok-text.text.items c.items.ensures.items c.begun_count-transaction_count.ensures c.in_ok-item_table.ensures c.in_ok-transaction_table.ensures
    (omega (arith, c.items.ensures.upper_bound)) (omega (arith, begun, c.begun_count-transaction_count.ensures, c.requires.entry_count_within_max)) c.in_ok-text.ensures.again
