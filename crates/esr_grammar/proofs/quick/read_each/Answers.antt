use Rattle.std.proofs.Common.{sym, ap, ◌∙◌, ◌++◌, ◌∷◌, []}
use Rattle.esr_grammar.proofs.Eights.{past_first}
use Rattle.esr_grammar.proofs.Spelling.{name_found}
use Rattle.esr_grammar.proofs.quick.read_each.Goals as goal

pub name_at_end-requires : goal.name_at_end-requires
name_at_end-requires c =
    let txn = c.in_ok-txn in
    (txn.txn.now ++ 32 ∷ [], txn.ensures.1 ∙ past_first txn.txn.now txn.last.now 32)

pub returns : goal.returns
returns c =
    let txn = c.in_ok-txn.ensures in
    let thing = name_found c.in_ok-txn.last.now c.in_ok-item.item.now (sym c.in_ok-item.ensures) in
    ((txn.0, thing.0), ap (λ l. 114 ∷ 101 ∷ 97 ∷ 100 ∷ 32 ∷ l) (txn.1 ∙ ap (λ l. c.in_ok-txn.txn.now ++ 32 ∷ l) thing.1))
