use Rattle.std.proofs.lemmas.Bool.{ltb-true}
use Rattle.esr_ledgers.specs.Books.{number}
use Rattle.esr_ledgers.proofs.Finds.{gap_last}
use Rattle.esr_ledgers.proofs.account.is_above.Goals as goal

pub returns-in-Some : goal.returns-in-Some
returns-in-Some c = λ below. gap_last number c.args.accounts.now c.requires c.args.t.0 c.in-Some.account.now c.in-Some.ensures.item.1 (ltb-true _ _ below)
