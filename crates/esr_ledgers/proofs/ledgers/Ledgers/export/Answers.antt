use Rattle.esr_ledgers.proofs.Books.{update_open}
use Rattle.esr_ledgers.proofs.ledgers.Ledgers.export.Goals as goal

pub find_account-requires-clause-open : goal.find_account-requires-clause-open
find_account-requires-clause-open c =
    rw (c.deref.ensures.value, c.self.view_is) (update_open c.args.u.0 c.args.self.now c.requires)
