use Rattle.esr_ledgers.proofs.Books.{query_open}
use Rattle.esr_ledgers.proofs.ledgers.Ledgers.import.Goals as goal

pub find_account-requires-clause-open : goal.find_account-requires-clause-open
find_account-requires-clause-open c =
    rw (c.deref.ensures.value, c.self.view_is) (query_open c.args.q.0 c.args.self.now c.requires)
