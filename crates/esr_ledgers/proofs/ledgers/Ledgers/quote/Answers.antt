use Rattle.esr_ledgers.specs.Books.{AreCharges}
use Rattle.esr_ledgers.proofs.Books.{all_open, update_open}
use Rattle.esr_ledgers.proofs.ledgers.Ledgers.quote.Goals as goal

pub total_within-requires-clause-queries : goal.total_within-requires-clause-queries
total_within-requires-clause-queries c =
    let are : AreCharges c.self.inside.accounts.items c.args.u c.args.charges.now = rw c.self.view_is c.requires in
    rw c.deref.ensures.value (all_open c.self.inside.accounts.items c.self.inside.total c.self.invariant c.args.u c.args.charges.now are)

pub passes-requires-clause-open : goal.passes-requires-clause-open
passes-requires-clause-open c = rw (c.deref-2.ensures.value, c.self.view_is) (update_open c.args.u.0 c.args.self.now c.requires.update)
