use Rattle.esr_ledgers.proofs.Books.{found_within, more_than_left}
use Rattle.esr_ledgers.proofs.ledgers.passes.Goals as goal

pub overflow_sub-account : goal.overflow_sub-account
overflow_sub-account c = found_within c.args.t.0 c.args.accounts.now c.find_account-account.result c.requires.within c.find_account-account.ensures

pub returns : goal.returns
returns c =
    let a = c.find_account-account.result in
    rw (c.from.ensures, c.find_account-account.ensures)
    (more_than_left a.amount a.limit c.args.amount (found_within c.args.t.0 c.args.accounts.now a c.requires.within c.find_account-account.ensures))
