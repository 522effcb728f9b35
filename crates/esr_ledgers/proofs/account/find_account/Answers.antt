use Rattle.std.proofs.Common.{false}
use Rattle.esr_history.proofs.Ascending.{found_at}
use Rattle.esr_history.specs.Events.{kind_of}
use Rattle.esr_ledgers.specs.Books.{number, new_account}
use Rattle.esr_ledgers.proofs.account.find_account.Goals as goal

pub returns : goal.returns
returns c = found_at number c.args.t.0 c.index_of.result c.args.accounts.now (new_account (kind_of false) (record { 0 = 0 }) 0) c.requires.ascending c.index_of.ensures
