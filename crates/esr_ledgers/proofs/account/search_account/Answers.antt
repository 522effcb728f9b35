use Rattle.std.proofs.Common.{sym, ◌∙◌}
use Rattle.std.proofs.lemmas.Bool.{false≢true}
use Rattle.esr_history.proofs.Ascending.{any_gap}
use Rattle.esr_ledgers.specs.Books.{number}
use Rattle.esr_ledgers.proofs.account.search_account.Goals as goal

pub unreachable-requires : goal.unreachable-requires
unreachable-requires c = false≢true (sym (any_gap number c.args.t.0 c.in-Err.field-0 c.args.accounts.now c.in-Err.ensures.absent) ∙ c.requires.open)
