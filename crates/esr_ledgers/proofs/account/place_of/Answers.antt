use Rattle.std.proofs.Common.{rules}
use Rattle.std.proofs.lemmas.List.Sorted.{answers_always}
use Rattle.esr_history.proofs.Ascending.{searched}
use Rattle.esr_ledgers.specs.Books.{number}
use Rattle.esr_ledgers.proofs.account.place_of.Goals as goal

-- the closure returns the number
pub returns-clause-found : goal.returns-clause-found
returns-clause-found c =
    let by_number = c.binary_search_by_key.ensures.position number (answers_always _ _ _ (λ f a r g called. search rules)) in
    (searched number c.args.accounts.now c.requires c.args.t.0 c.binary_search_by_key.result c.binary_search_by_key.ensures.bound by_number).0

pub returns-clause-absent : goal.returns-clause-absent
returns-clause-absent c =
    let by_number = c.binary_search_by_key.ensures.position number (answers_always _ _ _ (λ f a r g called. search rules)) in
    (searched number c.args.accounts.now c.requires c.args.t.0 c.binary_search_by_key.result c.binary_search_by_key.ensures.bound by_number).1
