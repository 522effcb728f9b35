use Rattle.std.proofs.Common.{rules}
use Rattle.std.proofs.lemmas.List.Sorted.{answers_always}
use Rattle.esr_history.proofs.Ascending.{searched}
use Rattle.esr_locks.proofs.ascending_list.search_long.Goals as goal

-- the closure returns the number
pub returns : goal.returns
returns g c =
    let by_number = c.binary_search_by_key.ensures.position g.R.Numbered.number (answers_always _ _ _ (λ f a r h called. search rules)) in
    let place = searched g.R.Numbered.number c.args.elements.now c.requires c.args.t.0 c.binary_search_by_key.result c.binary_search_by_key.ensures.bound by_number in
    record { found = place.0; absent = place.1 }
