use Rattle.std.proofs.Common.{sym, ◌∙◌}
use Rattle.esr_core.proofs.machine.Machine.fresh.Goals as goal

pub returns-clause-state : goal.returns-clause-state
returns-clause-state g c = λ d h entries opening.
    let items = c.in_ok-items.ensures.committed ∙ c.deref.ensures.value in
    c.reserve_transactions.ensures d h (c.in_ok-state.ensures d h entries (opening ∙ sym items))
