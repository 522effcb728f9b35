use Rattle.std.proofs.Common.{◌∙◌, map, ap}
use Rattle.esr_order.proofs.order.Order.relevant.Goals as goal

pub relevant_in-requires : goal.relevant_in-requires
relevant_in-requires g c = ap (map (λ t. t.0)) c.deref.ensures.value ∙ c.in_ok-committed.ensures
