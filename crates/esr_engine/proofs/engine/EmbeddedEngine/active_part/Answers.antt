use Rattle.std.proofs.Common.{◌∙◌, ap, filter, slice_get}
use Rattle.std.specs.List.{filter_map}
use Rattle.std.proofs.lemmas.List.Filters.{dedup_is}
use Rattle.esr_engine.specs.Carrying.{is_of_active}
use Rattle.esr_engine.proofs.ActivePlaces.{operations_are}
use Rattle.esr_engine.proofs.engine.EmbeddedEngine.active_part.Goals as goal

pub returns-clause-operations : goal.returns-clause-operations
returns-clause-operations c =
    let h = c.args.self.now in
    c.in_ok-operations.ensures
    ∙ (ap (λ l. filter (is_of_active h) (filter_map (slice_get h.entries) l)) c.deref.ensures.value
    ∙ operations_are h _ c.in_ok-txns.ensures _ _ c.sort_unstable.ensures.permutation c.sort_unstable.ensures.sorted (dedup_is _ _ _ c.dedup.ensures.filtered))
