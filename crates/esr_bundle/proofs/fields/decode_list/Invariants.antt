use Rattle.std.proofs.Common.{◌≡◌, ◌++◌, drop, map, option_map}
use Rattle.serde_json.specs.View.{items_view}
use Rattle.esr_bundle.specs.Fields.{each}
use Rattle.esr_bundle.proofs.fields.decode_list.Given as goal

abbrev pub invariant-loop-item : goal.invariant-loop-item
invariant-loop-item g l =
    option_map (λ rest. map g.T.FromJson.model_of l.found.items ++ rest) (each g.T.FromJson.decoded (items_view (drop l.item-index l.item-items))) ≡ each g.T.FromJson.decoded (items_view l.item-items)
