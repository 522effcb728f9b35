use Rattle.std.proofs.Common.{[], ◌∷◌, ◌++◌, ◌∙◌, map, take, sym, ap}
use Rattle.std.proofs.lemmas.List.{map_more, map_push}
use Rattle.serde_json.specs.View.{view}
use Rattle.esr_bundle.proofs.writer.list_tree.Goals as goal

pub loop-one-preserved : goal.loop-one-preserved
loop-one-preserved g c =
    let model_of = g.T.Written.model_of in
    let list = c.args.list.now in
    let i = c.loop-one.one-index in
    let tree = c.in_ok-tree.field-0 in
    ap (map view) c.in_ok-push.ensures.items
    ∙ map_push view c.loop-one.items.items tree
    ∙ ap (λ ds. ds ++ view tree ∷ []) c.loop-one.invariant
    ∙ ap (λ d. map model_of (take i list) ++ d ∷ []) c.in_ok-tree.ensures
    ∙ sym (map_more model_of list i c.one-item.result c.loop-one-test.true ∙ ap (λ one. map model_of (take i list) ++ model_of one ∷ []) (sym c.one-item.is))
