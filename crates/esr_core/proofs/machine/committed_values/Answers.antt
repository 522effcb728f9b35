use Rattle.std.proofs.Common.{◌≡◌, ◌++◌, ◌∷◌, [], ◌∙◌, ap, sym, take, map, pos, FitsSigned, w64, to_z, of_z, ◌<◌, length, rules}
use Rattle.std.proofs.lemmas.Int.{to_z-of_z}
use Rattle.std.proofs.lemmas.List.{map_more}
use Rattle.std.proofs.lemmas.List.Elements.{All-push}
use Rattle.esr_core.specs.Types.{Versions}
use Rattle.esr_items.specs.Values.{IsValue, both_versions}
use Rattle.esr_core.proofs.machine.committed_values.Goals as goal

pub loop-x-preserved : goal.loop-x-preserved
loop-x-preserved c =
    let items = c.args.items.now in
    let values = c.loop-x.values.items in
    let v = c.committed.result in
    let fits : FitsSigned w64 v = search rules in
    let grown : c.push.new.self.items ≡ values ++ to_z w64 (of_z w64 v) ∷ [] = c.in_ok-push.ensures.items in
    let by_one = grown ∙ ap (λ y. values ++ y ∷ []) (to_z-of_z w64 v fits) in
    let before = ap (λ l. l ++ v ∷ []) c.loop-x.invariant.0 in
    let value = ap (λ y. map (λ (w : Versions). w.committed) (take c.loop-x.x items) ++ y ∷ []) c.committed.ensures.value in
    let inside : c.loop-x.x < length items = rw (← c.len-x-end.ensures.len) c.loop-x-test.true in
    let more = map_more (λ (w : Versions). w.committed) items c.loop-x.x (both_versions (pos 0)) inside in
    (by_one ∙ (before ∙ (value ∙ sym more)), rw by_one (All-push IsValue values v c.loop-x.invariant.1 c.committed.ensures.range))
