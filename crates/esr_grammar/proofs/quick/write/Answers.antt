use mir.Val.{to_z, of_z}
use Rattle.std.proofs.Common.{w64, ◌≡◌, sym, ap, ◌∙◌, ◌++◌, ◌∷◌, [], subst}
use Rattle.std.proofs.lemmas.Int.{to_z-of_z}
use Rattle.esr_grammar.specs.Stops.{AreStops}
use Rattle.esr_grammar.proofs.Fronts.{int_fits}
use Rattle.esr_grammar.proofs.Eights.{past_two}
use Rattle.esr_grammar.proofs.Laws.{int_found}
use Rattle.esr_grammar.proofs.Stops.{are_after}
use Rattle.esr_grammar.proofs.quick.write.Goals as goal

pub front_name_in-requires-2 : goal.front_name_in-requires-2
front_name_in-requires-2 c =
    let txn = c.in_ok-txn in
    subst (AreStops txn.more.now) (sym c.stops_after.ensures) (are_after c.args.words.now txn.txn.now txn.more.now c.first_stops-stops.result c.first_stops-stops.ensures txn.ensures.1)

pub int_at_end-requires : goal.int_at_end-requires
int_at_end-requires c =
    let txn = c.in_ok-txn in
    let thing = c.in_ok-item in (
      txn.txn.now ++ 32 ∷ (thing.item.now ++ 32 ∷ []),
      txn.ensures.1 ∙ ap (λ l. txn.txn.now ++ 32 ∷ l) thing.ensures.1 ∙ past_two txn.txn.now thing.item.now thing.last.now 32 32,
    )

pub returns : goal.returns
returns c =
    let txn = c.in_ok-txn.ensures in
    let thing = c.in_ok-item.ensures in
    let value = int_found c.in_ok-item.last.now c.in_ok-value.value (sym c.in_ok-value.ensures) in
    let same : to_z w64 (of_z w64 c.in_ok-value.value) ≡ c.in_ok-value.value = to_z-of_z w64 c.in_ok-value.value (int_fits c.in_ok-value.value value.0) in
    let line = ap (λ l. 119 ∷ 114 ∷ 105 ∷ 116 ∷ 101 ∷ 32 ∷ l) (txn.1 ∙ ap (λ l. c.in_ok-txn.txn.now ++ 32 ∷ l) (thing.1 ∙ ap (λ l. c.in_ok-item.item.now ++ 32 ∷ l) value.1)) in
    rw same ((txn.0, thing.0, value.0), line)
