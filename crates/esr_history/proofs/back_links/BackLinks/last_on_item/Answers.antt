use Rattle.std.proofs.Common.{◌∙◌, ap, Some}
use Rattle.esr_history.specs.BackLinks.{decoded, key_at, accepted_item, last_place}
use Rattle.esr_history.proofs.Linking.{at_key_is, decoded_coded}
use Rattle.esr_history.proofs.back_links.BackLinks.last_on_item.Goals as goal

pub returns : goal.returns
returns c = λ n es are fit.
    c.place.ensures ∙ (ap decoded (c.at_key.ensures ∙ (ap (λ t. key_at t (Some c.args.x)) (c.deref.ensures.value ∙ are.items) ∙ at_key_is accepted_item es n fit.items (Some c.args.x))) ∙ decoded_coded (last_place accepted_item c.args.x es))
