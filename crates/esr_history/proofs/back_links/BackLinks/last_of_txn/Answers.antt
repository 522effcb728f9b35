use Rattle.std.proofs.Common.{◌∙◌, ap, Some, ◌+◌, ◌<◌, arith}
use Rattle.esr_history.specs.BackLinks.{decoded, key_at, accepted_txn, last_place, begun_count}
use Rattle.esr_history.proofs.Linking.{at_key_is, decoded_coded}
use Rattle.esr_history.proofs.back_links.BackLinks.last_of_txn.Goals as goal

pub returns : goal.returns
returns c = λ n es are fit.
    c.place.ensures ∙ (ap decoded (c.at_key.ensures ∙ (ap (λ t. key_at t (Some c.args.t)) (c.deref.ensures.value ∙ are.txns) ∙ at_key_is accepted_txn es (begun_count es + 1) (λ k l. let past : begun_count es < k = omega arith in fit.txns k past) (Some c.args.t))) ∙ decoded_coded (last_place accepted_txn c.args.t es))
