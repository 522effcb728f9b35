use Rattle.std.proofs.Common.{◌<◌, ◌-◌, ◌∙◌, sym, ap, Some, ◌+◌, arith, length, ltb-true, unwrap_or}
use Rattle.esr_history.specs.BackLinks.{decoded, key_at, ended_txn, last_place, begun_count}
use Rattle.esr_history.proofs.Linking.{at_key_is, decoded_coded, facts_are}
use Rattle.esr_history.proofs.back_links.BackLinks.facts.Goals as goal

pub returns-in-Some : goal.returns-in-Some
returns-in-Some c = λ n es are fit.
    let rows = c.deref.result.now in
    let end = c.place-in-Some.ensures ∙ (ap decoded (c.at_key.ensures ∙ (ap (λ t. key_at t (Some c.args.t)) (c.deref-in-Some.ensures.value ∙ are.ends) ∙ at_key_is ended_txn es (begun_count es + 1) (λ k l. let past : begun_count es < k = omega arith in fit.ends k past) (Some c.args.t))) ∙ decoded_coded (last_place ended_txn c.args.t es)) in
    rw c.is_query.ensures
    (facts_are n es c.args.self.now are c.args.t rows c.in-Some.begin.now c.unwrap_or.result c.place-in-Some.result c.deref.ensures.value c.if-t-eq0.false
    (ltb-true (c.args.t - 1) (length rows) (sym c.in-Some.ensures.lookup.0)) c.in-Some.ensures.lookup.1 (c.unwrap_or.ensures ∙ ap (λ o. unwrap_or o 0) c.place.ensures) end)
