use Rattle.std.proofs.Common.{◌≡◌, ◌∙◌, [], ◌∷◌, ◌++◌, Bool, true, false, not, List, get_or, append-nil, refl, sym, ap}
use Rattle.std.proofs.lemmas.List.Elements.{filter_more}
use Rattle.esr_base.specs.declared.numbers.TxnId.{TxnId}
use Rattle.esr_history.specs.Events.{is_query}
use Rattle.esr_history.specs.Machine.{accepted_in}
use Rattle.esr_audit.proofs.commits.lists_among.Goals as goal
use Rattle.esr_audit.proofs.commits.lists_among.Goals.{then-is_query+in_ok-push, else-is_query+in_ok-push-2}

pub loop-t-preserved : goal.loop-t-preserved
loop-t-preserved g c =
    let query : TxnId → Bool = λ t. is_query (accepted_in c.args.history.now.schedule) t.0 in
    let txns : List TxnId = c.deref-t-items.result.now in
    let i = c.loop-t.t-index in
    let t : TxnId = get_or txns i (record { 0 = 0 }) in
    let queries = filter_more query txns i (record { 0 = 0 }) c.loop-t-test.true in
    let updates = filter_more (λ t. not (query t)) txns i (record { 0 = 0 }) c.loop-t-test.true in
    elim c.if-is_query.branch [
      | then-is_query+in_ok-push w ↦
          let is : query t ≡ true = sym c.is_query.ensures ∙ w.if-is_query.true in (
            ap (λ v. v.items) w.updates-is ∙ c.loop-t.invariant.0 ∙ sym (updates ∙ rw is (append-nil _)),
            ap (λ v. v.items) w.queries-is ∙ w.in_ok-push.ensures.items ∙ ap (λ l. l ++ t ∷ []) c.loop-t.invariant.1 ∙ sym (queries ∙ rw is refl),
          )
      | else-is_query+in_ok-push-2 w ↦
          let is : query t ≡ false = sym c.is_query.ensures ∙ w.if-is_query.false in (
            ap (λ v. v.items) w.updates-is ∙ w.in_ok-push-2.ensures.items ∙ ap (λ l. l ++ t ∷ []) c.loop-t.invariant.0 ∙ sym (updates ∙ rw is refl),
            ap (λ v. v.items) w.queries-is ∙ c.loop-t.invariant.1 ∙ sym (queries ∙ rw is (append-nil _)),
          )
    ]
