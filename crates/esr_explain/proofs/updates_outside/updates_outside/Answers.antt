use Rattle.std.proofs.Common.{◌≡◌, ◌∙◌, Bool, List, ℕ, ap, filter, map, not}
use Rattle.std.proofs.lemmas.Result.{IfOk-weaker}
use Rattle.esr_base.specs.declared.numbers.TxnId.{TxnId}
use Rattle.esr_history.specs.Queries.{updates_committed_before}
use Rattle.esr_history.proofs.Membership.{filter_agree_in}
use Rattle.esr_order.specs.Placements.{is_among}
use Rattle.esr_order.proofs.Commits.{updates_are}
use Rattle.esr_explain.proofs.Amongst.{numbers_kept}
use Rattle.esr_explain.proofs.updates_outside.updates_outside.Goals as goal

pub returns : goal.returns
returns c =
    let h = c.args.history.now.schedule in let q = c.args.q.0 in
    let before : List ℕ = map (λ (t : TxnId). t.0) c.args.before.now in
    let numbers : List ℕ = c.in_ok-numbers.numbers.items in
    let updates : List TxnId = c.in_ok-updates.updates.items in
    let among : ℕ → Bool = λ u. not (is_among c.deref-3.result.now u) in
    let all : map (λ (t : TxnId). t.0) updates ≡ updates_committed_before h q =
    updates_are h q c.deref.result.now (ap (map (λ (t : TxnId). t.0)) c.deref.ensures.value ∙ c.in_ok-committed.ensures) updates c.in_ok-updates.ensures in
    IfOk-weaker c.without.result _ _
    (λ v is.
    ap (map (λ (t : TxnId). t.0)) is
    ∙ (numbers_kept among c.deref-2.result.now
    ∙ (ap (λ (ts : List TxnId). filter among (map (λ (t : TxnId). t.0) ts)) c.deref-2.ensures.value
    ∙ (ap (filter among) all
    ∙ filter_agree_in among (λ u. not (is_among before u)) (updates_committed_before h q) (λ u i. ap (λ (l : List ℕ). not (is_among l u)) c.deref-3.ensures.value ∙ ap not (c.in_ok-numbers.ensures.same u))))))
    c.without.ensures
