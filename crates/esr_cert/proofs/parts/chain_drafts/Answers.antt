use Rattle.std.proofs.Common.{◌++◌, ◌∷◌, [], map, take, ap, ◌∙◌, sym, arith, get_or}
use Rattle.std.proofs.lemmas.List.{map_push, take_all, take_more}
use Rattle.esr_cert.specs.Views.{chain_view}
use Rattle.esr_cert.specs.ProblemDrafts.{drafted_chain}
use Rattle.esr_cert.proofs.parts.chain_drafts.Goals as goal

pub loop-chain-preserved : goal.loop-chain-preserved
loop-chain-preserved c =
    let ks = c.args.chains.now in let i = c.loop-chain.chain-index in let x = c.chain-item.result in let d = c.in_ok-chain_draft.field-0 in
    ap (map drafted_chain) c.in_ok-push.ensures.items
    ∙ (map_push drafted_chain c.loop-chain.drafts.items d
    ∙ (ap (λ ds. ds ++ drafted_chain d ∷ []) c.loop-chain.invariant
    ∙ (ap (λ k. map chain_view (take i ks) ++ k ∷ []) c.in_ok-chain_draft.ensures
    ∙ (ap (λ k. map chain_view (take i ks) ++ chain_view k ∷ []) c.chain-item.is
    ∙ sym (ap (map chain_view) (take_more ks i x (omega arith)) ∙ map_push chain_view (take i ks) (get_or ks i x))))))

pub returns : goal.returns
returns c = c.loop-chain.invariant ∙ ap (map chain_view) (take_all c.loop-chain.chain-index c.args.chains.now (omega arith))
