use Rattle.std.proofs.Common.{arith, ◌≡◌, ◌+◌, ◌∙◌, ◌∷◌, ◌++◌, ap, sym, drop, map, length, replicate}
use Rattle.std.proofs.lemmas.List.{append_assoc, drop_more}
use Rattle.esr_cert.specs.ChainStarts.{chain_by_arc_from}
use Rattle.esr_cert.specs.Views.{chain_view}
use Rattle.esr_cert.proofs.chain_starts.chain_by_arc_of.Goals as goal

pub loop-k-preserved : goal.loop-k-preserved
loop-k-preserved c =
    let chains = c.args.chains.now in
    let k = c.loop-k.k in
    let chain = c.index-chains-k.result in
    let chain_by_arc = c.loop-k.chain_by_arc.items in
    let rest = chain_by_arc_from (k + 1) (map chain_view (drop (k + 1) chains)) in
    let here : drop k chains ≡ chain ∷ drop (k + 1) chains = drop_more chains k chain c.loop-k-test.true ∙ ap (λ x. x ∷ drop (k + 1) chains) (sym c.index-chains-k.is) in
    let count : c.len.result ≡ length chain.costs.items = omega (arith, c.len.ensures, chain.costs.ok.0) in
    ap (λ xs. xs ++ rest) c.in_ok-push_chain.ensures
    ∙ append_assoc chain_by_arc (replicate c.len.result k) rest
    ∙ ap (λ n. chain_by_arc ++ (replicate n k ++ rest)) count
    ∙ ap (λ ks. chain_by_arc ++ chain_by_arc_from k (map chain_view ks)) (sym here)
    ∙ c.loop-k.invariant
