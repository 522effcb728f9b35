use Rattle.std.proofs.Common.{arith, ◌≡◌, ◌+◌, ◌∙◌, [], ◌∷◌, ◌++◌, ap, sym, drop, map, length}
use Rattle.std.proofs.lemmas.List.{append_assoc, drop_more, drop_all}
use Rattle.std.proofs.lemmas.List.Sums.{sum_by_more}
use Rattle.esr_cert.specs.ChainStarts.{chain_starts_from}
use Rattle.esr_cert.specs.Views.{chain_view}
use Rattle.esr_cert.proofs.chain_starts.chain_starts_of.Goals as goal

pub loop-chain-preserved : goal.loop-chain-preserved
loop-chain-preserved c =
    let chains = c.args.chains.now in
    let i = c.loop-chain.chain-index in
    let next = c.loop-chain.next in
    let chain = c.chain-item.result in
    let rest = map chain_view (drop (i + 1) chains) in
    let here : drop i chains ≡ chain ∷ drop (i + 1) chains = drop_more chains i chain c.loop-chain-test.true ∙ ap (λ k. k ∷ drop (i + 1) chains) (sym c.chain-item.is) in
    let count : c.len.result ≡ length chain.costs.items = omega (arith, c.len.ensures, chain.costs.ok.0) in
    let more = sum_by_more (λ k. length k.costs.items) chains i chain c.loop-chain-test.true in
    record {
      list = ap (λ xs. xs ++ chain_starts_from (next + c.len.result) rest) c.in_ok-push.ensures.items
          ∙ append_assoc c.loop-chain.chain_starts.items (next ∷ []) (chain_starts_from (next + c.len.result) rest)
          ∙ ap (λ n. c.loop-chain.chain_starts.items ++ next ∷ chain_starts_from (next + n) rest) count
          ∙ ap (λ ks. c.loop-chain.chain_starts.items ++ chain_starts_from next (map chain_view ks)) (sym here)
          ∙ c.loop-chain.invariant.list;
      next = omega (arith, more, count, c.loop-chain.invariant.next, ap (λ k. length k.costs.items) c.chain-item.is);
    }

pub returns : goal.returns
returns c =
    c.in_ok-push-2.ensures.items
    ∙ ap (λ ks. c.loop-chain.chain_starts.items ++ chain_starts_from c.loop-chain.next (map chain_view ks)) (sym (drop_all c.loop-chain.chain-index c.args.chains.now (omega arith)))
    ∙ c.loop-chain.invariant.list
