use Rattle.std.proofs.Common.{◌≡◌, ◌<◌, ◌∙◌, sym, ap, map, take, length, get_or, sum_by, arith}
use Rattle.std.proofs.lemmas.List.{length-map}
use Rattle.std.proofs.lemmas.List.Sums.{sum_by_more}
use Rattle.esr_cert.specs.Problem.{greatest}
use Rattle.esr_cert.specs.Views.{chain_view}
use Rattle.esr_cert.proofs.Steps.{get_or_map_read}
use Rattle.esr_cert.proofs.range.greatest_costs.Goals as goal

pub loop-chain-preserved : goal.loop-chain-preserved
loop-chain-preserved c =
    let xs = map chain_view c.args.chains.now in
    let i = c.loop-chain.chain-index in
    let e = chain_view c.chain-item.result in
    let within : i < length xs = rw length-map (omega arith) in
    let read : get_or xs i e ≡ e = get_or_map_read chain_view c.args.chains.now i c.chain-item.result (omega arith) c.chain-item.is in
    let more = sum_by_more (λ k. greatest k.costs) xs i e within in
    let here : greatest (get_or xs i e).costs ≡ c.greatest.result = ap (λ k. greatest k.costs) read ∙ sym (c.greatest.ensures ∙ ap greatest c.deref.ensures.value) in
    let kept : c.loop-chain.sum ≡ sum_by (λ k. greatest k.costs) (take i xs) = c.loop-chain.invariant.0 in
    (omega (arith, more, kept, here), omega (arith, c.loop-chain.invariant.1, c.greatest.type_inv))
