use Rattle.std.proofs.Common.{arith, ◌≡◌, ℕ, ◌+◌, ◌-◌, ◌∷◌, [], ◌++◌, length, get_or, take, drop, map, sum_by, refl, sym, ◌∙◌, ap}
use Rattle.std.specs.List.{concat}
use Rattle.std.proofs.lemmas.List.{take_more}
use Rattle.std.proofs.lemmas.List.Sums.{sum_by_more}
use Rattle.esr_cert.specs.declared.problem.Chain.{Chain}
use Rattle.esr_cert.specs.Certificate.{are_rows_matched}
use Rattle.esr_cert.specs.Views.{chain_view, rows_of}
use Rattle.esr_flow.proofs.CertificateLaws.{cut_more, matched_more, sum_take, row_long}
use Rattle.esr_flow.proofs.solver.chain_rows.Goals as goal

pub loop-chain-init : goal.loop-chain-init
loop-chain-init c = record {
  place = refl;
  cut = ap (λ rs. concat (rows_of rs)) c.new-rows.ensures.items;
  matched = ap (λ rs. are_rows_matched [] (rows_of rs)) c.new-rows.ensures.items;
}

pub loop-chain-preserved : goal.loop-chain-preserved
loop-chain-preserved c =
    let i : ℕ = c.loop-chain.chain-index in
    let row : c.in_ok-row.row.items ≡ take ((c.loop-chain.at + c.len.result) - c.loop-chain.at) (drop c.loop-chain.at c.args.flow.now) = c.in_ok-row.ensures.items_if_clones_equal (λ x y e. e) in
    let more : sum_by (λ (chain : Chain). length chain.costs.items) (take (i + 1) c.args.chains.now) ≡ sum_by (λ (chain : Chain). length chain.costs.items) (take i c.args.chains.now) + length (get_or c.args.chains.now i c.chain-item.result).costs.items =
    sum_by_more (λ (chain : Chain). length chain.costs.items) c.args.chains.now i c.chain-item.result c.loop-chain-test.true in
    let size : c.len.result ≡ length c.chain-item.result.costs.items = omega (arith, c.len.ensures, c.chain-item.result.costs.ok.0) in
    let item : length c.chain-item.result.costs.items ≡ length (get_or c.args.chains.now i c.chain-item.result).costs.items = ap (λ (x : Chain). length x.costs.items) c.chain-item.is in
    let long : length c.in_ok-row.row.items ≡ c.len.result = row_long c.in_ok-row.row.items c.args.flow.now c.loop-chain.at c.len.result row (omega (arith, c.loop-chain.invariant.place, sum_take c.args.chains.now (i + 1), c.requires)) in
    let front : take (i + 1) c.args.chains.now ≡ take i c.args.chains.now ++ c.chain-item.result ∷ [] =
    take_more c.args.chains.now i c.chain-item.result c.loop-chain-test.true ∙ ap (λ (x : Chain). take i c.args.chains.now ++ x ∷ []) (sym c.chain-item.is) in
    record {
      place = omega (arith, c.loop-chain.invariant.place);
      cut = ap (λ rs. concat (rows_of rs)) c.in_ok-push.ensures.items ∙ cut_more c.loop-chain.rows.items c.in_ok-row.row c.args.flow.now c.loop-chain.at c.len.result c.loop-chain.invariant.cut row;
      matched =
          ap (λ cs. are_rows_matched (map chain_view cs) (rows_of c.push.new.self.items)) front
          ∙ ap (λ rs. are_rows_matched (map chain_view (take i c.args.chains.now ++ c.chain-item.result ∷ [])) (rows_of rs)) c.in_ok-push.ensures.items
          ∙ matched_more (take i c.args.chains.now) c.loop-chain.rows.items c.chain-item.result c.in_ok-row.row c.loop-chain.invariant.matched (long ∙ size);
    }
