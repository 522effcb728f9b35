use Rattle.std.proofs.Common.{◌≡◌, true, length, take, map, sum_by}
use Rattle.std.specs.List.{concat}
use Rattle.esr_cert.specs.Certificate.{are_rows_matched}
use Rattle.esr_cert.specs.Views.{chain_view, rows_of}
use Rattle.esr_flow.proofs.solver.chain_rows.Given as goal

abbrev pub invariant-loop-chain : goal.invariant-loop-chain
invariant-loop-chain l = record {
  place : l.at ≡ sum_by (λ chain. length chain.costs.items) (take l.chain-index l.chains);
  cut : concat (rows_of l.rows.items) ≡ take l.at l.flow;
  matched : are_rows_matched (map chain_view (take l.chain-index l.chains)) (rows_of l.rows.items) ≡ true;
}
