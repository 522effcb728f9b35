use Rattle.std.proofs.Common.{◌≡◌, ◌+◌, ◌&&◌, ◌≢◌, false, true, map, drop, length, sym, ap, ◌∙◌, arith}
use Rattle.std.proofs.lemmas.List.{length-map}
use Rattle.esr_cert.specs.Capacities.{is_row_within, are_rows_within}
use Rattle.esr_cert.specs.Views.{chain_view, rows_of}
use Rattle.esr_cert.proofs.Steps.{drop_map_more, rows_within_step, rows_within_apart}
use Rattle.esr_cert.proofs.checker.are_rows_within.Goals as goal

pub returns-then-chains-rows : goal.returns-then-chains-rows
returns-then-chains-rows c =
    let apart : length (map chain_view c.args.chains.now) ≢ length (rows_of c.args.rows.now) = rw (length-map, length-map) c.if-chains-rows.true in
    sym (rows_within_apart (map chain_view c.args.chains.now) (rows_of c.args.rows.now) apart)

pub returns-then-not-is_row_within : goal.returns-then-not-is_row_within
returns-then-not-is_row_within c =
    let ks = map chain_view c.args.chains.now in
    let fs = rows_of c.args.rows.now in
    let i = c.loop-i.i in
    let step = rows_within_step ks fs i (chain_view c.index-chains-i.result) c.index-rows-i.result.items (drop_map_more chain_view c.args.chains.now i c.index-chains-i.result c.loop-i-test.true c.index-chains-i.is) (drop_map_more (λ f. f.items) c.args.rows.now i c.index-rows-i.result (omega arith) c.index-rows-i.is) in
    let here : is_row_within c.index-chains-i.result.costs.items c.index-rows-i.result.items ≡ false = cc in
    sym (sym c.loop-i.invariant ∙ step ∙ ap (λ b. b && are_rows_within (drop (i + 1) ks) (drop (i + 1) fs)) here)

pub loop-i-preserved : goal.loop-i-preserved
loop-i-preserved c =
    let ks = map chain_view c.args.chains.now in
    let fs = rows_of c.args.rows.now in
    let i = c.loop-i.i in
    let step = rows_within_step ks fs i (chain_view c.index-chains-i.result) c.index-rows-i.result.items (drop_map_more chain_view c.args.chains.now i c.index-chains-i.result c.loop-i-test.true c.index-chains-i.is) (drop_map_more (λ f. f.items) c.args.rows.now i c.index-rows-i.result (omega arith) c.index-rows-i.is) in
    let here : is_row_within c.index-chains-i.result.costs.items c.index-rows-i.result.items ≡ true = cc in
    sym (step ∙ ap (λ b. b && are_rows_within (drop (i + 1) ks) (drop (i + 1) fs)) here) ∙ c.loop-i.invariant
