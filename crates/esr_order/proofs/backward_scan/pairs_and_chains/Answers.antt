use Rattle.std.proofs.Common.{◌∙◌, ap, length, map}
use Rattle.esr_order.specs.Chains.{links_view}
use Rattle.esr_order.proofs.Lists.{written_back}
use Rattle.esr_order.proofs.backward_scan.pairs_and_chains.Goals as goal

pub returns-clause-chains : goal.returns-clause-chains
returns-clause-chains g c =
    let chains = c.in_ok-chains.chains in
    ap (map links_view) (written_back c.gather_into.new.chains chains.items chains.len chains.ok.0 (c.in_ok-gather_into.ensures.len ∙ ap length c.deref_mut.ensures.value))
    ∙ c.in_ok-gather_into.ensures.chains
