use Rattle.std.proofs.Common.{◌≡◌, map}
use Rattle.esr_order.specs.Chains.{reversed_chain, links_view}
use Rattle.esr_order.proofs.Lists.{changed}
use Rattle.esr_order.proofs.chains.reverse_all.Given as goal

-- the chains so far are turned
abbrev pub invariant-loop-links : goal.invariant-loop-links
invariant-loop-links l = map links_view l.links-items ≡ changed reversed_chain (map links_view l.fn.chains) l.links-index
