use Rattle.std.proofs.Common.{◌≡◌, ℕ, ◌≤◌, map}
use Rattle.esr_order.specs.Orders.{chain_at}
use Rattle.esr_cert.specs.Views.{chain_view}
use Rattle.esr_audit.specs.Reads.{chain_of_item, items_in}
use Rattle.esr_audit.proofs.chains.take_chains.Given as goal

abbrev pub invariant-loop-x : goal.invariant-loop-x
invariant-loop-x g l = record {
  chains : map chain_view l.chains.items ≡ map (chain_of_item (g.M.Metric.distance_by l.history.schedule.weights) l.history.schedule.opening l.initial.order l.reads) (items_in l.reads l.x);
  left : (y : ℕ) → l.x ≤ y → chain_at l.order y ≡ chain_at l.initial.order y;
  commits : l.order.commits ≡ l.initial.order.commits;
  before : l.order.before ≡ l.initial.order.before;
  must : l.order.must ≡ l.initial.order.must;
}
