use Rattle.std.proofs.Common.{◌≡◌, slice_get}
use Rattle.std.specs.List.{filter_map, range_with_len}
use Rattle.esr_items.specs.Weights.{weighted}
use Rattle.esr_explain.specs.Explain.{charge_at}
use Rattle.esr_explain.proofs.charges.charges_of.Given as goal

abbrev pub invariant-loop : goal.invariant-loop
invariant-loop l = let h = l.history.schedule in record {
  history : l.replay.history ≡ h;
  count : l.replay.count ≡ l.counter;
  charges : l.charges.items ≡ filter_map (λ i. charge_at weighted h l.q.0 i (slice_get h.entries i)) (range_with_len 0 l.counter);
}
