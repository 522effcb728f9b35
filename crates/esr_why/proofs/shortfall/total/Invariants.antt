use Rattle.std.proofs.Common.{◌≡◌, ◌≤◌, ◌*◌, ◌^◌, take, sum_by}
use Rattle.esr_why.proofs.shortfall.total.Given as goal

abbrev pub invariant-loop-charge : goal.invariant-loop-charge
invariant-loop-charge l = record {
  total : l.sum ≡ sum_by (λ c. c.1) (take l.charge-index l.charges);
  upper_bound : l.sum ≤ l.charge-index * 2 ^ 64;
}
