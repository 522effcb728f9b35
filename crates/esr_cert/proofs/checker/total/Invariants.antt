use Rattle.std.proofs.Common.{◌≡◌, ◌≤◌, ◌*◌, take, sum}
use Rattle.esr_cert.proofs.checker.total.Given as goal

abbrev pub invariant-loop-amount : goal.invariant-loop-amount
invariant-loop-amount l = (l.sum ≡ sum (take l.amount-index l.amounts)) × (l.sum ≤ l.amount-index * 18446744073709551615)
