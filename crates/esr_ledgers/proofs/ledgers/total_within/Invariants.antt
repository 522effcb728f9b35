use Rattle.std.proofs.Common.{◌≡◌, ◌≤◌, ◌*◌, ◌^◌, take, None, find}
use Rattle.esr_ledgers.specs.Books.{would_pass, total_of}
use Rattle.esr_ledgers.proofs.ledgers.total_within.Given as goal

abbrev pub invariant-loop-charge : goal.invariant-loop-charge
invariant-loop-charge l = record {
  none_over : find (λ c. would_pass l.accounts c.0.0 c.1) (take l.charge-index l.charges) ≡ None;
  sum : l.total ≡ total_of (take l.charge-index l.charges);
  upper_bound : l.total ≤ l.charge-index * 2 ^ 64;
}
