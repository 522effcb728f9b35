use Rattle.std.proofs.Common.{◌≡◌, ◌≤◌, ◌*◌, ◌^◌, take, find, None}
use Rattle.std.specs.List.{AllByRecursion}
use Rattle.esr_history.specs.Ascending.{IsAscendingBy}
use Rattle.esr_ledgers.specs.Books.{number, charged_to_queries, total_of, would_pass, IsWithinLimit}
use Rattle.esr_ledgers.proofs.ledgers.import_within.Given as goal

abbrev pub invariant-loop-i : goal.invariant-loop-i
invariant-loop-i l = record {
  none_over : find (λ c. would_pass l.fn.accounts.items c.0.0 c.1) (take l.i l.charges) ≡ None;
  items : l.accounts.items ≡ charged_to_queries l.fn.accounts.items (take l.i l.charges);
  ascending : IsAscendingBy number l.accounts.items;
  within : AllByRecursion IsWithinLimit l.accounts.items;
  sum : l.total ≡ total_of (take l.i l.charges);
  upper_bound : l.total ≤ l.i * 2 ^ 64;
}
