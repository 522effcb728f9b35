use Rattle.std.proofs.Common.{◌≡◌, ◌≤◌, ◌*◌, ◌^◌, take}
use Rattle.esr_history.specs.Ascending.{IsAscendingBy}
use Rattle.esr_ledgers.specs.Books.{number, charged_to_queries, total_of}
use Rattle.esr_ledgers.proofs.ledgers.import_each.Given as goal

abbrev pub invariant-loop-charge : goal.invariant-loop-charge
invariant-loop-charge l = record {
  items : l.accounts.items ≡ charged_to_queries l.initial.accounts.items (take l.charge-index l.charges);
  ascending : IsAscendingBy number l.accounts.items;
  sum : l.imported ≡ total_of (take l.charge-index l.charges);
  upper_bound : l.imported ≤ l.charge-index * 2 ^ 64;
}
