use Rattle.std.proofs.Common.{◌≡◌, List, take}
use Rattle.esr_ledgers.specs.Books.{charged_to_queries, Account}
use Rattle.esr_ledgers.proofs.ledgers.undo_imports.Given as goal

-- the first i charges are left
abbrev pub invariant-loop-i : goal.invariant-loop-i
invariant-loop-i l = (before : List Account) → l.fn.accounts.items ≡ charged_to_queries before (take l.fn.count l.charges) → l.accounts.items ≡ charged_to_queries before (take l.i l.charges)
