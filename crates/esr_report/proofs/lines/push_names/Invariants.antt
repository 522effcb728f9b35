use Rattle.std.proofs.Common.{◌≡◌, ◌++◌, ◌∷◌, map, take}
use Rattle.std.specs.List.{join_with_byte}
use Rattle.esr_base.specs.declared.numbers.TxnId.{TxnId}
use Rattle.esr_report.specs.Names.{name_of_transaction}
use Rattle.esr_report.proofs.lines.push_names.Given as goal

abbrev pub invariant-loop-txn : goal.invariant-loop-txn
invariant-loop-txn g l =
    (first : TxnId) × (l.txns ≡ first ∷ l.rest)
    × (l.out.items ≡ l.fn.out.items ++ join_with_byte 44 (name_of_transaction (g.N.NamesByPosition.names l.fn.names) first.0 ∷ map (λ (t : TxnId). name_of_transaction (g.N.NamesByPosition.names l.fn.names) t.0) (take l.txn-index l.rest)))
