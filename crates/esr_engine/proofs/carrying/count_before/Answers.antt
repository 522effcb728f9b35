use Rattle.std.proofs.Common.{rules, nat_lt, sym}
use Rattle.std.proofs.lemmas.List.Sorted.{IsPartitionedBy-ltb, IsPartitionPoint-from_clause}
use Rattle.esr_engine.specs.declared.carrying.ActiveTxn.{ActiveTxn}
use Rattle.esr_engine.proofs.ActiveOperations.{count_to}
use Rattle.esr_engine.proofs.carrying.count_before.Goals as goal

pub returns : goal.returns
returns c =
    let active = c.args.active.now in let t = c.args.t.0 in
    sym (count_to (λ (a : ActiveTxn). nat_lt a.txn.0 t) active c.partition_point.result c.partition_point.ensures.bound
    (IsPartitionPoint-from_clause (λ (a : ActiveTxn). nat_lt a.txn.0 t) _ _ c.partition_point.ensures.partitioned (IsPartitionedBy-ltb (λ (a : ActiveTxn). a.txn.0) active t c.requires) (λ a r f' called. search rules)))
