use Rattle.std.proofs.Common.{arith, rules, ◌-◌, ◌+◌, ◌≡◌, get_or, ap, leb}
use Rattle.std.proofs.lemmas.List.Sorted.{IsPartitionedBy-leb, IsPartitionPoint-from_clause}
use Rattle.esr_cert.proofs.ChainStartsLaws.{IsFound, found}
use Rattle.esr_cert.proofs.chain_starts.row_at.Goals as goal

pub overflow_sub-result : goal.overflow_sub-result
overflow_sub-result c =
    (found c.args.chain_starts.now c.args.number c.partition_point.result c.requires.some c.requires.zero c.partition_point.ensures.bound
    (IsPartitionPoint-from_clause (λ n. leb n c.args.number) _ _ c.partition_point.ensures.partitioned (IsPartitionedBy-leb (λ n. n) c.args.chain_starts.now c.args.number c.requires.rising) (λ a r f' called. search rules))).some

pub returns-clause-begun : goal.returns-clause-begun
returns-clause-begun c =
    (found c.args.chain_starts.now c.args.number c.partition_point.result c.requires.some c.requires.zero c.partition_point.ensures.bound
    (IsPartitionPoint-from_clause (λ n. leb n c.args.number) _ _ c.partition_point.ensures.partitioned (IsPartitionedBy-leb (λ n. n) c.args.chain_starts.now c.args.number c.requires.rising) (λ a r f' called. search rules))).at

pub returns-clause-last : goal.returns-clause-last
returns-clause-last c =
    let f : IsFound c.args.chain_starts.now c.args.number c.partition_point.result =
    found c.args.chain_starts.now c.args.number c.partition_point.result c.requires.some c.requires.zero c.partition_point.ensures.bound
    (IsPartitionPoint-from_clause (λ n. leb n c.args.number) _ _ c.partition_point.ensures.partitioned (IsPartitionedBy-leb (λ n. n) c.args.chain_starts.now c.args.number c.requires.rising) (λ a r f' called. search rules)) in
    let again : c.partition_point.result - 1 + 1 ≡ c.partition_point.result = omega (arith, f.some) in
    λ l. omega (arith, ap (λ i. get_or c.args.chain_starts.now i 0) again, f.past (omega (arith, again)))
