-- The parts that are gathered make an order among some updates.
use Rattle.std.proofs.Common.{◌≡◌, ◌≢◌, ℕ, ◌*◌, ◌≤◌, false, List, length, AllPairs, refl, sym, ◌∙◌, ap, subst, arith, map, filter}
use Rattle.std.specs.List.{range_with_len}
use Rattle.std.proofs.lemmas.List.{length-map}
use Rattle.esr_base.specs.declared.numbers.TxnId.{TxnId}
use Rattle.esr_history.specs.Machine.{DistanceFunction, Schedule, IsLegal}
use Rattle.esr_history.specs.Operations.{operations}
use Rattle.esr_history.specs.Serial.{is_before}
use Rattle.esr_history.specs.Queries.{must}
use Rattle.esr_history.proofs.Membership.{Pairs-from_all}
use Rattle.esr_order.specs.UpdateOperations.{UpdateOperation}
use Rattle.esr_order.specs.Batches.{batches}
use Rattle.esr_order.specs.Placements.{is_among}
use Rattle.esr_order.specs.ConflictPairs.{IsLexLess}
use Rattle.esr_order.specs.Conflicts.{on_item, AreConflicts, AreNextPaired}
use Rattle.esr_order.specs.Chains.{Chain, chain_from, last_by_update, nth}
use Rattle.esr_order.specs.Orders.{IsConflictOrderOn}
use Rattle.esr_order.proofs.Batches as batches_of
use Rattle.esr_order.proofs.Complete.{order_found}

module _ (d : DistanceFunction) (h : Schedule) (legal : IsLegal d h) (commits : List TxnId) (once : AllPairs (λ u v. u ≢ v) (map (λ t. t.0) commits)) (keeps : AllPairs (λ u v. is_before h v u ≡ false) (map (λ t. t.0) commits)) (count_within_max : length commits ≤ 65535) where
  abbrev us : List ℕ
  us = map (λ (t : TxnId). t.0) commits

  abbrev steps : List UpdateOperation
  steps = batches (operations h) 0 us

  len : length (map (λ (t : TxnId). t.0) commits) ≡ length commits
  len = length-map commits (λ (t : TxnId). t.0)

  pub bounded_pairs : (before : List (ℕ × ℕ)) → AreConflicts steps before → length before ≤ 2 * length (filter (λ o. is_among (map (λ t. t.0) commits) o.txn) (operations h))
  bounded_pairs before conflicting = omega (arith, conflicting.count_within_max, batches_of.counted (operations h) 0 us (Pairs-from_all (λ u v. u ≢ v) us once))

  pub made : (before : List (ℕ × ℕ)) → AllPairs IsLexLess before → AreConflicts steps before × ((x : ℕ) → AreNextPaired before (filter (λ s. s.writes) (on_item x steps)))
      → (chains : List Chain) → chains ≡ map (λ x. chain_from (last_by_update steps x) (length commits)) (range_with_len 0 (length h.opening))
      → (n : ℕ) → n ≤ length commits → (first : List ℕ) → first ≡ range_with_len 0 n
      → (q : ℕ) → map (nth (map (λ t. t.0) commits)) (range_with_len 0 n) ≡ must h q
      → IsConflictOrderOn h q (map (λ t. t.0) commits) (record { commits = commits; before = before; must = first; chains = chains })
  made before ascends pairs chains links n part first firsts q musts =
      let chained : chains ≡ map (λ x. chain_from (last_by_update steps x) (length us)) (range_with_len 0 (length h.opening)) =
      links ∙ ap (λ k. map (λ x. chain_from (last_by_update steps x) k) (range_with_len 0 (length h.opening))) (sym len) in
      let within : n ≤ length us = omega (arith, part, len) in
      let upper_bound : length us ≤ 65535 = omega (arith, count_within_max, len) in
      subst (λ ms. IsConflictOrderOn h q us (record { commits = commits; before = before; must = ms; chains = chains })) (sym firsts)
      (subst (λ cs. IsConflictOrderOn h q us (record { commits = commits; before = before; must = range_with_len 0 n; chains = cs })) (sym chained)
      (order_found d h q legal us once keeps before ascends pairs.0 pairs.1 n within musts upper_bound commits refl))
