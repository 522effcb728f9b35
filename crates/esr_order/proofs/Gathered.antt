-- How many updates a query has.
use Rattle.std.proofs.Common.{◌≡◌, ℕ, ◌≤◌, List, length, sym, ◌∙◌, ap, arith, map}
use Rattle.std.proofs.lemmas.List.{length-map}
use Rattle.esr_base.specs.declared.numbers.TxnId.{TxnId}
use Rattle.esr_history.specs.Machine.{DistanceFunction, Schedule, IsLegal}
use Rattle.esr_history.specs.Queries.{updates_committed_before}
use Rattle.esr_order.proofs.ConflictOrder.{bounded_updates}

module _ (d : DistanceFunction) (h : Schedule) (q : ℕ) (legal : IsLegal d h) (commits : List TxnId) (same : map (λ t. t.0) commits ≡ updates_committed_before h q) where
  pub commits_length : length commits ≡ length (updates_committed_before h q)
  commits_length = sym (length-map commits (λ (t : TxnId). t.0)) ∙ ap length same

  pub commits_bounded : length commits ≤ 65535
  commits_bounded = omega (arith, bounded_updates d h q legal, commits_length)
