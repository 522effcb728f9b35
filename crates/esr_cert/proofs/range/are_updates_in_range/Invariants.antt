use Rattle.std.proofs.Common.{◌≡◌, ◌&&◌, nat_lt, nat_le, drop, map}
use Rattle.std.specs.List.{list_all}
use Rattle.esr_base.specs.declared.limits.TheConstants.{MAX_TRANSACTIONS}
use Rattle.esr_cert.proofs.range.are_updates_in_range.Given as goal

abbrev pub invariant-loop-update : goal.invariant-loop-update
invariant-loop-update l = list_all (λ t. nat_lt 0 t && nat_le t MAX_TRANSACTIONS) (drop l.update-index (map (λ t. t.0) l.updates)) ≡ list_all (λ t. nat_lt 0 t && nat_le t MAX_TRANSACTIONS) (map (λ t. t.0) l.updates)
