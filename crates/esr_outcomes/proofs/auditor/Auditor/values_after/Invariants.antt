use Rattle.std.proofs.Common.{◌≡◌, flat_map, map, take}
use Rattle.esr_order.specs.Scans.{accesses_in}
use Rattle.esr_outcomes.specs.ValuesAfter.{apply_accesses}
use Rattle.esr_outcomes.proofs.auditor.Auditor.values_after.Given as goal

-- the values after the updates so far
abbrev pub invariant-loop-u : goal.invariant-loop-u
invariant-loop-u l =
    let h = l.self-inside.history.now.schedule in
    l.values.items ≡ apply_accesses h.opening (flat_map (accesses_in h.entries) (map (λ t. t.0) (take l.u-index l.updates)))
