use Rattle.std.proofs.Common.{◌≡◌, ◌++◌, take, filter_map}
use Rattle.esr_items.specs.Weights.{weighted}
use Rattle.esr_why.specs.Shortfalls.{import_lack}
use Rattle.esr_why.proofs.shortfall.push_imports.Given as goal

abbrev pub invariant-loop-charge : goal.invariant-loop-charge
invariant-loop-charge l =
    let h = l.machine in
    l.found.items ≡ l.initial.found.items ++ filter_map (λ c. import_lack weighted h c.0.0 c.1) (take l.charge-index l.charges)
