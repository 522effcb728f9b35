use Rattle.std.proofs.Common.{◌≡◌, ◌++◌, flat_map, take}
use Rattle.esr_explain.specs.Explain.{charge_line}
use Rattle.esr_explain.proofs.charges.push_charges.Given as goal

-- the lines so far
abbrev pub invariant-loop-charge : goal.invariant-loop-charge
invariant-loop-charge l = l.out.items ≡ l.initial.out.items ++ flat_map (charge_line l.items l.transactions) (take l.charge-index l.charges)
