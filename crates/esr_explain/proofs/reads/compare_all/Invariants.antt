use Rattle.std.proofs.Common.{◌≡◌, flat_map, take}
use Rattle.esr_items.specs.Values.{value_at}
use Rattle.esr_items.specs.Weights.{weighted}
use Rattle.esr_explain.specs.Explain.{compared_access}
use Rattle.esr_explain.proofs.reads.compare_all.Given as goal

-- the reads so far
abbrev pub invariant-loop-access : goal.invariant-loop-access
invariant-loop-access l =
    l.reads.items ≡ flat_map (compared_access (weighted l.metric) (value_at l.values)) (take l.access-index l.accesses)
