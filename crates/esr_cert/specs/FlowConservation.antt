-- Whether a flow is conserved at a node, by the steps that start there.
use Rattle.std.specs.Prelude.{ℕ, List, Bool, ◌==◌, sum_by}
use Rattle.esr_cert.specs.ResidualArcs.{ResidualArc, Forward, Backward}
use Rattle.esr_cert.specs.Flow.{amount_at}

-- the amount that enters a node on the arc of a step that starts there
abbrev pub amount_in : List ℕ → ResidualArc → ℕ
amount_in flow (Forward i) = 0
amount_in flow (Backward i) = amount_at flow i

-- the amount that leaves it
abbrev pub amount_out : List ℕ → ResidualArc → ℕ
amount_out flow (Forward i) = amount_at flow i
amount_out flow (Backward i) = 0

-- inflow and outflow of a node are equal, by the steps that start there
abbrev pub is_balanced : List ℕ → List ResidualArc → Bool
is_balanced flow steps = sum_by (amount_in flow) steps == sum_by (amount_out flow) steps
