-- Flows. A flow is the list of the amounts on the arcs, in the order of the arcs.
use Rattle.std.specs.Prelude.{◌≡◌, ◌≢◌, ℕ, ◌+◌, ◌<◌, List, [], ◌∷◌, length, get_or, Bool, true, false, ◌&&◌, ◌||◌, ◌==◌, nat_le, if◌then◌else◌, Option, Some, None}
use Rattle.std.specs.List.{list_all, range_with_len}
use Rattle.esr_cert.specs.Network.{Arc, Network, arc_at}

-- an amount is at most a limit, if there is one
abbrev pub within : ℕ → Option ℕ → Bool
within amount None = true
within amount (Some limit) = nat_le amount limit

abbrev pub amount_at : List ℕ → ℕ → ℕ
amount_at flow i = get_or flow i 0

-- the total amount on the arcs that pass a test
abbrev pub carried : (Arc → Bool) → List Arc → List ℕ → ℕ
carried p [] flow = 0
carried p (arc ∷ arcs) [] = 0
carried p (arc ∷ arcs) (amount ∷ flow) = (if p arc then amount else 0) + carried p arcs flow

abbrev pub inflow : List Arc → List ℕ → ℕ → ℕ
inflow arcs flow v = carried (λ arc. arc.to == v) arcs flow

abbrev pub outflow : List Arc → List ℕ → ℕ → ℕ
outflow arcs flow v = carried (λ arc. arc.from == v) arcs flow

-- the outflow of the source
abbrev pub worth : Network → List ℕ → ℕ
worth net flow = outflow net.arcs flow net.source

-- one amount for each arc, within its capacity
abbrev pub are_within : List Arc → List ℕ → Bool
are_within [] [] = true
are_within [] (amount ∷ flow) = false
are_within (arc ∷ arcs) [] = false
are_within (arc ∷ arcs) (amount ∷ flow) = within amount arc.capacity && are_within arcs flow

-- the inflow and the outflow of a node are equal
abbrev pub is_conserved_at : List Arc → List ℕ → ℕ → Bool
is_conserved_at arcs flow v = inflow arcs flow v == outflow arcs flow v

-- conservation of flow: at each node except the source and the sink
abbrev pub is_conserved : Network → List ℕ → Bool
is_conserved net flow =
    list_all (λ v. v == net.source || (v == net.sink || is_conserved_at net.arcs flow v)) (range_with_len 0 net.node_count)

-- the meaning of the two tests, arc by arc and node by node
pub record IsFlow (net : Network) (flow : List ℕ) : Type 0 where
  pub same_length : length flow ≡ length net.arcs
  pub within_capacity : (i : ℕ) → i < length net.arcs → within (amount_at flow i) (arc_at net.arcs i).capacity ≡ true
  pub conserved : (v : ℕ) → v < net.node_count → v ≢ net.source → v ≢ net.sink
      → inflow net.arcs flow v ≡ outflow net.arcs flow v
