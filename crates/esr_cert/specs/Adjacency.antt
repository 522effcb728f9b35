-- For each node the steps that start at it, in consecutive rows.
use Rattle.std.specs.Prelude.{◌≡◌, ℕ, zero, suc, ◌+◌, ◌*◌, ◌-◌, ◌<◌, ◌≤◌, ◌==◌, List, [], ◌∷◌, ◌++◌, length, get_or, set, take, drop, filter, sum}
pub use Rattle.esr_cert.specs.declared.adjacency.Span.{Span}
use Rattle.esr_cert.specs.declared.adjacency.Adjacency.{Adjacency}
use Rattle.esr_cert.specs.declared.adjacency.TheConstants.{MAX_ARCS}
use Rattle.esr_cert.specs.Network.{Network, Arc}
use Rattle.esr_cert.specs.ResidualArcs.{arc_of, start, step_at, AreOnce, ResidualArc, Forward, Backward}

abbrev pub span_at : List Span → ℕ → Span
span_at spans v = get_or spans v (record { begin = 0; end = 0 })

-- the elements in a span
abbrev pub row_in : {X : Type 0} → List X → Span → List X
row_in list span = take (span.end - span.begin) (drop span.begin list)

-- both steps of each of the first n arcs
abbrev pub residual_arcs_below : ℕ → List ResidualArc
residual_arcs_below zero = []
residual_arcs_below (suc n) = residual_arcs_below n ++ Forward n ∷ Backward n ∷ []

-- those of some steps that start at a node
abbrev pub steps_from : List Arc → ℕ → List ResidualArc → List ResidualArc
steps_from arcs v steps = filter (λ step. start arcs step == v) steps

-- all steps that start at a node, by the numbers of their arcs
abbrev pub row_of : List Arc → ℕ → List ResidualArc
row_of arcs v = steps_from arcs v (residual_arcs_below (length arcs))

-- how many steps start at each node, and how many there are
pub record AreDegrees (arcs : List Arc) (node_count : ℕ) (degrees : List ℕ) : Type 0 where
  pub count : length degrees ≡ node_count
  pub degree : (v : ℕ) → v < node_count → get_or degrees v 0 ≡ length (row_of arcs v)
  pub both : sum degrees ≡ 2 * length arcs

-- the beginnings of consecutive empty rows of these lengths
pub record AreBegun (lengths : List ℕ) (spans : List Span) : Type 0 where
  pub count : length spans ≡ length lengths
  pub begun : (v : ℕ) → v < length lengths
      → span_at spans v ≡ record { begin = sum (take v lengths); end = sum (take v lengths) }

-- the rows of n nodes
pub record AreRows (arcs : List Arc) (n : ℕ) (spans : List Span) (steps : List ResidualArc) : Type 0 where
  pub count : length spans ≡ n
  pub ordered : (v : ℕ) → v < n → (span_at spans v).begin ≤ (span_at spans v).end
  pub inside : (v : ℕ) → v < n → (span_at spans v).end ≤ length steps
  pub row : (v : ℕ) → v < n → row_in steps (span_at spans v) ≡ row_of arcs v

-- the two steps of each of some arcs, each once, and few enough for their numbers
pub record AreSteps (arcs : List Arc) (steps : List ResidualArc) : Type 0 where
  pub count_within_max : length arcs ≤ MAX_ARCS
  pub count : length steps ≡ 2 * length arcs
  pub arc_in_range : (k : ℕ) → k < length steps → arc_of (step_at steps k) < length arcs
  pub once : AreOnce steps

-- the rows of a network, in which no step occurs twice
pub record IsAdjacencyOf (net : Network) (r : Adjacency) : Type 0 where
  pub rows : AreRows net.arcs net.node_count r.spans.items r.steps.items
  pub steps : AreSteps net.arcs r.steps.items

-- the span of a row with one more
abbrev pub longer : Span → Span
longer span = record { begin = span.begin; end = span.end + 1 }

-- the spans after the row of a node has grown by one
abbrev pub lengthen : List Span → ℕ → List Span
lengthen spans v = set spans v (longer (span_at spans v))

-- how many of some steps start at each node
pub record Counted (arcs : List Arc) (node_count : ℕ) (done : List ResidualArc) (counts : List ℕ) : Type 0 where
  pub count : length counts ≡ node_count
  pub each : (v : ℕ) → v < node_count → get_or counts v 0 ≡ length (steps_from arcs v done)
  pub both : sum counts ≡ length done

-- some steps are in their rows, which have these lengths
pub record Filled (arcs : List Arc) (lengths : List ℕ) (done : List ResidualArc) (spans : List Span)
    (steps : List ResidualArc) : Type 0 where
  pub count : length spans ≡ length lengths
  pub total : length steps ≡ sum lengths
  pub begin : (v : ℕ) → v < length lengths → (span_at spans v).begin ≡ sum (take v lengths)
  pub end : (v : ℕ) → v < length lengths
      → (span_at spans v).end ≡ sum (take v lengths) + length (steps_from arcs v done)
  pub fits : (v : ℕ) → v < length lengths → length (steps_from arcs v done) ≤ get_or lengths v 0
  pub step : (v k : ℕ) → v < length lengths → k < length (steps_from arcs v done)
      → step_at steps (sum (take v lengths) + k) ≡ step_at (steps_from arcs v done) k

-- the rows after the first i arcs
pub record IsAdjacencyUpTo (arcs : List Arc) (node_count i : ℕ) (spans : List Span) (steps : List ResidualArc) : Type 0 where
  pub degrees : List ℕ
  pub are : AreDegrees arcs node_count degrees
  pub filled : Filled arcs degrees (residual_arcs_below i) spans steps
