-- Residual arcs, the steps of paths: forward over an arc of a network, or backward over it.
use Rattle.std.specs.Prelude.{◌≡◌, ℕ, ◌+◌, ◌*◌, ◌<◌, ◌||◌, ◌==◌, Bool, true, false, List, [], ◌∷◌, length, get_or}
pub use Rattle.esr_cert.specs.declared.residual.ResidualArc.{ResidualArc}
pub use Rattle.esr_cert.specs.declared.residual.ResidualArc.TheVariants.{Forward, Backward}
use Rattle.esr_cert.specs.Network.{arc_at, Arc}

abbrev pub arc_of : ResidualArc → ℕ
arc_of (Forward i) = i
arc_of (Backward i) = i

-- the position of a step among all: by its arc, forward before backward
abbrev pub rank_of : ResidualArc → ℕ
rank_of (Forward i) = 2 * i
rank_of (Backward i) = 2 * i + 1

-- the node at which a step starts
abbrev pub start : List Arc → ResidualArc → ℕ
start arcs (Forward i) = (arc_at arcs i).from
start arcs (Backward i) = (arc_at arcs i).to

-- the step in the other direction over the same arc
abbrev pub opposite : ResidualArc → ResidualArc
opposite (Forward i) = Backward i
opposite (Backward i) = Forward i

abbrev pub step_at : List ResidualArc → ℕ → ResidualArc
step_at steps k = get_or steps k (Forward 0)

abbrev pub same_step : ResidualArc → ResidualArc → Bool
same_step (Forward i) (Forward j) = i == j
same_step (Forward i) (Backward j) = false
same_step (Backward i) (Forward j) = false
same_step (Backward i) (Backward j) = i == j

abbrev pub has_step : List ResidualArc → ResidualArc → Bool
has_step [] s = false
has_step (t ∷ steps) s = same_step t s || has_step steps s

-- no step occurs twice
abbrev pub AreOnce : List ResidualArc → Type 0
AreOnce steps = (j k : ℕ) → j < length steps → k < length steps → step_at steps j ≡ step_at steps k → j ≡ k

-- a list of steps has those that start at a node, each once, and no others
pub record HasSteps (arcs : List Arc) (v : ℕ) (steps : List ResidualArc) : Type 0 where
  pub starts : (k : ℕ) → k < length steps
      → (arc_of (step_at steps k) < length arcs) × (start arcs (step_at steps k) ≡ v)
  pub once : AreOnce steps
  pub all : (step : ResidualArc) → arc_of step < length arcs → start arcs step ≡ v → has_step steps step ≡ true
