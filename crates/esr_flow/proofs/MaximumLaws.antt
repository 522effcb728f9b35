-- Least rooms from left to right, and that raised amounts fit.
use Rattle.std.proofs.Common.{◌≡◌, ℕ, zero, suc, ◌+◌, ◌-◌, ◌^◌, ◌<◌, ◌≤◌, List, [], ◌∷◌, ◌++◌, length, get_or, take, replicate, Some, refl, sym, ap, subst, ◌∙◌, arith, add-one}
use Rattle.std.proofs.lemmas.List.{take_more}
use Rattle.esr_cert.specs.declared.range.TheConstants.{MAX_COST}
use Rattle.esr_flow.specs.Types.{Arc, ResidualArc}
use Rattle.esr_cert.specs.Flow.{amount_at, IsFlow, worth}
use Rattle.esr_flow.specs.Residual.{finish, IsPath, bottleneck, shift, raise}
use Rattle.esr_cert.specs.Network.{Network, IsNetwork}
use Rattle.esr_flow.specs.Augmentation.{Augments, AugmentsFromZero, AugmentsFrom}
use Rattle.esr_flow.specs.Maximum.{InArcs}
use Rattle.esr_flow.specs.Search.{IsShortestPath}
use Rattle.esr_flow.proofs.Labels.{Levels}
use Rattle.esr_flow.proofs.FlowLaws.{After, augmented, path_labels, raise_at_most}

raise_push : (flow : List ℕ) (x : ℕ) (path : List ResidualArc) (s : ResidualArc) → raise flow x (path ++ s ∷ []) ≡ shift (raise flow x path) x s
raise_push flow x [] s = refl
raise_push flow x (t ∷ path) s = raise_push (shift flow x t) x path s

pub raise_more : (flow : List ℕ) (x : ℕ) (path : List ResidualArc) (i : ℕ) (d : ResidualArc) → i < length path → raise flow x (take (i + 1) path) ≡ shift (raise flow x (take i path)) x (get_or path i d)
raise_more flow x path i d l = ap (raise flow x) (take_more path i d l) ∙ raise_push flow x (take i path) (get_or path i d)

levels_take : (d : ℕ → ℕ) (arcs : List Arc) (k : ℕ) (path : List ResidualArc) (n : ℕ) → Levels d arcs k path → Levels d arcs k (take n path)
levels_take d arcs k path zero h = tt
levels_take d arcs k [] (suc n) h = tt
levels_take d arcs k (s ∷ path) (suc n) h = (h.0, h.1, h.2, levels_take d arcs (d (finish arcs s)) path n h.3)

pub path_in_arcs : (arcs : List Arc) (flow : List ℕ) (path : List ResidualArc) (a b : ℕ) → IsPath arcs flow a path b → InArcs arcs path
path_in_arcs arcs flow [] a b h k d l = absurd (omega arith)
path_in_arcs arcs flow (s ∷ path) a b h zero d l = h.1.0
path_in_arcs arcs flow (s ∷ path) a b h (suc k) d l = path_in_arcs arcs flow path (finish arcs s) b h.2 k d (omega arith)

abbrev pub augments : (net : Network) (flow : List ℕ) (path : List ResidualArc) (x : ℕ) → IsShortestPath net flow path → bottleneck net.arcs flow path ≡ Some x → Augments net flow (raise flow x path)
augments net flow path x p e = record { path = path; amount = x; is_path = p.is_path; is_shortest = p.is_shortest; is_bottleneck = e; is_raised = refl }

-- the amounts on the way fit
pub raise_fits : (net : Network) → IsNetwork net → (flow : List ℕ) (path : List ResidualArc) (x : ℕ) → IsFlow net flow → ((i : ℕ) → amount_at flow i ≤ MAX_COST) → ((f : List ℕ) → IsFlow net f → worth net f ≤ MAX_COST) → IsShortestPath net flow path → bottleneck net.arcs flow path ≡ Some x → (k i : ℕ) → amount_at (raise flow x (take k path)) i + x < 2 ^ 64
raise_fits net ok flow path x f amounts small p e k i =
    let a : Augments net flow (raise flow x path) = augments net flow path x p e in
    let after : After net flow (raise flow x path) x = augmented net ok flow (raise flow x path) f a in
    let labels : (d : ℕ → ℕ) × Levels d net.arcs (d net.source) path = (let q = path_labels net flow (raise flow x path) a in (q.0, q.4)) in
    omega (arith, raise_at_most labels.0 net.arcs flow x (take k path) (labels.0 net.source) i (levels_take labels.0 net.arcs (labels.0 net.source) path k labels.1), amounts i, after.raised, small (raise flow x path) after.is_flow)

pub takes_more : (net : Network) (first : List ℕ) (n : ℕ) (flow after : List ℕ) → AugmentsFrom net first n flow → Augments net flow after → AugmentsFrom net first (n + 1) after
takes_more net first n flow after t a = rw add-one (flow, t, a)

-- augmentations from a flow to a second, and from there to a third
takes_join : (net : Network) (first flow : List ℕ) (n k : ℕ) (after : List ℕ) → AugmentsFrom net first n flow → AugmentsFrom net flow k after → AugmentsFrom net first (n + k) after
takes_join net first flow n zero after t h =
    let e : n ≡ n + 0 = omega arith in
    subst (λ m. AugmentsFrom net first m after) e (subst (AugmentsFrom net first n) (sym h) t)
takes_join net first flow n (suc k) after t h =
    let e : suc (n + k) ≡ n + suc k = omega arith in
    subst (λ m. AugmentsFrom net first m after) e (h.0, takes_join net first flow n k h.0 t h.1, h.2)

-- augmentations up to a second flow, and from there to a total count
pub takes_on : (net : Network) (first flow after : List ℕ) (n m : ℕ) → n < m → AugmentsFrom net first n flow → AugmentsFrom net flow (m - n) after → AugmentsFrom net first m after
takes_on net first flow after n m l t h =
    let whole : n + (m - n) ≡ m = omega arith in
    subst (λ k. AugmentsFrom net first k after) whole (takes_join net first flow n (m - n) after t h)

-- from the flow of zeros
pub takes_zeros : (net : Network) (n : ℕ) (flow : List ℕ) → AugmentsFrom net (replicate (length net.arcs) 0) n flow → AugmentsFromZero net n flow
takes_zeros net zero flow h = h
takes_zeros net (suc n) flow h = (h.0, takes_zeros net n h.0 h.1, h.2)
