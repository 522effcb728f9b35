-- The invariants of an augmentation along a guided path.
use Rattle.std.proofs.Common.{◌≡◌, ℕ, ◌+◌, ◌-◌, ◌*◌, ◌≤◌, List, length, sym, subst, arith}
use Rattle.esr_flow.specs.Types.{ResidualArc}
use Rattle.esr_cert.specs.Network.{Network, IsNetwork}
use Rattle.esr_flow.specs.Residual.{Falls, raise}
use Rattle.esr_flow.specs.Augmentation.{Augments, AugmentsFrom}
use Rattle.esr_flow.specs.Maximum.{IsStart}
use Rattle.esr_cert.specs.Flow.{worth}
use Rattle.esr_flow.specs.Search.{label_at, Guides, IsGuided}
use Rattle.esr_flow.proofs.Labels.{Levels, ResidualCapacities, levels_from, falls_after}
use Rattle.esr_flow.proofs.Phases.{capacities_from, bottle_from, amount_pos, bounded_augmentations}
use Rattle.esr_flow.proofs.FlowLaws.{Taken, taken}
use Rattle.esr_flow.proofs.MaximumLaws.{takes_more}

-- a flow that took augmentations from another, from a count of them to n, with labels that guide
pub record Running (net : Network) (first flow labels : List ℕ) (base n value : ℕ) : Type 0 where
  pub start : IsStart net first
  pub since : base ≤ n
  pub takes : AugmentsFrom net first (n - base) flow
  pub value_is : value ≡ worth net flow
  pub guides : Guides net flow labels

-- the labels guide as before after any augmentation by which some guided path was shortest
pub guides_after : (net : Network) (flow after labels : List ℕ) (path : List ResidualArc) → Guides net flow labels → IsGuided net flow labels path → Augments net flow after → Guides net after labels
guides_after net flow after labels path g p a =
    let short : length a.path ≤ length path = a.is_shortest path p.is_shortest_path.is_path in
    let h : Levels (label_at labels) net.arcs (label_at labels net.source) a.path = levels_from net.arcs flow (label_at labels) g.falls a.path net.source net.sink a.is_path (omega (arith, short, p.steps, g.at_sink)) in
    let r : ResidualCapacities net.arcs flow a.amount a.path = capacities_from net.arcs flow a.amount a.path a.is_bottleneck in
    let x : 1 ≤ a.amount = amount_pos net.arcs flow a.amount a.path net.source net.sink a.is_path (bottle_from net.arcs flow a.amount a.path a.is_bottleneck) in
    let f : Falls net.arcs (raise flow a.amount a.path) (label_at labels) = falls_after (label_at labels) net.arcs flow a.amount a.path (label_at labels net.source) x h r g.falls in
    record { count = g.count; falls = subst (λ fl. Falls net.arcs fl (label_at labels)) (sym a.is_raised) f; at_sink = g.at_sink }

pub run_more : (net : Network) → (first flow after labels : List ℕ) (path : List ResidualArc) (base n value x : ℕ) → Running net first flow labels base n value → IsGuided net flow labels path → Augments net flow after → worth net after ≡ worth net flow + x
    → Running net first after labels base (n + 1) (value + x)
run_more net first flow after labels path base n value x r p a e = record {
  start = r.start;
  since = omega (arith, r.since);
  takes =
      let same : (n - base) + 1 ≡ (n + 1) - base = omega (arith, r.since) in
      subst (λ k. AugmentsFrom net first k after) same (takes_more net first (n - base) flow after r.takes a);
  value_is = omega (arith, r.value_is, e);
  guides = guides_after net flow after labels path r.guides p a;
}

pub running_flow : (net : Network) → IsNetwork net → (first flow labels : List ℕ) (base n value : ℕ) → Running net first flow labels base n value → Taken net first (n - base) flow
running_flow net ok first flow labels base n value r = taken net ok first r.start (n - base) flow r.takes

pub running_bounded : (net : Network) → IsNetwork net → (first flow labels : List ℕ) (base n value : ℕ) → Running net first flow labels base n value → n ≤ net.node_count * length net.arcs + base
running_bounded net ok first flow labels base n value r =
    omega (arith, bounded_augmentations net ok first r.start.is_flow.same_length (n - base) flow r.takes)
