use Rattle.std.proofs.Common.{rules, arith, ◌≡◌, ℕ, ◌+◌, ◌∙◌, ◌<◌, true, get_or, length, set, sym, ap, subst, below_more, Option, Some, None, refl}
use Rattle.esr_cert.specs.Network.{arc_at}
use Rattle.esr_cert.specs.Flow.{within, amount_at}
use Rattle.esr_flow.specs.Types.{Arc}
use Rattle.esr_flow.specs.ResidualGraph.{network_arcs}
use Rattle.esr_flow.proofs.SumLaws.{sums_more, sums_same}
use Rattle.esr_flow.proofs.flow_check.sum_arcs.Goals as goal

pub loop-i-preserved : goal.loop-i-preserved
loop-i-preserved c =
    let arcs = network_arcs c.args.graph.now in let flow = c.args.flow.now in let i = c.loop-i.i in let node_count = c.args.graph.now.node_count in
    let is : c.arc-arc.result ≡ arc_at arcs i = c.arc-arc.ensures in
    let added : c.add_arc.result ≡ true = search rules in
    let arc_in_range : i < length arcs = omega (arith, c.loop-i-test.true, c.requires.flow) in
    let ends = c.args.graph.now.kept.is_network.ends i arc_in_range in
    let capacity : within (get_or flow i 0) (arc_at arcs i).capacity ≡ true = ap (λ (a : Arc). within (get_or flow i 0) a.capacity) (sym is) ∙ c.add_arc.ensures.capacity added in
    let to : c.add_arc.new.inflows ≡ set c.loop-i.inflows (arc_at arcs i).to (get_or c.loop-i.inflows (arc_at arcs i).to 0 + amount_at flow i) =
    subst (λ (a : Arc). c.add_arc.new.inflows ≡ set c.loop-i.inflows a.to (get_or c.loop-i.inflows a.to 0 + amount_at flow i)) is (c.add_arc.ensures.inflows added) in
    let out : c.add_arc.new.outflows ≡ set c.loop-i.outflows (arc_at arcs i).from (get_or c.loop-i.outflows (arc_at arcs i).from 0 + amount_at flow i) =
    subst (λ (a : Arc). c.add_arc.new.outflows ≡ set c.loop-i.outflows a.from (get_or c.loop-i.outflows a.from 0 + amount_at flow i)) is (c.add_arc.ensures.outflows added) in record {
      capacities = below_more _ _ c.loop-i.invariant.capacities capacity;
      upper_bound = below_more _ _ (λ k l. omega (arith, c.loop-i.invariant.upper_bound k l, c.max-greatest.ensures)) (omega (arith, c.max-greatest.ensures));
      to = sums_more arcs flow c.requires.flow i arc_in_range (λ a. a.to) c.loop-i.inflows c.add_arc.new.inflows node_count (omega (arith, c.loop-i.auto.inflows, c.requires.inflows)) ends.1 to c.loop-i.invariant.to;
      out = sums_more arcs flow c.requires.flow i arc_in_range (λ a. a.from) c.loop-i.outflows c.add_arc.new.outflows node_count (omega (arith, c.loop-i.auto.outflows, c.requires.outflows)) ends.0 out c.loop-i.invariant.out;
    }

nothing_within : (limit : Option ℕ) → within 0 limit ≡ true
nothing_within None = refl
nothing_within (Some limit) = search rules

pub loop-i-preserved-then-amount-eq0 : goal.loop-i-preserved-then-amount-eq0
loop-i-preserved-then-amount-eq0 c =
    let arcs = network_arcs c.args.graph.now in let flow = c.args.flow.now in let i = c.loop-i.i in let node_count = c.args.graph.now.node_count in
    let arc_in_range : i < length arcs = omega (arith, c.loop-i-test.true, c.requires.flow) in
    let none : amount_at flow i ≡ 0 = c.if-amount-eq0.true in record {
      capacities = below_more _ _ c.loop-i.invariant.capacities (subst (λ n. within n (arc_at arcs i).capacity ≡ true) (sym none) (nothing_within (arc_at arcs i).capacity));
      upper_bound = below_more _ _ c.loop-i.invariant.upper_bound (omega (arith, none));
      to = sums_same arcs flow c.requires.flow i arc_in_range (λ a. a.to) c.loop-i.inflows node_count none c.loop-i.invariant.to;
      out = sums_same arcs flow c.requires.flow i arc_in_range (λ a. a.from) c.loop-i.outflows node_count none c.loop-i.invariant.out;
    }
