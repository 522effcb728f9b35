use Rattle.std.proofs.Common.{◌≤◌, sym, subst, ◌∙◌, arith, Contains}
use Rattle.std.specs.List.Sorted.{IsStrictlyIncreasing}
use Rattle.std.proofs.lemmas.List.Filters.{dedup_is}
use Rattle.std.proofs.lemmas.List.Kept.{Contains-dedup_nat, Contains-from_dedup}
use Rattle.std.proofs.lemmas.List.Sorted.{Contains-permutation, IsPermutation-sym}
use Rattle.std.proofs.lemmas.Map.Keys.{IsStrictlyIncreasing-dedup}
use Rattle.esr_history.proofs.Membership.{In-Contains, Contains-In}
use Rattle.esr_order.proofs.Commits.{AreEndsBelow, ends_none, ends_more, ends_all, end_some, known_below}
use Rattle.esr_order.proofs.scan.ends_of.Goals as goal

pub loop-facts-init : goal.loop-facts-init
loop-facts-init g c = record {
  low = omega arith;
  high = omega arith;
  ends = subst (AreEndsBelow c.args.history.now.schedule.entries 1) (sym c.new-ends.ensures.items) (ends_none c.args.history.now.schedule.entries);
}

pub loop-facts-preserved : goal.loop-facts-preserved
loop-facts-preserved g c =
    let es = c.args.history.now.schedule.entries in
    let some = sym c.in-Some.is ∙ c.facts.ensures in
    let within : (1 ≤ c.loop-facts.t) × (c.loop-facts.t ≤ 65535) = known_below g.M.Metric.distance_by c.args.history.now.schedule c.log-invariant.ensures.legal c.loop-facts.t c.in-Some.facts some in
    record {
      low = omega arith;
      high = omega (arith, within.1);
      ends = ends_more es c.loop-facts.t c.loop-facts.ends.items c.push_end.new.ends.items c.in-Some.facts.end (end_some es c.loop-facts.t c.in-Some.facts some) c.in_ok-push_end.ensures c.loop-facts.invariant.ends;
    }

pub loop-facts-smaller : goal.loop-facts-smaller
loop-facts-smaller g c =
    let within : (1 ≤ c.loop-facts.t) × (c.loop-facts.t ≤ 65535) = known_below g.M.Metric.distance_by c.args.history.now.schedule c.log-invariant.ensures.legal c.loop-facts.t c.in-Some.facts (sym c.in-Some.is ∙ c.facts.ensures) in
    omega (arith, within.1)

pub overflow_add-t : goal.overflow_add-t
overflow_add-t g c =
    let within : (1 ≤ c.loop-facts.t) × (c.loop-facts.t ≤ 65535) = known_below g.M.Metric.distance_by c.args.history.now.schedule c.log-invariant.ensures.legal c.loop-facts.t c.in-Some.facts (sym c.in-Some.is ∙ c.facts.ensures) in
    omega (arith, within.1)

pub returns-clause-rises : goal.returns-clause-rises
returns-clause-rises g c = subst IsStrictlyIncreasing (sym (dedup_is _ _ _ c.dedup.ensures.filtered)) (IsStrictlyIncreasing-dedup c.sort_unstable.new.self.items c.sort_unstable.ensures.sorted)

pub returns-clause-ends : goal.returns-clause-ends
returns-clause-ends g c =
    ends_all c.args.history.now.schedule c.loop-facts.t c.loop-facts.ends.items c.dedup.new.self.items c.loop-facts.invariant.low (sym c.in_default.is ∙ c.facts.ensures) c.loop-facts.invariant.ends
    (λ p i. subst (λ l. Contains l p) (sym (dedup_is _ _ _ c.dedup.ensures.filtered))
    (Contains-dedup_nat c.sort_unstable.new.self.items p (Contains-permutation _ _ p c.sort_unstable.ensures.permutation (In-Contains c.loop-facts.ends.items p i))))
    (λ p i. Contains-In c.loop-facts.ends.items p
    (Contains-permutation _ _ p (IsPermutation-sym _ _ c.sort_unstable.ensures.permutation) (Contains-from_dedup _ c.sort_unstable.new.self.items p (subst (λ l. Contains l p) (dedup_is _ _ _ c.dedup.ensures.filtered) i))))
