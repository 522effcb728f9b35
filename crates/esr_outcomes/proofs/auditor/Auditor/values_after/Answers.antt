use Rattle.std.proofs.Common.{◌≡◌, ◌∙◌, ◌<◌, List, ℕ, ap, flat_map, length, map, arith, subst, sym, take_all}
use Rattle.esr_base.specs.declared.numbers.TxnId.{TxnId}
use Rattle.esr_items.specs.Values.{IsValue, value_at}
use Rattle.esr_items.specs.Weights.{weighted}
use Rattle.esr_history.specs.Machine.{Schedule}
use Rattle.esr_history.specs.Serial.{state}
use Rattle.esr_order.specs.Scans.{accesses_in}
use Rattle.esr_outcomes.specs.ValuesAfter.{apply_accesses}
use Rattle.esr_outcomes.proofs.Accessed.{accesses_valued, left_by, left_in_range, put_update}
use Rattle.esr_outcomes.proofs.auditor.Auditor.values_after.Goals as goal

pub loop-u-init : goal.loop-u-init
loop-u-init c = c.in_ok-values.ensures.items_if_clones_equal (λ x y is. is) ∙ c.opening_values.ensures.values

pub apply_accesses-requires : goal.apply_accesses-requires
apply_accesses-requires c = grind (arith, accesses_valued)

pub loop-u-preserved : goal.loop-u-preserved
loop-u-preserved c = grind (arith, put_update)

pub returns-clause-values : goal.returns-clause-values
returns-clause-values c =
    let h : Schedule = c.self.inside.history.now.schedule in
    let us : List ℕ = map (λ (t : TxnId). t.0) c.args.updates.now in
    let all : c.loop-u.values.items ≡ apply_accesses h.opening (flat_map (accesses_in h.entries) us) =
    c.loop-u.invariant ∙ ap (λ (l : List TxnId). apply_accesses h.opening (flat_map (accesses_in h.entries) (map (λ (t : TxnId). t.0) l))) (take_all c.loop-u.u-index c.args.updates.now c.loop-u-test.false) in
    subst (λ (s : Schedule). (x : ℕ) → x < length s.opening → value_at c.loop-u.values.items x ≡ state s us x) c.self.view_is
    (λ x l. ap (λ vs. value_at vs x) all ∙ left_by h us x l)

pub returns-clause-range : goal.returns-clause-range
returns-clause-range c = λ x.
    let h : Schedule = c.self.inside.history.now.schedule in
    let us : List ℕ = map (λ (t : TxnId). t.0) c.args.updates.now in
    let all : c.loop-u.values.items ≡ apply_accesses h.opening (flat_map (accesses_in h.entries) us) =
    c.loop-u.invariant ∙ ap (λ (l : List TxnId). apply_accesses h.opening (flat_map (accesses_in h.entries) (map (λ (t : TxnId). t.0) l))) (take_all c.loop-u.u-index c.args.updates.now c.loop-u-test.false) in
    subst (λ vs. IsValue (value_at vs x)) (sym all) (left_in_range weighted h c.log-invariant.ensures.range c.log-invariant.ensures.legal us x)
