use Rattle.std.proofs.Common.{◌≡◌, ◌<◌, ℕ, ℤ, List, Bool, All, true, map, length, option_map, ap, ◌∙◌, sym, subst, eqb, eq-eqb, true≢false, vec_len, arith}
use Rattle.std.specs.List.{list_any}
use Rattle.std.proofs.lemmas.Bool.{eqb-true}
use Rattle.std.proofs.lemmas.List.Elements.{All-from_recursion, recursion_from_All}
use Rattle.esr_items.specs.Values.{IsValue}
use Rattle.esr_order.specs.Chains.{links_view}
use Rattle.esr_order.specs.Orders.{ConflictOrder, chain_at}
use Rattle.esr_cert.specs.Problem as spec
use Rattle.esr_cert.specs.Views.{chain_view}
use Rattle.esr_audit.specs.Reads.{values_of, chain_of_item, audit_chain_by, audit_chain_from, ItemRead}
use Rattle.esr_audit.proofs.Gathered.{list_is, values_bounded, values_in_range, none_read, some_read, chain_step, chain_skip}
use Rattle.esr_audit.proofs.chains.take_chains.Goals as goal
use Rattle.esr_audit.proofs.chains.take_chains.Goals.{then-not-is_empty+in_ok-chain_of+in_ok-push, else-not-is_empty}

pub chain_of-requires-clause-count_within_max : goal.chain_of-requires-clause-count_within_max
chain_of-requires-clause-count_within_max g c =
    let x : ℕ = c.loop-x.x in
    let inside : x < length c.in_ok-lists.lists.items = omega (arith, c.loop-x-test.true, c.items.ensures.items, c.items-x-end.ensures.items, c.in_ok-lists.ensures.list_count) in
    let values = c.deref.ensures.value ∙ list_is c.in_ok-lists.lists.items x c.index-values.result.now inside c.index-values.ensures ∙ c.in_ok-lists.ensures.values x (omega (arith, inside, c.in_ok-lists.ensures.list_count)) in
    omega (arith, values_bounded c.args.reads.now x, ap (λ (xs : List ℤ). length xs) values, c.requires.count_within_max)

pub chain_of-requires-clause-values_in_range : goal.chain_of-requires-clause-values_in_range
chain_of-requires-clause-values_in_range g c =
    let x : ℕ = c.loop-x.x in
    let inside : x < length c.in_ok-lists.lists.items = omega (arith, c.loop-x-test.true, c.items.ensures.items, c.items-x-end.ensures.items, c.in_ok-lists.ensures.list_count) in
    let values = c.deref.ensures.value ∙ list_is c.in_ok-lists.lists.items x c.index-values.result.now inside c.index-values.ensures ∙ c.in_ok-lists.ensures.values x (omega (arith, inside, c.in_ok-lists.ensures.list_count)) in
    subst (All IsValue) (sym values)
    (All-from_recursion IsValue (values_of c.args.reads.now x) (values_in_range c.args.reads.now x (recursion_from_All (λ (r : ItemRead). IsValue r.value) c.args.reads.now c.requires.reads_in_range)))

pub loop-x-preserved : goal.loop-x-preserved
loop-x-preserved g c =
    let h = c.args.history.now.schedule in
    let d = g.M.Metric.distance_by h.weights in
    let reads = c.args.reads.now in
    let x : ℕ = c.loop-x.x in
    let G : ℕ → spec.Chain = chain_of_item d h.opening c.args.order.now reads in
    let P : ℕ → Bool = λ y. list_any (λ (r : ItemRead). eqb r.item y) reads in
    let list = c.index-values.result.now in
    let inside : x < length c.in_ok-lists.lists.items = omega (arith, c.loop-x-test.true, c.items.ensures.items, c.items-x-end.ensures.items, c.in_ok-lists.ensures.list_count) in
    let values : list.items ≡ values_of reads x = list_is c.in_ok-lists.lists.items x list inside c.index-values.ensures ∙ c.in_ok-lists.ensures.values x (omega (arith, inside, c.in_ok-lists.ensures.list_count)) in
    let size : vec_len list ≡ length (values_of reads x) = omega (arith, list.ok.0, ap (λ (xs : List ℤ). length xs) values) in
    elim c.if-not-is_empty.branch [
      | then-not-is_empty+in_ok-chain_of+in_ok-push w ↦
          let taken = w.take_chain-links.ensures in
          let some : P x ≡ true = some_read reads x (λ none. true≢false (sym (eq-eqb (vec_len list) 0 (size ∙ none)) ∙ (sym c.is_empty.ensures ∙ w.if-not-is_empty.true))) in
          let is : chain_view w.in_ok-chain_of.field-0 ≡ G x =
          w.in_ok-chain_of.ensures
          ∙ ap (λ vs. audit_chain_by d h.opening (option_map links_view w.take_chain-links.result) vs x) (w.deref.ensures.value ∙ values)
          ∙ ap (λ o. audit_chain_from d h.opening o reads x) (taken.chain ∙ c.loop-x.invariant.left x (omega arith)) in record {
            chains = ap (λ v. map chain_view v.items) w.chains-is ∙ chain_step chain_view G P x c.loop-x.chains.items w.push.new.self.items w.in_ok-chain_of.field-0 c.loop-x.invariant.chains some w.in_ok-push.ensures.items is;
            left = λ y later. ap (λ o. chain_at o y) w.order-is ∙ taken.others y (λ e. omega arith) ∙ c.loop-x.invariant.left y (omega arith);
            commits = ap (λ (o : ConflictOrder). o.commits) w.order-is ∙ taken.commits ∙ c.loop-x.invariant.commits;
            before = ap (λ (o : ConflictOrder). o.before) w.order-is ∙ taken.before ∙ c.loop-x.invariant.before;
            must = ap (λ (o : ConflictOrder). o.must) w.order-is ∙ taken.must ∙ c.loop-x.invariant.must;
          }
      | else-not-is_empty w ↦
          let none = none_read reads x (sym size ∙ eqb-true (vec_len list) 0 (sym c.is_empty.ensures ∙ w.if-not-is_empty.false)) in record {
            chains = ap (λ v. map chain_view v.items) w.chains-is ∙ chain_skip chain_view G P x c.loop-x.chains.items c.loop-x.invariant.chains none;
            left = λ y later. ap (λ o. chain_at o y) w.order-is ∙ c.loop-x.invariant.left y (omega arith);
            commits = ap (λ (o : ConflictOrder). o.commits) w.order-is ∙ c.loop-x.invariant.commits;
            before = ap (λ (o : ConflictOrder). o.before) w.order-is ∙ c.loop-x.invariant.before;
            must = ap (λ (o : ConflictOrder). o.must) w.order-is ∙ c.loop-x.invariant.must;
          }
    ]
