use Rattle.std.proofs.Common.{◌≡◌, ◌<◌, ◌-◌, suc, ◌∙◌, [], ◌++◌, append-nil, refl, sym, subst, map, drop, length, get_or, arith}
use Rattle.std.proofs.lemmas.List.{drop_all, length-set}
use Rattle.esr_order.specs.Batches.{operation_at}
use Rattle.esr_order.specs.Chains.{links_view}
use Rattle.esr_order.specs.Later.{batch_conflicts, SummarizeLater}
use Rattle.esr_order.proofs.Gathering.{no_access, batch_later, batch_conflicting}
use Rattle.esr_order.proofs.backward_scan.prepend_batch.Goals as goal

pub loop-i-preserved : goal.loop-i-preserved
loop-i-preserved c =
    let accesses = c.args.accesses.now in
    let chains = c.loop-i.chains in
    let readers = c.loop-i.readers in
    let position = c.args.position in
    let i = c.loop-i.i - 1 in
    let next : c.loop-i.i ≡ suc i = omega (arith, c.loop-i-test.true) in
    let inside : i < length accesses = omega (arith, c.loop-i-test.true, c.loop-i.auto.i) in
    let x = (get_or accesses i no_access).item.0 in
    let linked : x < length chains = omega (arith, c.requires.linked i no_access inside, c.loop-i.invariant.0) in
    let read : x < length readers = omega (arith, c.requires.read i no_access inside, c.loop-i.invariant.1) in (
      length-set chains x c.prepend_operation.new.links ∙ c.loop-i.invariant.0,
      length-set readers x c.prepend_operation.new.readers ∙ c.loop-i.invariant.1,
      λ steps are.
          let now = c.loop-i.invariant.2 steps are in (
            batch_later links_view (λ r. r.items) chains readers position i c.loop-i.i next accesses inside linked read steps now.0 c.index-chains-x.result c.index-readers-x.result
                c.prepend_operation.new.links c.in_ok-prepend_operation.ensures.chain c.prepend_operation.new.readers c.in_ok-prepend_operation.ensures.readers,
            batch_conflicting links_view (λ r. r.items) chains readers position i c.loop-i.i next accesses inside linked read steps now.0 c.index-chains-x.result c.index-readers-x.result
                c.args.conflicts.now.items c.loop-i.conflicts.items now.1 c.prepend_operation.new.conflicts.items c.in_ok-prepend_operation.ensures.conflicts,
          ),
    )

pub loop-i-init : goal.loop-i-init
loop-i-init c =
    let accesses = c.args.accesses.now in
    let none : drop (length accesses) accesses ≡ [] = drop_all (length accesses) accesses (omega arith) in (
      refl,
      refl,
      λ steps are. (
        subst (λ l. SummarizeLater (map links_view c.args.chains.now) (map (λ r. r.items) c.args.readers.now) (map (operation_at c.args.position) l ++ steps)) (sym none) are,
        subst (λ l. c.args.conflicts.now.items ≡ c.args.conflicts.now.items ++ batch_conflicts (map (operation_at c.args.position) l) steps) (sym none) (sym (append-nil c.args.conflicts.now.items)),
      ),
    )

pub returns-clause-later : goal.returns-clause-later
returns-clause-later c operations are =
    let start : c.loop-i.i ≡ 0 = omega (arith, c.loop-i-test.false) in
    subst (λ i. SummarizeLater (map links_view c.loop-i.chains) (map (λ r. r.items) c.loop-i.readers) (map (operation_at c.args.position) (drop i c.args.accesses.now) ++ operations)) start (c.loop-i.invariant.2 operations are).0

pub returns-clause-conflicts : goal.returns-clause-conflicts
returns-clause-conflicts c operations are =
    let start : c.loop-i.i ≡ 0 = omega (arith, c.loop-i-test.false) in
    subst (λ i. c.loop-i.conflicts.items ≡ c.args.conflicts.now.items ++ batch_conflicts (map (operation_at c.args.position) (drop i c.args.accesses.now)) operations) start (c.loop-i.invariant.2 operations are).1
