use Rattle.std.proofs.Common.{subst, sym, arith}
use Rattle.std.specs.List.Sorted.{IsNonDecreasingBy}
use Rattle.esr_items.specs.Weights.{weighted}
use Rattle.esr_history.specs.Machine.{IsLegal}
use Rattle.esr_engine.specs.declared.carrying.ActiveTxn.{ActiveTxn}
use Rattle.esr_engine.proofs.ActiveOperations.{active_rise}
use Rattle.esr_engine.proofs.CarriedParts.{numbered}
use Rattle.esr_engine.proofs.engine.EmbeddedEngine.new_number.Goals as goal

pub count_before-requires : goal.count_before-requires
count_before-requires c = subst (IsNonDecreasingBy (λ (a : ActiveTxn). a.txn.0)) (sym c.requires) (active_rise c.args.self.now)

pub overflow_cast-result : goal.overflow_cast-result
overflow_cast-result c =
    let n = numbered c.args.self.now (subst (IsLegal weighted) c.self.view_is c.log-invariant.ensures.legal) c.args.active.now c.requires c.args.t.0 c.count_before.result c.count_before.ensures in
    omega (arith, n.bound)

pub overflow_add-result : goal.overflow_add-result
overflow_add-result c =
    let n = numbered c.args.self.now (subst (IsLegal weighted) c.self.view_is c.log-invariant.ensures.legal) c.args.active.now c.requires c.args.t.0 c.count_before.result c.count_before.ensures in
    omega (arith, n.bound)

pub returns : goal.returns
returns c = (numbered c.args.self.now (subst (IsLegal weighted) c.self.view_is c.log-invariant.ensures.legal) c.args.active.now c.requires c.args.t.0 c.count_before.result c.count_before.ensures).number
