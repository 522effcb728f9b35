use Rattle.std.proofs.Common.{◌≡◌, ◌∙◌, ◌<◌, ◌++◌, ◌∷◌, [], ap, sym, arith, length, map, take}
use Rattle.std.proofs.lemmas.List.{drop-set-lt, map_more, take_more_set}
use Rattle.std.proofs.Math.Seq.{take-length}
use Rattle.esr_engine.specs.declared.carrying.CarriedTxn.{CarriedTxn}
use Rattle.esr_c.specs.Answers.{carried_fields}
use Rattle.esr_c.proofs.carrying.fill_carried.Goals as goal

-- a carried transaction in place of one that there is not
none : CarriedTxn
none = record { old = record { 0 = 0 }; new = record { 0 = 0 }; settled = 0 }

pub loop-i-preserved : goal.loop-i-preserved
unfolding none
loop-i-preserved c =
    let i = c.loop-i.i in let list = c.args.list.now in let buffer = c.loop-i.buffer in let x = c.to_carried.result in
    let within : i < length list = omega (arith, c.loop-i-test.true) in
    let capacity : i < length buffer = omega (arith, c.loop-i.auto.buffer, c.requires, within) in
    record {
      filled = take_more_set buffer i x capacity
          ∙ (ap (λ l. l ++ x ∷ []) c.loop-i.invariant.filled
          ∙ (ap (λ y. map carried_fields (take i list) ++ y ∷ []) c.to_carried.ensures
          ∙ sym (map_more carried_fields list i none within)));
      rest = drop-set-lt (length list) buffer i x within ∙ c.loop-i.invariant.rest;
    }

pub returns-clause-filled : goal.returns-clause-filled
returns-clause-filled c =
    let list = c.args.list.now in
    let all : c.loop-i.i ≡ length list = omega (arith, c.loop-i-test.false, c.loop-i.auto.i-end) in
    ap (λ n. take n c.loop-i.buffer) (sym all) ∙ (c.loop-i.invariant.filled ∙ ap (map carried_fields) (ap (λ n. take n list) all ∙ take-length list))
