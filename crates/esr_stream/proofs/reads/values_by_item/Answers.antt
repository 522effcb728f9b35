use Rattle.std.proofs.Common.{pos, false, ◌∙◌, ◌++◌, [], ◌∷◌, ap, arith, get_or, sym}
use Rattle.esr_order.specs.declared.accesses.Access.{Access}
use Rattle.esr_stream.specs.Reads.{values_of}
use Rattle.esr_stream.proofs.ValueLists.{values_more}
use Rattle.esr_stream.proofs.reads.values_by_item.Goals as goal

pub loop-access-preserved : goal.loop-access-preserved
loop-access-preserved c =
    let none : Access = record { item = record { 0 = 0 }; writes = false; value = pos 0 } in
    let i = c.loop-access.access-index in
    record {
      count = c.in_ok-put_value.ensures.count ∙ c.loop-access.invariant.count;
      values = λ x l.
          c.in_ok-put_value.ensures.values x (omega (arith, l, c.loop-access.invariant.count))
          ∙ ap (λ vs. vs ++ values_of (get_or c.args.accesses.now i none ∷ []) x) (c.loop-access.invariant.values x l)
          ∙ sym (values_more c.args.accesses.now i x none c.loop-access-test.true);
    }
