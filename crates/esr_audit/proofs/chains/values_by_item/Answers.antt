use Rattle.std.proofs.Common.{pos, ◌∙◌, ◌++◌, [], ◌∷◌, ap, arith, get_or, sym}
use Rattle.esr_audit.specs.Reads.{values_of, ItemRead}
use Rattle.esr_audit.proofs.Gathered.{values_more}
use Rattle.esr_audit.proofs.chains.values_by_item.Goals as goal

pub loop-read-preserved : goal.loop-read-preserved
loop-read-preserved c =
    let none : ItemRead = record { item = 0; value = pos 0 } in
    let i = c.loop-read.read-index in
    record {
      count = c.in_ok-put_value.ensures.list_count ∙ c.loop-read.invariant.count;
      values = λ x l.
          c.in_ok-put_value.ensures.values x (omega (arith, l, c.loop-read.invariant.count))
          ∙ ap (λ vs. vs ++ values_of (get_or c.args.reads.now i none ∷ []) x) (c.loop-read.invariant.values x l)
          ∙ sym (values_more c.args.reads.now i x none c.loop-read-test.true);
    }
