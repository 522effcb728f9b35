use Rattle.std.proofs.Common.{rules, arith, ◌≡◌, ◌<◌, ◌∙◌, ◌++◌, ◌∷◌, [], ap, length, length-set, w64, to_z-of_z}
use mir.Val.{to_z, of_z}
use Rattle.esr_stream.proofs.ValueLists.{put_at}
use Rattle.esr_stream.proofs.reads.put_value.Goals as goal

pub returns-in_ok-push : goal.returns-in_ok-push
returns-in_ok-push c =
    let values_read = c.args.values_read.now.items in
    let inside : c.args.read.item.0 < length values_read = omega (arith, c.if-x-len.true, c.len.ensures, c.args.values_read.now.ok.0) in
    let same : to_z w64 (of_z w64 c.args.read.value) ≡ c.args.read.value = search (rules, to_z-of_z) in
    record {
      count = length-set values_read c.args.read.item.0 c.push.new.self;
      values = λ x l. put_at values_read c.args.read c.if-read.false c.index_mut.result.now c.push.new.self inside c.index_mut.ensures.value
          (c.in_ok-push.ensures.items ∙ ap (λ v. c.index_mut.result.now.items ++ v ∷ []) same) x;
    }
