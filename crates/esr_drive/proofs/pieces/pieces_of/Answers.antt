use Rattle.std.proofs.Common.{arith}
use Rattle.esr_plan.proofs.Noting.{length-blocks}
use Rattle.esr_drive.proofs.pieces.pieces_of.Goals as goal

pub returns : goal.returns
returns g c =
    let len = length-blocks c.args.blocks.now c.args.replies.now c.requires in
    record {
      every = omega (arith, c.in_ok-texts.ensures.len, len);
      each = λ i d lt. (c.in_ok-texts.ensures.each i d (omega (arith, lt, len))).1.met;
    }
