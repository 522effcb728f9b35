use Rattle.std.proofs.Common.{nat_eq, refl, arith}
use Rattle.esr_grammar.proofs.Lanes.{both, splat, itself, mask_is}
use Rattle.esr_grammar.proofs.next.line_feeds.Goals as goal

pub returns : goal.returns
returns c =
    let v = c.args.bytes in
    mask_is _ (λ b. nat_eq b 10) v _ (omega arith) c.fits-bytes.1 (both _ _ _ v (itself v) (splat 10 32 v c.fits-bytes.0)) refl
