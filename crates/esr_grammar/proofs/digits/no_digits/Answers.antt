use Rattle.std.proofs.Common.{not, nat_lt, leb, cond, refl, arith}
use Rattle.esr_grammar.proofs.Lanes.{both, splat, itself, mask_is}
use Rattle.esr_grammar.proofs.digits.no_digits.Goals as goal

pub returns : goal.returns
returns c =
    let v = c.args.digits in
    mask_is _ (λ d. not (nat_lt d 10)) v _ (omega arith) c.fits-digits.1 (both (λ a b. cond (leb a b) 255 0) _ _ v (splat 10 8 v c.fits-digits.0) (itself v)) refl
