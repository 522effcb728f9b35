use Rattle.std.proofs.Common.{◌<◌, ◌^◌, sym, subst}
use Rattle.esr_grammar.proofs.Eights.{worth_is, worth_small}
use Rattle.esr_grammar.proofs.digits.worth.Goals as goal

pub returns-clause-value : goal.returns-clause-value
returns-clause-value c = worth_is c.args.digits c.fits-digits.0 c.requires

pub returns-clause-small : goal.returns-clause-small
returns-clause-small c =
    subst (λ n. n < 10 ^ 8) (sym (worth_is c.args.digits c.fits-digits.0 c.requires)) (worth_small c.args.digits c.fits-digits.0 c.requires)
