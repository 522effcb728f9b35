use Rattle.esr_grammar.proofs.Eights.{padded_is}
use Rattle.esr_grammar.proofs.digits.padded.Goals as goal

pub returns : goal.returns
returns c = padded_is c.args.bytes c.args.before c.fits-bytes.0 c.requires
