use Rattle.std.proofs.Common.{◌≡◌, true}
use Rattle.std.proofs.lemmas.Str.Pattern.{contains_char}
use Rattle.esr_text.proofs.markup.has_no.Goals as goal

pub returns : goal.returns
returns c = λ t i lt e.
    let h : c.contains.result ≡ true = (contains_char c.args.mark c.args.text.now c.contains.result c.contains.ensures.cases c.requires).1 i lt e in
    let u = rw h at t in cc
