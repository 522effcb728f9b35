use Rattle.std.proofs.Common.{sym}
use Rattle.std.proofs.lemmas.List.Quantifiers.{position-Some}
use Rattle.esr_grammar.specs.Stops.{is_stop}
use Rattle.esr_grammar.proofs.Spaces.{name_utf8}
use Rattle.esr_grammar.proofs.Fronts.{front_is_name, front_cut}
use Rattle.esr_grammar.proofs.quick.cut_name.Goals as goal

pub from_utf8_unchecked-name-requires : goal.from_utf8_unchecked-name-requires
from_utf8_unchecked-name-requires c =
    name_utf8 _ (front_is_name c.args.bytes.now c.args.place c.requires.first c.requires.short (sym c.if-not-is_letter.ensures))

pub returns : goal.returns
returns c =
    let bytes = c.args.bytes.now in
    let front = front_is_name bytes c.args.place c.requires.first c.requires.short (sym c.if-not-is_letter.ensures) in
    let within = (position-Some is_stop bytes c.args.place 0 c.requires.first).0 in
    rw c.from_utf8_unchecked-name.ensures (front, front_cut bytes c.args.place within c.if-bytes-place-ne32.false)
