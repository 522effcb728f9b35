use Rattle.std.proofs.Common.{◌≡◌, ◌+◌, ◌∙◌, ◌∷◌, sym, ap, length, length-append, arith}
use Rattle.esr_grammar.specs.Command.{IsName}
use Rattle.esr_grammar.proofs.Spaces.{name_utf8}
use Rattle.esr_grammar.proofs.Stops.{all_after, whole_name}
use Rattle.esr_grammar.proofs.quick.read_names.Goals as goal

pub from_utf8_unchecked-item-requires : goal.from_utf8_unchecked-item-requires
from_utf8_unchecked-item-requires c =
    let txn = c.in_ok-txn in
    let after = c.stops_after.ensures ∙ all_after c.args.words.now txn.txn.now txn.last.now c.args.stops c.requires.stops txn.ensures.1 in
    let size : length c.args.words.now ≡ length txn.txn.now + length (32 ∷ txn.last.now) = ap length txn.ensures.1 ∙ length-append txn.txn.now (32 ∷ txn.last.now) in
    name_utf8 _ (whole_name txn.last.now c.stops_after.result after c.if-stops_after-ne0.false (omega (arith, size, c.requires.short)) (sym c.if-not-starts_with_letter.ensures))

pub returns : goal.returns
returns c =
    let txn = c.in_ok-txn in
    let after = c.stops_after.ensures ∙ all_after c.args.words.now txn.txn.now txn.last.now c.args.stops c.requires.stops txn.ensures.1 in
    let size : length c.args.words.now ≡ length txn.txn.now + length (32 ∷ txn.last.now) = ap length txn.ensures.1 ∙ length-append txn.txn.now (32 ∷ txn.last.now) in
    let item : IsName txn.last.now =
    whole_name txn.last.now c.stops_after.result after c.if-stops_after-ne0.false (omega (arith, size, c.requires.short)) (sym c.if-not-starts_with_letter.ensures) in
    rw c.from_utf8_unchecked-item.ensures ((txn.ensures.0, item), ap (λ l. 114 ∷ 101 ∷ 97 ∷ 100 ∷ 32 ∷ l) txn.ensures.1)
