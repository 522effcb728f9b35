use Rattle.std.proofs.Common.{◌+◌, ◌*◌, ◌^◌, sym, ap, ◌∙◌, arith}
use Rattle.esr_grammar.proofs.Eights.{value_after}
use Rattle.esr_grammar.proofs.words.with_eight.Goals as goal

pub returns-clause-found : goal.returns-clause-found
returns-clause-found c =
    let low = c.in_ok-low.ensures.found in
    (ap (λ w. c.args.value * 10 ^ 8 + w) low.0 ∙ sym (value_after c.args.value c.args.eight.now c.type_inv.eight c.requires.long low.2), omega (arith, low.1), low.2)
