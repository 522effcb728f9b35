use Rattle.std.proofs.Common.{rules, ◌≡◌, true, sym, ◌∙◌}
use Rattle.esr_text.proofs.Building.{none_of}
use Rattle.esr_text.proofs.markup.is_attributes.Goals as goal

pub returns : goal.returns
returns c = λ t.
    let e : c.is_empty.result ≡ true = search rules in
    c.loop-rest.invariant.1 (none_of c.loop-rest.rest.now (sym c.is_empty.ensures ∙ e))
