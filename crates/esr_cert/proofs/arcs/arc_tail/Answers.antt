use Rattle.std.proofs.Common.{arith, ◌∷◌, ◌-◌, ◌∙◌, get_or, ap, sym}
use Rattle.std.proofs.lemmas.List.{get_or_read}
use Rattle.esr_cert.proofs.ArcsLaws.{writer_before}
use Rattle.esr_cert.proofs.arcs.arc_tail.Goals as goal

pub returns-then-j-eq0 : goal.returns-then-j-eq0
returns-then-j-eq0 c = ap (λ i. get_or (c.args.source ∷ c.args.chain.now.writers.items) i 0) (sym c.if-j-eq0.true)

pub returns-else-j-eq0 : goal.returns-else-j-eq0
returns-else-j-eq0 c =
    let chain = c.args.chain.now in
    get_or_read chain.writers.items (c.args.j - 1) c.index.result.now (omega (arith, c.requires.one_more_cost, c.requires.in_range, c.if-j-eq0.false)) c.index.ensures 0 ∙ sym (writer_before c.args.source chain.writers.items c.args.j (omega (arith, c.if-j-eq0.false)))
