use Rattle.std.proofs.Common.{arith, ◌∷◌, [], ◌+◌, ◌<◌, ◌∙◌, length, sym}
use Rattle.std.proofs.lemmas.List.{get_or_append_left, get_or_push, get_or_read}
use Rattle.esr_cert.proofs.arcs.arc_head.Goals as goal

pub returns-then-j-len : goal.returns-then-j-len
returns-then-j-len c =
    let chain = c.args.chain.now in
    let inside : c.args.j < length chain.writers.items = omega (arith, c.if-j-len.true, c.len.ensures, chain.writers.ok.0) in
    get_or_read chain.writers.items c.args.j c.index.result.now inside c.index.ensures 0 ∙ sym (get_or_append_left chain.writers.items ((c.args.source + 1) ∷ []) 0 c.args.j inside)

pub returns-else-j-len : goal.returns-else-j-len
returns-else-j-len c =
    let chain = c.args.chain.now in
    sym (get_or_push chain.writers.items (c.args.source + 1) 0 c.args.j (omega (arith, c.requires.one_more_cost, c.requires.in_range, c.if-j-len.false, c.len.ensures, chain.writers.ok.0)))
