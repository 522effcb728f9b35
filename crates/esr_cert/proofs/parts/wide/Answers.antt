use Rattle.std.proofs.Common.{[], ◌∷◌, ◌++◌, ◌∙◌, ap, sym, take}
use Rattle.std.proofs.lemmas.List.{take_more}
use Rattle.esr_cert.proofs.parts.wide.Goals as goal

pub loop-n-preserved : goal.loop-n-preserved
loop-n-preserved c =
    let i = c.loop-n.n-index in
    c.in_ok-push.ensures.items
    ∙ ap (λ xs. xs ++ c.from.result ∷ []) c.loop-n.invariant
    ∙ ap (λ n. take i c.args.positions.now ++ n ∷ []) c.from.ensures
    ∙ sym (take_more c.args.positions.now i 0 c.loop-n-test.true)
