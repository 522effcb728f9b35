use Rattle.std.proofs.Common.{◌≡◌, ◌∷◌, ◌++◌, [], ◌+◌, ◌∙◌, Some, get_or, ap, sym, ℕ}
use Rattle.std.proofs.lemmas.List.{get_or_read}
use Rattle.esr_cert.specs.Network.{Arc}
use Rattle.esr_cert.proofs.ArcsLaws.{link_is}
use Rattle.esr_cert.proofs.arcs.chain_arc_at.Goals as goal

pub returns : goal.returns
returns c =
    let chain = c.args.chain.now in
    let cost : c.index.result.now ≡ get_or chain.costs.items c.args.j 0 = get_or_read chain.costs.items c.args.j c.index.result.now c.requires.in_range c.index.ensures 0 in
    let by : ℕ → ℕ → ℕ → Arc = λ a b d. record { from = a; to = b; capacity = Some d } in
    ap (λ n. by n c.arc_head.result c.index.result.now) c.arc_tail.ensures ∙ ap (λ n. by (get_or (c.args.source ∷ chain.writers.items) c.args.j 0) n c.index.result.now) c.arc_head.ensures
    ∙ ap (by (get_or (c.args.source ∷ chain.writers.items) c.args.j 0) (get_or (chain.writers.items ++ (c.args.source + 1) ∷ []) c.args.j 0)) cost
    ∙ sym (link_is c.args.source (c.args.source + 1) chain.writers.items chain.costs.items c.args.j c.requires.one_more_cost c.requires.in_range)
