use Rattle.std.proofs.Common.{◌≡◌, ℕ, ◌+◌, ◌-◌, ◌<◌, ◌∙◌, List, sym, ap, map, length, get_or, arith}
use Rattle.std.proofs.lemmas.List.{length-map}
use Rattle.esr_cert.specs.declared.draft.ChainDraft.{ChainDraft}
use Rattle.esr_cert.specs.ProblemDrafts.{drafted_chain}
use Rattle.esr_cert.proofs.Steps.{ascending_yes, ascending_no, ascending_end, drop_map_more, item_at}
use Rattle.esr_cert.proofs.shape.are_items_ascending.Goals as goal

abbrev items : List ChainDraft → List ℕ
items chains = map (λ k. k.item) (map drafted_chain chains)

long : (chains : List ChainDraft) → length (items chains) ≡ length chains
long chains = length-map (map drafted_chain chains) (λ k. k.item) ∙ length-map chains drafted_chain

read : (chains : List ChainDraft) (i : ℕ) (chain : ChainDraft) → i < length chains → chain ≡ get_or chains i chain → get_or (items chains) i 0 ≡ chain.item
read chains i chain l is = item_at (map drafted_chain chains) i (drafted_chain chain) (drop_map_more drafted_chain chains i chain l is) (rw length-map l)

pub returns-then-chains-i : goal.returns-then-chains-i
returns-then-chains-i c =
    let chains = c.args.chains.now in
    let i = c.loop-i.i in
    let after = read chains i c.index-chains-i.result (omega arith) c.index-chains-i.is in
    let before = read chains (i - 1) c.index-chains-i-in-loop-i.result (omega arith) c.index-chains-i-in-loop-i.is in
    sym (sym c.loop-i.invariant ∙ ascending_no (items chains) (i - 1) i (omega arith) (omega (arith, long chains)) (omega (arith, after, before, c.if-chains-i.true, ap (λ k. k.item) c.index-chains-i.is, ap (λ k. k.item) c.index-chains-i-in-loop-i.is)))

pub loop-i-preserved : goal.loop-i-preserved
loop-i-preserved c =
    let chains = c.args.chains.now in
    let i = c.loop-i.i in
    let after = read chains i c.index-chains-i.result (omega arith) c.index-chains-i.is in
    let before = read chains (i - 1) c.index-chains-i-in-loop-i.result (omega arith) c.index-chains-i-in-loop-i.is in
    let z = ascending_yes (items chains) (i - 1) i (omega arith) (omega (arith, long chains)) (omega (arith, after, before, c.if-chains-i.false, ap (λ k. k.item) c.index-chains-i.is, ap (λ k. k.item) c.index-chains-i-in-loop-i.is)) in
    let same : i + 1 - 1 ≡ i = omega arith in
    rw same (sym z ∙ c.loop-i.invariant)

pub returns : goal.returns
returns c = sym (sym c.loop-i.invariant ∙ ascending_end (items c.args.chains.now) (c.loop-i.i - 1) (omega (arith, long c.args.chains.now)))
