use Rattle.std.proofs.Common.{◌≡◌, ◌<◌, ◌+◌, suc, sym, ◌∙◌, ap, arith, map, length, get_or, slice_set}
use Rattle.std.proofs.lemmas.List.{length-map, get_or-map, map-set}
use Rattle.esr_order.specs.Chains.{reversed_chain, links_view}
use Rattle.esr_order.specs.Later.{no_one}
use Rattle.esr_order.proofs.Lists.{changed, changed_none, changed_more, changed_all, changed_length}
use Rattle.esr_order.proofs.chains.reverse_all.Goals as goal

pub loop-links-init : goal.loop-links-init
loop-links-init c = sym (changed_none reversed_chain (map links_view c.args.chains.now))

pub loop-links-preserved : goal.loop-links-preserved
loop-links-preserved c =
    let chains = map links_view c.args.chains.now in
    let items = c.loop-links.links-items in
    let i = c.loop-links.links-index in
    let e : suc i ≡ i + 1 = omega arith in
    let within : i < length chains = omega (arith, c.loop-links-test.true, length-map c.args.chains.now links_view) in
    let inside : i < length items = omega (arith, within, length-map items links_view, ap length c.loop-links.invariant, changed_length reversed_chain chains i) in
    map-set links_view items i c.reverse_chain.new.links
    ∙ (ap (λ l. slice_set (map links_view items) i l) (c.reverse_chain.ensures ∙ ap reversed_chain (sym (get_or-map links_view items i c.links-item.result no_one inside)))
    ∙ (ap (λ l. slice_set l i (reversed_chain (get_or l i no_one))) c.loop-links.invariant
    ∙ (sym (changed_more reversed_chain chains i no_one within) ∙ ap (changed reversed_chain chains) e)))

pub returns : goal.returns
returns c = c.loop-links.invariant ∙ changed_all reversed_chain (map links_view c.args.chains.now) c.loop-links.links-index (omega (arith, c.loop-links-test.false, c.loop-links.auto.links-index-end, length-map c.args.chains.now links_view))
