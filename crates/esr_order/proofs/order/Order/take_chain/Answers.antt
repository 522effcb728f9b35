use Rattle.std.proofs.Common.{◌≡◌, ◌≢◌, ◌<◌, ℕ, zero, suc, List, [], ◌∷◌, false, Some, refl, sym, ap, ◌∙◌, length, get_or, set, map, arith, eqb, slice_get, option_map}
use Rattle.std.proofs.lemmas.Option.{slice_get-map, slice_get-get_or}
use Rattle.esr_order.specs.declared.links.Links.{Links}
use Rattle.esr_order.specs.Chains.{Chain, if_written, links_view}
use Rattle.esr_order.specs.Orders.{written_chain, chain_at}
use Rattle.esr_order.proofs.order.Order.take_chain.Goals as goal

if_some : (ws : List ℕ) (c : Chain) → eqb (length ws) 0 ≡ false → Some c ≡ if_written ws c
if_some [] c e = absurd (cc)
if_some (w ∷ ws) c e = refl

-- the chain of an item that is written
written : (chains : List Links) (x : ℕ) (l : Links) → x < length chains → l ≡ get_or chains x l → eqb (length l.writers.items) 0 ≡ false
    → Some (links_view l) ≡ written_chain (slice_get (map links_view chains) x)
written chains x l inside is some =
    if_some l.writers.items (links_view l) some
    ∙ ap (λ k. written_chain (Some (links_view k))) is
    ∙ ap (λ o. written_chain (option_map links_view o)) (sym (slice_get-get_or chains x l inside))
    ∙ ap written_chain (sym (slice_get-map links_view chains x))

slice_get-set_other : {X : Type 0} (xs : List X) (i j : ℕ) (x : X) → j ≢ i → slice_get (set xs i x) j ≡ slice_get xs j
slice_get-set_other [] i j x other = refl
slice_get-set_other (y ∷ ys) zero zero x other = absurd (other refl)
slice_get-set_other (y ∷ ys) zero (suc j) x other = refl
slice_get-set_other (y ∷ ys) (suc i) zero x other = refl
slice_get-set_other (y ∷ ys) (suc i) (suc j) x other = slice_get-set_other ys i j x (λ e. other (ap suc e))

-- the chains of the other items
others_stay : (chains : List Links) (x : ℕ) (l : Links) (y : ℕ) → y ≢ x
    → written_chain (slice_get (map links_view (set chains x l)) y) ≡ written_chain (slice_get (map links_view chains) y)
others_stay chains x l y other =
    ap written_chain (slice_get-map links_view (set chains x l) y ∙ (ap (option_map links_view) (slice_get-set_other chains x y l other) ∙ sym (slice_get-map links_view chains y)))

pub returns-then-is_empty-clause-others : goal.returns-then-is_empty-clause-others
returns-then-is_empty-clause-others c = λ y other.
    others_stay c.self.inside.chains.items c.args.x.0 c.replace-links.new.dest y other ∙ ap (λ o. chain_at o y) c.self.view_is

pub returns-clause-chain : goal.returns-clause-chain
returns-clause-chain c =
    let links = c.replace-links.result in
    let len : length links.writers.items ≡ links.writers.len = omega (arith, links.writers.ok.0) in
    written c.self.inside.chains.items c.args.x.0 links (omega (arith, c.in_ok-chain.ensures.item.3.0))
    (c.replace-links.ensures.value ∙ c.in_ok-chain.ensures.item.3.1 links)
    (ap (λ n. eqb n 0) len ∙ (sym c.is_empty.ensures ∙ c.if-is_empty.false))
    ∙ ap (λ o. chain_at o c.args.x.0) c.self.view_is

pub returns-clause-others : goal.returns-clause-others
returns-clause-others c = λ y other.
    others_stay c.self.inside.chains.items c.args.x.0 c.replace-links.new.dest y other ∙ ap (λ o. chain_at o y) c.self.view_is
