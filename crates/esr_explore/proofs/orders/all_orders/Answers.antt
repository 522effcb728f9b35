use Rattle.std.proofs.Common.{◌≡◌, ◌∙◌, ℕ, suc, List, ap, arith, flat_map, length, map, subst, sym}
use Rattle.std.proofs.lemmas.List.{length-map}
use Rattle.std.specs.List.{Contains}
use Rattle.esr_explore.specs.Orders.{first_turns, longer}
use Rattle.esr_explore.proofs.Every.{every}
use Rattle.esr_explore.proofs.orders.all_orders.Goals as goal

pub returns-clause-every : goal.returns-clause-every
returns-clause-every c order is =
    let counts = c.args.counts.now in
    let all : c.loop-turn._turn ≡ c.args.turns = omega arith in
    let are : map (λ o. o.items) c.loop-turn.orders.items ≡ first_turns counts c.args.turns = c.loop-turn.invariant ∙ ap (first_turns counts) all in
    subst (λ (l : List (List ℕ)). Contains l order) (sym are) (every counts c.args.turns order is)

pub returns-then-len-gt-MAX_ORDERS-clause-many : goal.returns-then-len-gt-MAX_ORDERS-clause-many
returns-then-len-gt-MAX_ORDERS-clause-many c =
    let counts = c.args.counts.now in
    let k = c.loop-turn._turn in
    let orders = c.in_ok-orders-2.orders.items in
    let are : map (λ o. o.items) orders ≡ first_turns counts (suc k) =
    c.in_ok-orders-2.ensures ∙ ap (λ l. flat_map (longer counts) (map (λ o. o.items) l)) c.deref.ensures.value ∙ ap (flat_map (longer counts)) c.loop-turn.invariant in
    (suc k, omega arith, omega (arith, ap length are, length-map orders (λ o. o.items), c.len.ensures))
