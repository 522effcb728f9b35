-- The summary of one more order, and that each order has one.
use Rattle.std.proofs.Common.{◌≡◌, ℕ, ℤ, zero, suc, ◌+◌, ◌<◌, List, [], ◌∷◌, ◌++◌, Option, Some, IfSome, ap, arith, get_or, length, length-append, refl, subst, sum, sym, take, Vec, map}
use Rattle.std.specs.List.{Contains}
use Rattle.std.specs.declared.alloc.Global.{Global}
use Rattle.std.proofs.lemmas.List.{take_more}
use Rattle.std.proofs.lemmas.List.Elements.{All-push}
use Rattle.esr_plan.specs.declared.call.Call.{Call}
use Rattle.esr_explore.specs.declared.query.Query.{Query}
use Rattle.esr_explore.specs.declared.run_summary.RunSummary.{RunSummary}
use Rattle.esr_explore.specs.Summaries.{IsSummary}
use Rattle.esr_explore.specs.Orders.{IsOrder, first_turns}
use Rattle.esr_explore.proofs.Every.{every}
use Rattle.esr_explore.specs.Searches.{AreDrawn, AreRunSummaries, all_orders, line_counts}

one_more : (opening : List ℤ) (weights : List ℕ) (blocks : List (List Call)) (queries : List Query) (orders : List (List ℕ)) (summaries : List RunSummary) (o : List ℕ) (t : RunSummary)
    → AreRunSummaries opening weights blocks queries orders summaries → IsSummary opening weights blocks queries o t
    → AreRunSummaries opening weights blocks queries (orders ++ o ∷ []) (summaries ++ t ∷ [])
one_more opening weights blocks queries [] [] o t are is = (is, tt)
one_more opening weights blocks queries [] (u ∷ summaries) o t are is = absurd are
one_more opening weights blocks queries (p ∷ orders) [] o t are is = absurd are
one_more opening weights blocks queries (p ∷ orders) (u ∷ summaries) o t are is = (are.0, one_more opening weights blocks queries orders summaries o t are.1 is)

-- the summaries of the orders so far, and of the next one
pub summaries_more : (opening : List ℤ) (weights : List ℕ) (blocks : List (List Call)) (queries : List Query) (orders : List (List ℕ)) (i : ℕ) (o d : List ℕ) (summaries new : List RunSummary) (t : RunSummary)
    → i < length orders → AreRunSummaries opening weights blocks queries (take i orders) summaries → o ≡ get_or orders i d → IsSummary opening weights blocks queries o t
    → new ≡ summaries ++ t ∷ [] → AreRunSummaries opening weights blocks queries (take (i + 1) orders) new
summaries_more opening weights blocks queries orders i o d summaries new t within are o_is is new_is =
    let own : IsSummary opening weights blocks queries (get_or orders i d) t = subst (λ (k : List ℕ). IsSummary opening weights blocks queries k t) o_is is in
    subst (AreRunSummaries opening weights blocks queries (take (i + 1) orders)) (sym new_is)
    (subst (λ (l : List (List ℕ)). AreRunSummaries opening weights blocks queries l (summaries ++ t ∷ [])) (sym (take_more orders i d within))
    (one_more opening weights blocks queries (take i orders) summaries (get_or orders i d) t are own))

-- each order has its summary
pub summary_among : (opening : List ℤ) (weights : List ℕ) (blocks : List (List Call)) (queries : List Query) (orders : List (List ℕ)) (summaries : List RunSummary) (o : List ℕ)
    → AreRunSummaries opening weights blocks queries orders summaries → Contains orders o → (t : RunSummary) × (Contains summaries t × IsSummary opening weights blocks queries o t)
summary_among opening weights blocks queries [] summaries o are (k, lt, is) = absurd (omega (arith, lt))
summary_among opening weights blocks queries (p ∷ orders) [] o are here = absurd are
summary_among opening weights blocks queries (p ∷ orders) (u ∷ summaries) o are (zero, lt, is) =
    (u, ((0, omega arith, refl), subst (λ (k : List ℕ). IsSummary opening weights blocks queries k u) is are.0))
summary_among opening weights blocks queries (p ∷ orders) (u ∷ summaries) o are (suc k, lt, is) =
    let rest = summary_among opening weights blocks queries orders summaries o are.1 (k, omega (arith, lt), is) in
    (rest.0, ((suc rest.1.0.0, omega (arith, rest.1.0.1), rest.1.0.2), rest.1.1))

-- if all orders are run, the summaries are those of all
pub inconsistencies_all : (opening : List ℤ) (weights : List ℕ) (blocks : List (List Call)) (queries : List Query) (counts : List ℕ) (orders : Option (List (List ℕ))) (summaries : List RunSummary)
    → counts ≡ line_counts blocks → orders ≡ Some (first_turns counts (sum counts)) → IfSome orders (λ l. AreRunSummaries opening weights blocks queries l summaries)
    → AreRunSummaries opening weights blocks queries (all_orders blocks) summaries
inconsistencies_all opening weights blocks queries counts orders summaries counted all inconsistencies =
    let own : AreRunSummaries opening weights blocks queries (first_turns counts (sum counts)) summaries =
    subst (λ (o : Option (List (List ℕ))). IfSome o (λ l. AreRunSummaries opening weights blocks queries l summaries)) all inconsistencies in
    subst (λ (ks : List ℕ). AreRunSummaries opening weights blocks queries (first_turns ks (sum ks)) summaries) counted own

-- and each order has one
pub each_inconsistency : (opening : List ℤ) (weights : List ℕ) (blocks : List (List Call)) (queries : List Query) (counts : List ℕ) (summaries : List RunSummary)
    → counts ≡ line_counts blocks → AreRunSummaries opening weights blocks queries (all_orders blocks) summaries
    → (order : List ℕ) → IsOrder counts (sum counts) order → (t : RunSummary) × (Contains summaries t × IsSummary opening weights blocks queries order t)
each_inconsistency opening weights blocks queries counts summaries counted inconsistencies order is =
    let among : Contains (all_orders blocks) order =
    subst (λ (ks : List ℕ). Contains (first_turns ks (sum ks)) order) counted (every counts (sum counts) order is) in
    summary_among opening weights blocks queries (all_orders blocks) summaries order inconsistencies among

-- the counts of blocks as they are held
pub held_counts : (blocks : List (Vec Call Global)) → map (λ b. length b.items) blocks ≡ line_counts (map (λ b. b.items) blocks)
held_counts [] = refl
held_counts (b ∷ blocks) = ap (λ (l : List ℕ). length b.items ∷ l) (held_counts blocks)

-- one more order, and its summary
pub drawn_more : (opening : List ℤ) (weights : List ℕ) (blocks : List (List Call)) (queries : List Query) (counts : List ℕ) (many : ℕ) (summaries new : List RunSummary) (o : List ℕ) (t : RunSummary)
    → AreDrawn opening weights blocks queries counts many summaries → IsOrder counts (sum counts) o → IsSummary opening weights blocks queries o t
    → new ≡ summaries ++ t ∷ [] → AreDrawn opening weights blocks queries counts (many + 1) new
drawn_more opening weights blocks queries counts many summaries new o t are order is new_is = record {
  orders = are.orders ++ o ∷ [];
  number = omega (arith, are.number, length-append are.orders (o ∷ []));
  drawn = All-push (IsOrder counts (sum counts)) are.orders o are.drawn order;
  inconsistencies = subst (AreRunSummaries opening weights blocks queries (are.orders ++ o ∷ [])) (sym new_is) (one_more opening weights blocks queries are.orders summaries o t are.inconsistencies is);
}
