-- A solved problem of a query yields the audit's result.
use Rattle.std.proofs.Common.{◌≡◌, ℕ, zero, suc, [], ◌∷◌, map, Option, Some, None, ◌<◌, ◌≤◌, true, not, eqb, ◌&&◌, List, length, refl, sym, ap, ◌∙◌, arith, All, IsTrue, option_map}
use Rattle.esr_base.specs.declared.numbers.TxnId.{TxnId}
use Rattle.std.specs.List.{cons_option, filter_map, slice_get, AllByRecursion}
use Rattle.std.proofs.lemmas.Bool.{and_parts}
use Rattle.std.proofs.lemmas.List.Elements.{recursion_from_All}
use Rattle.esr_items.specs.Values.{IsValue}
use Rattle.esr_history.specs.Machine.{DistanceFunction, Schedule, IsLegal, charges_in, import_in}
use Rattle.esr_history.specs.Operations.{Operation, operations}
use Rattle.esr_history.specs.Queries.{is_committed_query, updates_committed_before, reads_by, cost, ImportBoundsDistance}
use Rattle.esr_history.proofs.Membership.{Each-filter}
use Rattle.esr_history.proofs.WithinRanges.{legal_within_ranges}
use Rattle.esr_order.specs.Placements.{is_among, IsClosed, IsLeastSet, IsSmallestLeastSet, IsLeastDistance}
use Rattle.esr_order.specs.Statements.{ClosedSetsAreParts}
use Rattle.esr_order.proofs.ConflictOrder.{law_of_placements}
use Rattle.esr_cert.specs.Problem.{Problem, update_count, is_well_formed, in_set, is_distinct, IsSmallestLeastCostSet}
use Rattle.esr_cert.specs.Problem as problems
use Rattle.esr_cert.specs.Certificate.{Certificate, Certifies}
use Rattle.esr_cert.proofs.Sound.{IsProblem, facts, shape_facts}
use Rattle.esr_cert.proofs.Certified.{IsFaultless, faultless, cost_is, worth_least}
use Rattle.esr_flow.proofs.SolveLaws.{closed_same, smallest_same, same_cost}
use Rattle.esr_audit.specs.Problems.{passes_at, IsProblemOf}
use Rattle.esr_audit.specs.Findings.{IsAnswer}
use Rattle.esr_audit.proofs.Costs.{cost_is_distance}
use Rattle.esr_audit.proofs.Smallest.{known_at, closed_is_least, smallest_is_least}
use Rattle.esr_audit.proofs.Positions.{passes_as_set, before_members}

-- the items that a query read are among those of the history
pub reads_inside : (d : DistanceFunction) (h : Schedule) (q : ℕ) → All IsValue h.opening → IsLegal d h → AllByRecursion (λ (o : Operation). o.item < length h.opening) (reads_by h q)
reads_inside d h q opening_values_in_range legal =
    Each-filter (λ (o : Operation). o.item < length h.opening) (λ (o : Operation). not o.writes && eqb o.txn q) (operations h) (recursion_from_All (λ (o : Operation). o.item < length h.opening) (operations h) (legal_within_ranges d h opening_values_in_range legal).items)

-- A certificate of the problem that was built for a query.
module _ (d : DistanceFunction) (h : Schedule) (q : ℕ) (opening_values_in_range : All IsValue h.opening) (legal : IsLegal d h) (p : Problem) (c : Certificate) (built : IsProblemOf d h q p) (sound : is_well_formed p ≡ true) (certified : Certifies p c) where
  -- the certificate's set, as transactions
  abbrev members : List ℕ
  members = filter_map (slice_get p.updates) c.set

  problem : IsProblem p
  problem = facts p sound

  faults : IsFaultless p c
  faults = faultless p c certified

  distinct : is_distinct p.updates ≡ true
  distinct = (shape_facts p (and_parts _ _ sound).0).distinct

  inside : AllByRecursion (λ (o : Operation). o.item < length h.opening) (reads_by h q)
  inside = reads_inside d h q opening_values_in_range legal

  same : (u : ℕ) → u < update_count p → in_set c.set u ≡ passes_at p.updates (is_among members) u
  same u l = sym (passes_as_set p.updates distinct c.set faults.ascending faults.in_range u l)

  costs : problems.cost p (in_set c.set) ≡ problems.cost p (passes_at p.updates (is_among members))
  costs = same_cost p problem (in_set c.set) (passes_at p.updates (is_among members)) same

  distance : c.worth ≡ cost d h q (is_among members)
  distance = cost_is p c faults ∙ costs ∙ cost_is_distance d h q p built inside (is_among members)

  least : IsLeastSet d h q (is_among members)
  least =
      closed_is_least d h q p built problem inside (is_among members) (known_at p.updates c.set)
      (closed_same p problem (in_set c.set) (passes_at p.updates (is_among members)) same faults.closed)
      (λ has closed. let l : c.worth ≤ problems.cost p has = worth_least p c sound certified has closed in omega (arith, l, costs, cost_is p c faults))

  -- Any certificate shows the query's least distance, whichever of the sets of least cost it has.
  pub certified_is_least : IsLeastDistance d h q c.worth
  certified_is_least = let parts : ClosedSetsAreParts d h q = law_of_placements d h q legal in (parts.least c.worth).1 (is_among members, least, sym distance)

  -- A certificate with the smallest set of least cost gives the audit's answer.
  pub answer_from : ImportBoundsDistance d h → IsTrue (is_committed_query h q) → IsSmallestLeastCostSet p (in_set c.set) → IsAnswer d h q c.worth (import_in (charges_in d h) q) members
  answer_from bound committed s =
      let smallest : IsSmallestLeastSet d h q (is_among members) =
      smallest_is_least d h q p built problem inside (is_among members) (known_at p.updates c.set) (smallest_same p problem (in_set c.set) (passes_at p.updates (is_among members)) same s) in
      let all_closed : IsClosed h q (λ u. true) = record { downward = λ u v cu cv b t. refl; holds_must = λ u m. refl } in
      record {
        committed = committed;
        least = certified_is_least;
        in_order = before_members p.updates distinct c.set faults.ascending faults.in_range (updates_committed_before h q) built.updates;
        smallest = smallest;
        distance_is = distance;
        import_is = refl;
        bounded = omega (arith, distance, smallest.least.none_less (λ u. true) all_closed, bound q committed);
      }

-- the finding, with its list of updates
pub found_of : (p : Problem) (us vs : List TxnId) → map (λ (t : TxnId). t.0) us ≡ p.updates → (set : List ℕ) → vs ≡ filter_map (slice_get us) set → map (λ (t : TxnId). t.0) vs ≡ filter_map (slice_get p.updates) set
found_of p us vs a set b = ap (map (λ (t : TxnId). t.0)) b ∙ each set ∙ ap (λ (ns : List ℕ). filter_map (slice_get ns) set) a
  where
    one : (us : List TxnId) (i : ℕ) → option_map (λ (t : TxnId). t.0) (slice_get us i) ≡ slice_get (map (λ (t : TxnId). t.0) us) i
    one [] i = refl
    one (u ∷ us) zero = refl
    one (u ∷ us) (suc i) = one us i

    add : (o : Option TxnId) (rest : List TxnId) → map (λ (t : TxnId). t.0) (cons_option o rest) ≡ cons_option (option_map (λ (t : TxnId). t.0) o) (map (λ (t : TxnId). t.0) rest)
    add None rest = refl
    add (Some t) rest = refl

    each : (set : List ℕ) → map (λ (t : TxnId). t.0) (filter_map (slice_get us) set) ≡ filter_map (slice_get (map (λ (t : TxnId). t.0) us)) set
    each [] = refl
    each (i ∷ set) = add (slice_get us i) (filter_map (slice_get us) set) ∙ ap (cons_option (option_map (λ (t : TxnId). t.0) (slice_get us i))) (each set) ∙ ap (λ (o : Option ℕ). cons_option o (filter_map (slice_get (map (λ (t : TxnId). t.0) us)) set)) (one us i)
