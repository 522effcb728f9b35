-- Each committed query of a legal history has a finding, and so each history has audits, whatever computes their results.
use Rattle.std.proofs.Common.{◌≡◌, ℕ, ℤ, suc, ◌^◌, ◌<◌, ◌≤◌, true, List, [], ◌∷◌, length, map, filter_map, slice_get, Option, Some, None, Vec, Global, All, IsTrue}
use Rattle.std.proofs.Common.{refl, sym, ap, ◌∙◌, subst, inl, inr, arith}
use Rattle.std.specs.List.{cons_option, AllByRecursion}
use Rattle.std.proofs.lemmas.Bool.{and_parts, and_from}
use Rattle.std.proofs.lemmas.List.{length-map}
use Rattle.std.proofs.lemmas.List.Elements.{All-from_recursion}
use Rattle.esr_base.specs.declared.limits.TheConstants.{MAX_ITEMS}
use Rattle.esr_base.specs.declared.numbers.TxnId.{TxnId}
use Rattle.esr_items.specs.Values.{IsValue, max_distance}
use Rattle.esr_history.specs.Events.{is_query, is_committed}
use Rattle.esr_history.specs.Machine.{DistanceFunction, Schedule, IsLegal, accepted_in, charges_in, import_in}
use Rattle.esr_history.specs.Operations.{commit_order}
use Rattle.esr_history.specs.Queries.{is_committed_query}
use Rattle.esr_history.specs.Serial.{committed_updates}
use Rattle.esr_history.proofs.Laws.{import_bounds_distance}
use Rattle.esr_history.proofs.Membership.{In, In-of_filter}
use Rattle.esr_history.proofs.Traces.{IsMetric}
use Rattle.esr_order.specs.Relevant.{AreRelevant}
use Rattle.esr_cert.specs.Problem.{Problem, in_set, is_well_formed, IsSmallestLeastCostSet}
use Rattle.esr_cert.specs.Certificate.{Certificate, Certifies}
use Rattle.esr_cert.specs.declared.certificate.Certificate as code
use Rattle.esr_cert.specs.Views.{certificate_of}
use Rattle.esr_flow.proofs.Existence.{each_problem_has_a_certificate}
use Rattle.esr_audit.specs.Problems.{IsProblemOf}
use Rattle.esr_audit.specs.Existence.{IsAuditable, EachCommittedQueryHasAFinding, EachHistoryHasAudits}
use Rattle.esr_audit.specs.Findings.{IsAnswer, IsShown, IsFindingOf, IsFinding, AreAudits, committed_queries, summary_of, Finding}
use Rattle.esr_audit.proofs.BuiltProblem.{problem_is_well_formed}
use Rattle.esr_audit.proofs.CertificateValues.{certificate_is_short, vec_of, certificate_value}
use Rattle.esr_audit.proofs.Committed.{query_committed}
use Rattle.esr_audit.proofs.Found.{answer_from}
use Rattle.esr_audit.proofs.HasOrder.{HasOrder, has_order, numbered, numbers_same}
use Rattle.esr_audit.proofs.ProblemOfOrder.{problem_of_order, is_problem}
use Rattle.esr_audit.proofs.SummaryLaws.{all_summaries}

-- a list without the numbers that lead nowhere is no longer
given_at_most : (us set : List ℕ) → length (filter_map (slice_get us) set) ≤ length set
given_at_most us [] = omega arith
given_at_most us (i ∷ set) = at (slice_get us i) (given_at_most us set)
  where
    at : (o : Option ℕ) → length (filter_map (slice_get us) set) ≤ length set → length (cons_option o (filter_map (slice_get us) set)) ≤ suc (length set)
    at None l = omega arith
    at (Some u) l = omega arith

-- a vector of the transactions with these numbers
txns_of : (us : List ℕ) → length us < 2 ^ 63 → (v : Vec TxnId Global) × (map (λ (t : TxnId). t.0) v.items ≡ us)
txns_of us short =
    let v : (v : Vec TxnId Global) × (v.items ≡ numbered us) = vec_of (numbered us) (omega (arith, length-map (numbered us) (λ (t : TxnId). t.0), ap length (numbers_same us))) in
    (v.0, ap (map (λ (t : TxnId). t.0)) v.1 ∙ sym (numbers_same us))

module _ (d : DistanceFunction) (h : Schedule) (a : IsAuditable d h) where
  -- a certificate of the query's problem makes a finding
  finding_of : (q : ℕ) → IsTrue (is_committed_query h q) → (p : Problem) → IsProblemOf d h q p → AreRelevant h q p.updates → is_well_formed p ≡ true
      → (c : Certificate) → Certifies p c → IsSmallestLeastCostSet p (in_set c.set) → c.augmentations ≡ None → (f : Finding) × (f.query.0 ≡ q) × IsFindingOf d h q f
  finding_of q committed p built relevant sound c certified smallest without_count =
      let members : List ℕ = filter_map (slice_get p.updates) c.set in
      let few : length members ≤ 65535 = omega (arith, given_at_most p.updates c.set, (certificate_is_short p c sound certified).set) in
      let before : (v : Vec TxnId Global) × (map (λ (t : TxnId). t.0) v.items ≡ members) = txns_of members (omega arith) in
      let value : (k : code.Certificate) × (certificate_of k ≡ c) = certificate_value c (certificate_is_short p c sound certified) in
      let import : ℕ = import_in (charges_in d h) q in
      let answer : IsAnswer d h q c.worth import members = answer_from d h q a.opening_values_in_range a.legal p c built sound certified a.import_bounds committed smallest in
      let shown : IsShown d h q c.worth members p c = record { is_problem = built; certified = certified; set_is = refl; worth_is = refl; smallest = smallest; without_count = without_count } in (
        record { query = record { 0 = q }; distance = c.worth; import = import; before = before.0; problem = p; certificate = value.0 },
        refl,
        record {
          answer = subst (IsAnswer d h q c.worth import) (sym before.1) answer;
          shown = subst (IsShown d h q c.worth (map (λ (t : TxnId). t.0) before.0.items) p) (sym value.1) (subst (λ us. IsShown d h q c.worth us p c) (sym before.1) shown);
          relevant = relevant;
        },
      )

  pub has_finding : (q : ℕ) → IsTrue (is_committed_query h q) → (f : Finding) × (f.query.0 ≡ q) × IsFindingOf d h q f
  has_finding q committed =
      let query : IsTrue (is_query (accepted_in h) q) = (and_parts (is_query (accepted_in h) q) (is_committed (accepted_in h) q) committed).0 in
      let o : HasOrder h q = has_order d h q a.legal in
      let us : List ℕ = map (λ (t : TxnId). t.0) o.order.commits in
      let p : Problem = problem_of_order d h q o.order in
      let sound : is_well_formed p ≡ true = problem_is_well_formed d h q a.legal a.opening_values_in_range us o.relevant o.order o.is_order a.items query a.bounded in
      let c : (c : Certificate) × Certifies p c × IsSmallestLeastCostSet p (in_set c.set) × (c.augmentations ≡ None) = each_problem_has_a_certificate p sound in
      finding_of q committed p (is_problem d h q a.legal us o.relevant o.order o.is_order) o.relevant sound c.0 c.1 c.2 c.3

  -- a finding of each of some committed queries
  findings_of : (qs : List ℕ) → ((q : ℕ) → In q qs → IsTrue (is_committed_query h q)) → (fs : List Finding) × (map (λ (f : Finding). f.query.0) fs ≡ qs) × AllByRecursion (IsFinding d h) fs
  findings_of [] committed = ([], refl, tt)
  findings_of (q ∷ qs) committed =
      let first : (f : Finding) × (f.query.0 ≡ q) × IsFindingOf d h q f = has_finding q (committed q (inl refl)) in
      let others : (fs : List Finding) × (map (λ (f : Finding). f.query.0) fs ≡ qs) × AllByRecursion (IsFinding d h) fs = findings_of qs (λ r i. committed r (inr i)) in (
        first.0 ∷ others.0,
        ap (λ r. r ∷ map (λ (f : Finding). f.query.0) others.0) first.1 ∙ ap (λ rs. q ∷ rs) others.1,
        (subst (λ r. IsFindingOf d h r first.0) (sym first.1) first.2, others.2),
      )

  committed_in_order : (q : ℕ) → In q (committed_queries h) → IsTrue (is_committed_query h q)
  committed_in_order q i =
      and_from (is_query (accepted_in h) q) (is_committed (accepted_in h) q) (In-of_filter (is_query (accepted_in h)) (commit_order (accepted_in h)) q i).1 (query_committed h q i)

  pub has_audits : (updates : List ℕ) (results : List (ℕ × ℕ × ℕ × List ℕ)) → updates ≡ committed_updates h → results ≡ map (summary_of d h) (committed_queries h)
      → (findings : List Finding) × AreAudits d h updates findings results
  has_audits updates results order are =
      let all : (fs : List Finding) × (map (λ (f : Finding). f.query.0) fs ≡ committed_queries h) × AllByRecursion (IsFinding d h) fs = findings_of (committed_queries h) committed_in_order in
      let found : All (IsFinding d h) all.0 = All-from_recursion (IsFinding d h) all.0 all.2 in
      (all.0, record { order = order; queries = all.1; found = found; of_findings = are ∙ sym (all_summaries d h all.0 (committed_queries h) found all.1); summaries = are })

-- a legal history is auditable if its distances are a metric's
pub auditable : (d : DistanceFunction) → ((w : List ℕ) → IsMetric (d w)) → ((w : List ℕ) (x : ℕ) (a b : ℤ) → IsValue a → IsValue b → d w x a b ≤ max_distance)
    → (h : Schedule) → IsLegal d h → All IsValue h.opening → length h.opening ≤ MAX_ITEMS → IsAuditable d h
auditable d metric bounded h legal values items =
    record { legal = legal; opening_values_in_range = values; items = items; bounded = bounded; import_bounds = import_bounds_distance d metric h legal }

pub each_committed_query_has_a_finding : EachCommittedQueryHasAFinding
each_committed_query_has_a_finding d h q a committed = has_finding d h a q committed

pub each_history_has_audits : EachHistoryHasAudits
each_history_has_audits d h updates results a order are = has_audits d h a updates results order are
