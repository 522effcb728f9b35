-- A report over any number of histories.
use Rattle.std.proofs.Common.{◌≡◌, ◌+◌, ◌≤◌, ℕ, true, List, ◌++◌, sym, ◌∙◌, ap, subst, inl, inr, ⊎_elim, arith, sum_by, unwrap_or, option_map, if◌then◌else◌}
use Rattle.std.proofs.lemmas.Bool.{and_parts, and_from}
use Rattle.esr_core.specs.Types.{Entry}
use Rattle.esr_core.specs.Carried.{new_number, settled, charged_in, IsCarriedOver, IsReport, IsReport.reads, IsReport.continues, IsReport.is_carried, ReportsAreBounded, ReportsAreBoundedAtCommit, LawOfActiveQueries, LawOfReports}
use Rattle.esr_history.specs.Events.{is_query, is_active, limit_of}
use Rattle.esr_history.specs.Machine.{DistanceFunction, Schedule, accepted_in, charges_in, import_in, export_in, IsLegal}
use Rattle.esr_history.specs.Legal.{continued}
use Rattle.esr_history.specs.Operations.{Operation}
use Rattle.esr_history.specs.Serial.{state}
use Rattle.esr_history.specs.Queries.{updates_committed_before, reads_by}
use Rattle.esr_history.specs.ReportBounds.{AreDistances, AreReadsWithinBound, distance_of_reads, reads_in}
use Rattle.esr_history.proofs.Traces.{IsMetric}
use Rattle.esr_history.proofs.WellFormed.{active_parts}
use Rattle.esr_history.proofs.Charges.{legal_within_limits}
use Rattle.esr_history.proofs.ReportBoundsLaws.{begin_stays, import_grows, bound_grows, bound_at_commit, reads_are_within, import_bounds_active, open_is_imported}

-- the data of a report's bound in its present history
record IsBounded (d : DistanceFunction) (limit : ℕ) (h : Schedule) (q : ℕ) (read_before : List Operation) (part : ℕ) : Type 0 where
  legal : IsLegal d h
  is_within : AreReadsWithinBound d h q read_before (part + import_in (charges_in d h) q)
  limits : part + limit_of (accepted_in h) q ≡ limit

charged_to_query : (h : Schedule) (q : ℕ) (d : DistanceFunction) → is_query (accepted_in h) q ≡ true → charged_in h (charges_in d h) q ≡ import_in (charges_in d h) q
charged_to_query h q d is = ap (λ b. if b then import_in (charges_in d h) q else export_in (charges_in d h) q) is

module _ (d : DistanceFunction) (metric : (w : List ℕ) → IsMetric (d w)) where
  pub within_carried : (h k : Schedule) → IsCarriedOver d h k → (q : ℕ) (read_before : List Operation) (b : ℕ) → AreReadsWithinBound d h q read_before b → AreReadsWithinBound d k (new_number h q).0 read_before b
  within_carried h k c q read_before b is =
      let act = and_parts (is_query (accepted_in h) q) (is_active (accepted_in h) q) is.active in
      let e = c.each q act.1 in
      record {
        active = and_from (is_query (accepted_in k) (new_number h q).0) (is_active (accepted_in k) (new_number h q).0) (e.query ∙ act.0) e.active;
        held = λ x. rw (e.reads x) (is.held x);
        within = λ w mix.
            subst (λ ws. sum_by (λ (o : Operation). d ws o.item o.value (w o.item)) read_before ≤ b) (sym c.weights)
            (is.within w (λ x. ⊎_elim (λ s. inl (s ∙ c.committed x)) (λ s. inr (s ∙ c.current x)) (mix x)));
      }

  limit_stays : (h : Schedule) (later : List Entry) (t : ℕ) → IsLegal d (continued h later) → is_active (accepted_in h) t ≡ true → limit_of (accepted_in (continued h later)) t ≡ limit_of (accepted_in h) t
  limit_stays h later t legal act = ap (λ o. unwrap_or (option_map (λ b. b.limit) o) 0) (begin_stays d h later t legal (active_parts (accepted_in h) t act).0)

  reached : {limit : ℕ} {h : Schedule} {q : ℕ} {read_before : List Operation} {part : ℕ} → IsReport d limit h q read_before part → IsBounded d limit h q read_before part
  reached {limit = limit} (reads h q legal is same) = record {
    legal = legal;
    is_within = subst (λ n. AreReadsWithinBound d h q (reads_by h q) n) (omega arith) (reads_are_within d metric h legal q is);
    limits = omega (arith, same);
  }
  reached {limit = limit} (continues {h = g} {q = q} {read_before = before} {part = part} r later legal is) =
      let b = reached r in
      let act = and_parts (is_query (accepted_in g) q) (is_active (accepted_in g) q) b.is_within.active in
      let more = import_grows d metric g q before (part + import_in (charges_in d g) q) b.is_within later legal in
      let sum : part + import_in (charges_in d g) q + more.0 ≡ part + import_in (charges_in d (continued g later)) q = let s = more.1 in omega (arith, s) in
      record {
        legal = legal;
        is_within =
            subst (λ n. AreReadsWithinBound d (continued g later) q (before ++ reads_in later q) n) sum
            (bound_grows d metric g q before (part + import_in (charges_in d g) q) b.is_within later legal is more.0 more.1);
        limits = ap (λ n. part + n) (limit_stays g later q legal act.1) ∙ b.limits;
      }
  reached {limit = limit} (is_carried {h = g} {q = p} {read_before = read_before} {part = first} r k c) =
      let b = reached r in
      let act = and_parts (is_query (accepted_in g) p) (is_active (accepted_in g) p) b.is_within.active in
      let e = c.each p act.1 in
      let charge : settled d g p + import_in (charges_in d k) (new_number g p).0 ≡ import_in (charges_in d g) p =
      ap (λ n. settled d g p + n) (sym (charged_to_query k (new_number g p).0 d (e.query ∙ act.0))) ∙ (e.charge ∙ charged_to_query g p d act.0) in
      let sum : first + import_in (charges_in d g) p ≡ first + settled d g p + import_in (charges_in d k) (new_number g p).0 = omega (arith, charge) in
      let rest : settled d g p + limit_of (accepted_in k) (new_number g p).0 ≡ limit_of (accepted_in g) p = e.limit in
      let all : first + limit_of (accepted_in g) p ≡ limit = b.limits in
      record {
        legal = c.legal;
        is_within = subst (λ n. AreReadsWithinBound d k (new_number g p).0 read_before n) sum (within_carried g k c p read_before (first + import_in (charges_in d g) p) b.is_within);
        limits = omega (arith, rest, all);
      }

  pub reports_bounded : ReportsAreBounded d
  reports_bounded limit h q read_before part r =
      let b = reached r in
      let low : import_in (charges_in d h) q ≤ limit_of (accepted_in h) q = (legal_within_limits d h b.legal).imports q in
      let all : part + limit_of (accepted_in h) q ≡ limit = b.limits in
      ((λ w mix. b.is_within.within w mix), omega (arith, low, all))

  pub reports_bounded_at_commit : ReportsAreBoundedAtCommit d
  reports_bounded_at_commit limit h q read_before part r later legal over =
      let k : Schedule = continued h later in
      let b = reached r in
      let act = and_parts (is_query (accepted_in h) q) (is_active (accepted_in h) q) b.is_within.active in
      let more = import_grows d metric h q read_before (part + import_in (charges_in d h) q) b.is_within later legal in
      let sum : part + import_in (charges_in d h) q + more.0 ≡ part + import_in (charges_in d k) q = let s = more.1 in omega (arith, s) in
      let low : import_in (charges_in d k) q ≤ limit_of (accepted_in k) q = (legal_within_limits d k legal).imports q in
      let same : limit_of (accepted_in k) q ≡ limit_of (accepted_in h) q = limit_stays h later q legal act.1 in
      let all : part + limit_of (accepted_in h) q ≡ limit = b.limits in (
        subst (λ n. distance_of_reads d h (read_before ++ reads_in later q) (state k (updates_committed_before k q)) ≤ n) sum
            (bound_at_commit d metric h q read_before (part + import_in (charges_in d h) q) b.is_within later legal over more.0 more.1),
        omega (arith, low, same, all),
      )

as_metric : (d : DistanceFunction) → AreDistances d → (w : List ℕ) → IsMetric (d w)
as_metric d a w = record { same = a.same w; symmetric = a.symmetric w; triangle = a.triangle w }

pub law_of_active_queries : LawOfActiveQueries
law_of_active_queries d a h legal = (import_bounds_active d (as_metric d a) h legal, open_is_imported d (as_metric d a) h legal)

pub law_of_reports : LawOfReports
law_of_reports d a = (reports_bounded d (as_metric d a), reports_bounded_at_commit d (as_metric d a))
