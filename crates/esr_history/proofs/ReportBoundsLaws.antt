-- The laws of active queries: their reads in one history, and over several.
use Rattle.std.proofs.Common.{◌≡◌, ℕ, ◌+◌, ◌≤◌, ℤ, Bool, true, false, not, ◌&&◌, ◌==◌, IsTrue, List, [], ◌++◌, refl, sym, ◌∙◌, ap, subst, inl, inr, ⊎_elim, arith, filter, append-nil, add-zero, ◌∷◌, cond, eqb, count_by, sum_by, Option, None, Some, is_some}
use Rattle.std.proofs.lemmas.Bool.{and_parts, or_parts, true≢false}
use Rattle.std.proofs.lemmas.List.Sums.{sum_by-cons}
use Rattle.std.proofs.Math.Path.{fun_ext}
use Rattle.std.proofs.lemmas.List.{append_cancel_left}
use Rattle.std.proofs.lemmas.List.Elements.{filter-append}
use Rattle.esr_items.specs.Values.{value_at}
use Rattle.esr_history.specs.Events.{BeginRecord, begin_record, is_begun, is_refusal, is_query, is_active, is_committed, current_value, Event, Reply, Refused, Value, Begun, Wrote, Committed, Aborted, Entry}
use Rattle.esr_history.specs.Machine.{DistanceFunction, Schedule, accepted_in, empty_schedule, value_distance, charges_in, import_in, extended, reply_to, IsLegal}
use Rattle.esr_history.specs.Legal.{continued, legal_induction_after}
use Rattle.esr_history.specs.Operations.{Operation, operations, operations_in}
use Rattle.esr_history.specs.Queries.{reads_by, updates_committed_before}
use Rattle.esr_history.specs.ReportBounds.{is_active_query, IsMixture, ImportBoundsActive, distance_of_reads, AreReadsWithinBound, reads_in, BoundGrowsByImport, BoundHoldsAtCommit, OpenIsImported}
use Rattle.esr_history.proofs.Traces.{IsMetric, is_among, reads_item, committed_in}
use Rattle.esr_history.proofs.Versions.{state_in}
use Rattle.esr_history.proofs.Covered.{read_by, covered}
use Rattle.esr_history.proofs.Covered as mixed
use Rattle.esr_history.proofs.Open.{open_within}
use Rattle.esr_history.proofs.ReportBounds.{distance_at, AreReadsWithin, IsOnward, onward_kept}
use Rattle.esr_history.proofs.TraceAgreement.{trace, query_not_update, committed_trace, current_trace, reads_trace, active_trace, state_trace, committed_among}
use Rattle.esr_history.proofs.TraceOfHistory.{setting, imports, kept_step, legal_reached}
use Rattle.esr_history.proofs.Onward.{legal_parts, legal_front}
use Rattle.esr_history.proofs.Laws.{operations-append}
use Rattle.esr_history.proofs.LegalWellFormed.{done-refused, done-accepted}
use Rattle.esr_history.proofs.WellFormed.{begin_record-push}

and_true : (b : Bool) → (b && true) ≡ b
and_true true = refl
and_true false = refl

and_false : (b : Bool) → (b && false) ≡ false
and_false true = refl
and_false false = refl

-- the mixtures of a history are those of its trace
to_trace : (h : Schedule) (w : ℕ → ℤ) → IsMixture h w → mixed.IsMixture (value_at h.opening) (trace h) w
to_trace h w mix x = ⊎_elim (λ e. inl (e ∙ committed_trace h x)) (λ e. inr (e ∙ current_trace h x)) (mix x)

from_trace : (h : Schedule) (w : ℕ → ℤ) → mixed.IsMixture (value_at h.opening) (trace h) w → IsMixture h w
from_trace h w mix x = ⊎_elim (λ e. inl (e ∙ sym (committed_trace h x))) (λ e. inr (e ∙ sym (current_trace h x))) (mix x)

-- how a transaction began stays
pub begin_stays : (d : DistanceFunction) (h : Schedule) (later : List Entry) (t : ℕ) → IsLegal d (continued h later) → is_begun (accepted_in h) t ≡ true → begin_record (accepted_in (continued h later)) t ≡ begin_record (accepted_in h) t
begin_stays d h later t legal begun =
    legal_induction_after d (λ g. begin_record (accepted_in g) t ≡ begin_record (accepted_in h) t) step h later (legal_parts d (empty_schedule h) h.entries later legal).1 refl
  where
    refused_done : (g : Schedule) (e : Event) (r : Reply) → is_refusal r ≡ true → accepted_in (extended g e r) ≡ accepted_in g
    refused_done g e (Refused why) refuses = done-refused g e why
    refused_done g e (Value v) refuses = absurd (true≢false (sym refuses))
    refused_done g e (Begun u) refuses = absurd (true≢false (sym refuses))
    refused_done g e Wrote refuses = absurd (true≢false (sym refuses))
    refused_done g e Committed refuses = absurd (true≢false (sym refuses))
    refused_done g e Aborted refuses = absurd (true≢false (sym refuses))

    step : (g : Schedule) (e : Event) (r : Reply) → r ≡ reply_to d g e → begin_record (accepted_in g) t ≡ begin_record (accepted_in h) t → begin_record (accepted_in (extended g e r)) t ≡ begin_record (accepted_in h) t
    step g e r is same = at (is_refusal r) refl
      where
        grown : (b : Option BeginRecord) → begin_record (accepted_in g) t ≡ b → is_some b ≡ true → begin_record (accepted_in g ++ e ∷ []) t ≡ begin_record (accepted_in g) t
        grown None was some = absurd (true≢false (sym some))
        grown (Some b) was some = begin_record-push (accepted_in g) e t b was ∙ sym was

        at : (b : Bool) → is_refusal r ≡ b → begin_record (accepted_in (extended g e r)) t ≡ begin_record (accepted_in h) t
        at false accepts = ap (λ (es : List Event). begin_record es t) (done-accepted g e r accepts) ∙ (grown (begin_record (accepted_in g) t) refl (ap is_some same ∙ begun) ∙ same)
        at true refuses = ap (λ (es : List Event). begin_record es t) (refused_done g e r refuses) ∙ same

module _ (d : DistanceFunction) (metric : (w : List ℕ) → IsMetric (d w)) where
  pub import_bounds_active : (h : Schedule) → IsLegal d h → ImportBoundsActive d h
  import_bounds_active h legal q is w mix =
      let p = and_parts (is_query (accepted_in h) q) (is_active (accepted_in h) q) is in
      covered (metric h.weights) (legal_reached d h legal) q (active_trace h q p.1).open_ended (query_not_update (accepted_in h) q p.0) w (to_trace h w mix)

  within_in_trace : (h : Schedule) (q : ℕ) (read_ops : List Operation) (b : ℕ) → AreReadsWithinBound d h q read_ops b → AreReadsWithin (setting d h) (trace h) q read_ops b
  within_in_trace h q read_ops b is = record {
    held = λ x. rw (sym (reads_trace h q x)) (is.held x);
    within = λ w mix. is.within w (from_trace h w mix);
  }

  module _ (h : Schedule) (q : ℕ) (read_ops : List Operation) (b : ℕ) (is : AreReadsWithinBound d h q read_ops b) (later : List Entry) (legal : IsLegal d (continued h later)) where
    abbrev k : Schedule
    k = continued h later

    start : IsOnward (setting d h) q (reads_by h q) (imports d h q) read_ops b (trace h) (imports d h)
    start =
        let was = and_parts (is_query (accepted_in h) q) (is_active (accepted_in h) q) is.active in
        record {
          reached = legal_reached d h (legal_front d h later legal);
          query = was.0;
          later = [];
          reads = sym (append-nil (reads_by h q));
          more = 0;
          grown = sym (add-zero (imports d h q));
          within_while_active = λ e.
              subst (λ l. AreReadsWithin (setting d h) (trace h) q l (b + 0)) (sym (append-nil read_ops))
              (subst (λ n. AreReadsWithin (setting d h) (trace h) q read_ops n) (sym (add-zero b)) (within_in_trace h q read_ops b is));
          within_at_commit = λ over. absurd (true≢false (sym over ∙ (or_parts (is_among (trace h).commits q) (is_among (trace h).aborts q) (active_trace h q was.1).open_ended).0));
        }

    onward : IsOnward (setting d k) q (reads_by h q) (imports d h q) read_ops b (trace k) (imports d k)
    onward =
        legal_induction_after d (λ g. IsOnward (setting d g) q (reads_by h q) (imports d h q) read_ops b (trace g) (imports d g))
        (λ g e r answers p. kept_step d g (IsOnward (setting d g) q (reads_by h q) (imports d h q) read_ops b)
        (onward_kept (setting d g) (metric g.weights) q (reads_by h q) (imports d h q) read_ops b) e r answers p)
        h later (legal_parts d (empty_schedule h) h.entries later legal).1 start

    same_later : onward.later ≡ reads_in later q
    same_later = append_cancel_left (reads_by h q) onward.later (reads_in later q) (sym onward.reads ∙ (ap (filter (read_by q)) (operations-append h.entries later) ∙ filter-append (read_by q) (operations_in h.entries) (operations_in later)))

    same_more : (more : ℕ) → imports d h q + more ≡ imports d k q → onward.more ≡ more
    same_more more grown = let a : imports d k q ≡ imports d h q + onward.more = onward.grown in omega (arith, a, grown)

  pub import_grows : (h : Schedule) (q : ℕ) (read_ops : List Operation) (b : ℕ) → AreReadsWithinBound d h q read_ops b → (later : List Entry) → IsLegal d (continued h later)
      → (more : ℕ) × (import_in (charges_in d h) q + more ≡ import_in (charges_in d (continued h later)) q)
  import_grows h q read_ops b is later legal = let o = onward h q read_ops b is later legal in (o.more, sym o.grown)

  pub bound_grows : (h : Schedule) → BoundGrowsByImport d h
  bound_grows h q read_ops b is later legal then_active more grown =
      let k : Schedule = continued h later in
      let now = and_parts (is_query (accepted_in k) q) (is_active (accepted_in k) q) then_active in
      let a : AreReadsWithin (setting d k) (trace k) q (read_ops ++ reads_in later q) (b + more) =
      subst (λ l. AreReadsWithin (setting d k) (trace k) q (read_ops ++ l) (b + more)) (same_later h q read_ops b is later legal)
      (subst (λ n. AreReadsWithin (setting d k) (trace k) q (read_ops ++ (onward h q read_ops b is later legal).later) (b + n)) (same_more h q read_ops b is later legal more grown)
      ((onward h q read_ops b is later legal).within_while_active (active_trace k q now.1).open_ended)) in
      record {
        active = then_active;
        held = λ x. rw (reads_trace k q x) (a.held x);
        within = λ w mix. a.within w (to_trace k w mix);
      }

  pub bound_at_commit : (h : Schedule) → BoundHoldsAtCommit d h
  bound_at_commit h q read_ops b is later legal over more grown =
      let k : Schedule = continued h later in
      let p = and_parts (is_query (accepted_in k) q) (is_committed (accepted_in k) q) over in
      subst (λ (w : ℕ → ℤ). distance_of_reads d h (read_ops ++ reads_in later q) w ≤ b + more) (sym (fun_ext (state_trace k (updates_committed_before k q))))
      (subst (λ l. distance_at (value_distance d h) (read_ops ++ l) (state_in (value_at k.opening) (trace k) (updates_committed_before k q)) ≤ b + more) (same_later h q read_ops b is later legal)
      (subst (λ n. distance_at (value_distance d h) (read_ops ++ (onward h q read_ops b is later legal).later) (state_in (value_at k.opening) (trace k) (updates_committed_before k q)) ≤ b + n) (same_more h q read_ops b is later legal more grown)
      ((onward h q read_ops b is later legal).within_at_commit (sym (committed_among (accepted_in k) q) ∙ p.1))))

  pub open_is_imported : (h : Schedule) → IsLegal d h → OpenIsImported d h
  open_is_imported h legal q is =
      let p = and_parts (is_query (accepted_in h) q) (is_active (accepted_in h) q) is in
      subst (λ (f : ℕ → ℕ). sum_by (λ (o : Operation). f o.item) (reads_by h q) ≤ import_in (charges_in d h) q)
      (fun_ext (λ x. ap (λ v. value_distance d h x v (committed_in (value_at h.opening) (trace h) x)) (sym (current_trace h x)) ∙ ap (value_distance d h x (current_value h.opening (accepted_in h) x)) (sym (committed_trace h x))))
      (open_within (metric h.weights) (legal_reached d h legal) q (active_trace h q p.1).open_ended (query_not_update (accepted_in h) q p.0))

  -- the values that an active query got are its reads, within its import
  pub reads_are_within : (h : Schedule) → IsLegal d h → (q : ℕ) → IsTrue (is_active_query h q) → AreReadsWithinBound d h q (reads_by h q) (import_in (charges_in d h) q)
  reads_are_within h legal q is = record {
    active = is;
    held = λ x. rw (reads_trace h q x) (fewer x (operations h));
    within = λ w mix. import_bounds_active h legal q is w mix;
  }
    where
      fewer : (x : ℕ) (os : List Operation) → count_by (λ o. o.item == x) (filter (read_by q) os) ≤ count_by (λ o. reads_item x o && eqb o.txn q) os
      fewer x [] = omega arith
      fewer x (o ∷ os) =
          rw (sum_by-cons (λ y. cond (reads_item x y && eqb y.txn q) 1 0) o os)
          (at o.writes (eqb o.txn q) (fewer x os))
        where
          at : (w t : Bool) → count_by (λ o. o.item == x) (filter (read_by q) os) ≤ count_by (λ o. reads_item x o && eqb o.txn q) os
              → count_by (λ o. o.item == x) (cond (not w && t) (o ∷ filter (read_by q) os) (filter (read_by q) os)) ≤ cond ((not w && eqb o.item x) && t) 1 0 + count_by (λ o. reads_item x o && eqb o.txn q) os
          at true t rest = omega (arith, rest)
          at false false rest = rw (and_false (eqb o.item x)) (omega (arith, rest))
          at false true rest = rw (sum_by-cons (λ y. cond (eqb y.item x) 1 0) o (filter (read_by q) os), and_true (eqb o.item x)) (omega (arith, rest))
