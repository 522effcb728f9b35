-- The laws of legal histories on their committed updates and queries.
use Rattle.std.proofs.Common.{◌≡◌, ℕ, ℤ, ◌≤◌, true, false, ◌&&◌, ◌==◌, List, [], ◌∷◌, ◌++◌, length, take, refl, sym, ◌∙◌, ap, subst, filter, eqb, Some, slice_get, sum_by, if◌then◌else◌, arith, IsTrue, unwrap_or, option_map}
use Rattle.std.specs.List.{before_first, filter_map}
use Rattle.std.proofs.Math.Path.{fun_ext}
use Rattle.std.proofs.Math.Seq.{take-append_seam}
use Rattle.std.proofs.lemmas.Bool.{and_parts, or_left}
use Rattle.std.proofs.lemmas.List.Elements.{filter-append, filter_map-append}
use Rattle.esr_items.specs.Values.{value_at}
use Rattle.esr_history.specs.Events.{accepted, is_query, is_update, is_committed, written, last_value, ItemId, TxnId, Read, Value, Entry}
use Rattle.esr_history.specs.Machine.{DistanceFunction, Schedule, accepted_in, value_distance, import_in, charges_in, IsLegal}
use Rattle.esr_history.specs.Legal.{continued}
use Rattle.esr_history.specs.Operations.{Operation, operations, operations_in, commit_order}
use Rattle.esr_history.specs.Serial.{is_before, committed_updates, state, IsSerializable}
use Rattle.esr_history.specs.Queries.{updates_committed_before, is_strict, begins, before_begin, distance_from, members, ImportBoundsDistance, HasSameAudit}
use Rattle.esr_history.proofs.Membership.{get_seam, Pairs, Pairs-filter, All-from_pairs, Contains-In, In-of_filter, In-filter, In-from_any, any-from_number}
use Rattle.esr_history.proofs.Traces.{IsMetric, is_among, after_writes}
use Rattle.esr_history.proofs.Locking.{known, commits_in_order, commits_once}
use Rattle.esr_history.proofs.Versions.{wrote_by, state_in, committed_version, flat_map_agree}
use Rattle.esr_history.proofs.Bounded.{bounded, before_first-unchanged}
use Rattle.esr_history.proofs.Replays.{reads_ahead}
use Rattle.esr_history.proofs.TraceAgreement.{query_not_update, trace, committed_among, written_trace, committed_trace, state_trace}
use Rattle.esr_history.proofs.TraceOfHistory.{legal_reached}
use Rattle.esr_history.proofs.Onward.{IsAfter, legal_after, legal_front, has_begins}

-- operations of entries in two parts
pub operations-append : (xs ys : List Entry) → operations_in (xs ++ ys) ≡ operations_in xs ++ operations_in ys
operations-append xs ys = grind (arith, filter-append, filter_map-append, filter)

module _ (d : DistanceFunction) (h : Schedule) (legal : IsLegal d h) where
  -- in commit order, each committed update once and after those before it
  pub updates_once : Pairs (λ u v. u ≡ v → ⊥) (committed_updates h)
  updates_once = Pairs-filter (λ u v. u ≡ v → ⊥) (is_update (accepted_in h)) (commit_order (accepted_in h)) (commits_once (legal_reached d h legal))

  pub updates_in_order : Pairs (λ u v. is_before h v u ≡ false) (committed_updates h)
  updates_in_order = commits_in_order (legal_reached d h legal)

  reads_serially : (before after : List Entry) (t : TxnId) (x : ItemId) (v : ℤ) → h.entries ≡ before ++ record { event = Read t x; reply = Value v } ∷ after
      → IsTrue (is_update (accepted_in h) t.0 && is_committed (accepted_in h) t.0)
      → v ≡ last_value (state h (before_first (λ u. u == t.0) (committed_updates h)) x.0) (filter_map (written (λ u. u == t.0) x.0) (accepted before))
  reads_serially before after t x v split own =
      let r : Operation = record { txn = t.0; item = x.0; writes = false; value = v } in
      let parts = and_parts (is_update (accepted_in h) t.0) (is_committed (accepted_in h) t.0) own in
      let ops : operations h ≡ operations_in before ++ r ∷ operations_in after = ap operations_in split ∙ operations-append before (record { event = Read t x; reply = Value v } ∷ after) in
      let at : slice_get (operations h) (length (operations_in before)) ≡ Some r = ap (λ l. slice_get l (length (operations_in before))) ops ∙ get_seam (operations_in before) r (operations_in after) in
      let front : take (length (operations_in before)) (operations h) ≡ operations_in before = ap (take (length (operations_in before))) ops ∙ take-append_seam (operations_in before) (r ∷ operations_in after) in
      let member : is_among (committed_updates h) t.0 ≡ true =
      any-from_number (committed_updates h) t.0 (In-filter (is_update (accepted_in h)) (commit_order (accepted_in h)) t.0 (In-from_any (commit_order (accepted_in h)) t.0 (sym (committed_among (accepted_in h) t.0) ∙ parts.1)) parts.0) in
      reads_ahead (legal_reached d h legal) (length (operations_in before)) r at refl member
      ∙ (ap (λ l. after_writes (state_in (value_at h.opening) (trace h) (before_first (λ u. eqb u t.0) (committed_updates h)) x.0) (filter (wrote_by x.0 t.0) l)) front
      ∙ (ap (λ s. after_writes s (filter (wrote_by x.0 t.0) (operations_in before))) (sym (state_trace h (before_first (λ u. eqb u t.0) (committed_updates h)) x.0))
      ∙ ap (last_value (state h (before_first (λ u. u == t.0) (committed_updates h)) x.0)) (sym (written_trace (record h { entries = before }) (λ u. u == t.0) x.0))))

  -- the committed updates run as one after another in commit order
  pub legal_serializable : IsSerializable h
  legal_serializable = record {
    serial = record {
      lists = λ u. ((λ i. i), (λ i. i));
      once = All-from_pairs (λ u v. u ≡ v → ⊥) (committed_updates h) updates_once;
      keeps = All-from_pairs (λ u v. is_before h v u ≡ false) (committed_updates h) updates_in_order;
    };
    reads = reads_serially;
    leaves = λ x. state_trace h (committed_updates h) x ∙ (committed_version (legal_reached d h legal) (value_at h.opening) x ∙ sym (committed_trace h x));
  }

all_members : (xs : List ℕ) → filter (λ _. true) xs ≡ xs
all_members [] = refl
all_members (x ∷ xs) = ap (λ zs. x ∷ zs) (all_members xs)

-- with all its updates before it, a committed query costs at most its import
pub import_bounds_distance : (d : DistanceFunction) → ((w : List ℕ) → IsMetric (d w)) → (h : Schedule) → IsLegal d h → ImportBoundsDistance d h
import_bounds_distance d metric h legal q is =
    let p = and_parts (is_query (accepted_in h) q) (is_committed (accepted_in h) q) is in
    let values : state h (members h q (λ _. true)) ≡ state_in (value_at h.opening) (trace h) (updates_committed_before h q) = ap (state h) (all_members (updates_committed_before h q)) ∙ fun_ext (state_trace h (updates_committed_before h q)) in
    subst (λ (w : ℕ → ℤ). distance_from d h q w ≤ import_in (charges_in d h) q) (sym values)
    (bounded (metric h.weights) (legal_reached d h legal) q (sym (committed_among (accepted_in h) q) ∙ p.1) (query_not_update (accepted_in h) q p.0))

-- the audit of a committed query has the same result in every longer legal history
pub audit_stays : (d : DistanceFunction) (h : Schedule) (rest : List Entry) (q : ℕ) → IsLegal d (continued h rest) → is_committed (accepted_in h) q ≡ true → HasSameAudit d h (continued h rest) q
audit_stays d h rest q legal over =
    let longer : Schedule = continued h rest in
    let after : IsAfter d h q longer = legal_after d h rest q legal over in
    let same = after.same in
    let begun = (known (legal_reached d h (legal_front d h rest legal))).of_ends q (or_left (is_among (commit_order (accepted_in h)) q) (is_among (trace h).aborts q) (sym (committed_among (accepted_in h) q) ∙ over)) in
    let front : before_begin longer q ≡ before_begin h q = before_first-unchanged (λ (e : Entry). begins q e.reply) h.entries rest (has_begins d h (legal_front d h rest legal) q begun) in
    record {
      committed =
          ap (λ o. unwrap_or (option_map (λ b. b.query) o) false && is_committed (accepted_in longer) q) same.begins
          ∙ ap (λ b. is_query (accepted_in h) q && b) (committed_among (accepted_in longer) q ∙ (same.committed ∙ sym over));
      updates = same.updates;
      musts =
          ap (λ o. if unwrap_or (option_map (λ b. b.strict) o) false then filter (is_committed (accepted (before_begin longer q))) (updates_committed_before longer q) else []) same.begins
          ∙ (ap (λ (es : List Entry). if is_strict (accepted_in h) q then filter (is_committed (accepted es)) (updates_committed_before longer q) else []) front
          ∙ ap (λ us. if is_strict (accepted_in h) q then filter (is_committed (accepted (before_begin h q))) us else []) same.updates);
      order = λ u v iu iv. same.order u v (Contains-In (updates_committed_before h q) u iu) (Contains-In (updates_committed_before h q) v iv);
      costs = λ S.
          ap (λ l. sum_by (λ (o : Operation). value_distance d h o.item o.value (state longer (members longer q S) o.item)) l) same.reads
          ∙ ap (distance_from d h q) (fun_ext (λ x.
          ap (λ us. state longer (filter S us) x) same.updates
          ∙ (state_trace longer (members h q S) x
          ∙ (ap (after_writes (value_at h.opening x))
          (flat_map_agree (λ u. filter (wrote_by x u) (operations longer)) (λ u. filter (wrote_by x u) (operations h)) (members h q S) (λ u i. same.writes u x (In-of_filter S (updates_committed_before h q) u i).0))
          ∙ sym (state_trace h (members h q S) x)))));
      import = after.imported;
    }
