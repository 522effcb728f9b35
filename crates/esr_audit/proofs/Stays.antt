-- The result of an audit holds in longer histories.
use Rattle.std.proofs.Common.{◌≡◌, ℕ, ◌≤◌, Bool, true, List, [], ◌∷◌, sym, ap, ◌∙◌, subst, arith, filter, map, Contains, Ok, Err, inl, inr, ⊎_elim, All, IsTrue, Result, IfOk}
use Rattle.std.proofs.lemmas.List.Elements.{All-from_recursion, recursion_from_All, All-nil, All-cons, All-head, All-tail, All-same, All-map}
use Rattle.esr_base.specs.declared.numbers.TxnId.{TxnId}
use Rattle.esr_history.specs.declared.event.Entry.{Entry}
use Rattle.esr_history.specs.Events.{is_committed}
use Rattle.esr_history.specs.Legal.{continued}
use Rattle.esr_history.specs.Machine.{DistanceFunction, Schedule, accepted_in, IsLegal}
use Rattle.esr_history.proofs.Laws.{audit_stays}
use Rattle.esr_history.proofs.Membership.{In, each_in, each_at}
use Rattle.esr_history.specs.Queries.{updates_committed_before, cost, HasSameAudit}
use Rattle.esr_order.specs.Placements.{is_among, IsClosed, IsLeastSet, IsSmallestLeastSet}
use Rattle.esr_order.specs.Statements.{ClosedSetsAreParts}
use Rattle.esr_order.proofs.ConflictOrder.{law_of_placements}
use Rattle.esr_audit.specs.declared.finding.Book.{Book}
use Rattle.esr_audit.specs.declared.finding.Summary.{Summary}
use Rattle.esr_audit.specs.declared.finding.Summaries.{Summaries}
use Rattle.esr_audit.specs.Findings.{IsAnswer, IsFinding, IsBook, AreSummaries, Finding, AuditError, committed_queries, summary, seen_summary}
use Rattle.esr_audit.specs.Ranges.{listed}
use Rattle.esr_audit.proofs.Committed.{query_committed}

module _ (d : DistanceFunction) (h longer : Schedule) (q : ℕ) (alike : HasSameAudit d h longer q) where
  closed_then : (S : ℕ → Bool) → IsClosed h q S → IsClosed longer q S
  closed_then S c = record {
    downward = λ u v cu cv b t.
        let iu : Contains (updates_committed_before h q) u = subst (λ us. Contains us u) alike.updates cu in
        let iv : Contains (updates_committed_before h q) v = subst (λ us. Contains us v) alike.updates cv in
        c.downward u v iu iv (sym (alike.order u v iu iv) ∙ b) t;
    holds_must = λ u m. c.holds_must u (subst (λ us. Contains us u) alike.musts m);
  }

  closed_before : (S : ℕ → Bool) → IsClosed longer q S → IsClosed h q S
  closed_before S c = record {
    downward = λ u v cu cv b t. c.downward u v (subst (λ us. Contains us u) (sym alike.updates) cu) (subst (λ us. Contains us v) (sym alike.updates) cv) (alike.order u v cu cv ∙ b) t;
    holds_must = λ u m. c.holds_must u (subst (λ us. Contains us u) (sym alike.musts) m);
  }

  least_then : (S : ℕ → Bool) → IsLeastSet d h q S → IsLeastSet d longer q S
  least_then S l = record {
    closed = closed_then S l.closed;
    none_less = λ T c. let m : cost d h q S ≤ cost d h q T = l.none_less T (closed_before T c) in omega (arith, m, alike.costs S, alike.costs T);
  }

  least_before : (S : ℕ → Bool) → IsLeastSet d longer q S → IsLeastSet d h q S
  least_before S l = record {
    closed = closed_before S l.closed;
    none_less = λ T c. let m : cost d longer q S ≤ cost d longer q T = l.none_less T (closed_then T c) in omega (arith, m, alike.costs S, alike.costs T);
  }

  smallest_then : (S : ℕ → Bool) → IsSmallestLeastSet d h q S → IsSmallestLeastSet d longer q S
  smallest_then S s = record {
    least = least_then S s.least;
    smallest = λ T t. subst (All (λ u. IsTrue (S u) → IsTrue (T u))) (sym alike.updates) (s.smallest T (least_before T t));
  }

  pub answer_stays : IsLegal d longer → (distance import : ℕ) (before : List ℕ) → IsAnswer d h q distance import before → IsAnswer d longer q distance import before
  answer_stays legal distance import before a =
      let smallest : IsSmallestLeastSet d longer q (is_among before) = smallest_then (is_among before) a.smallest in
      let costs : distance ≡ cost d longer q (is_among before) = a.distance_is ∙ sym (alike.costs (is_among before)) in
      let parts : ClosedSetsAreParts d longer q = law_of_placements d longer q legal in
      record {
        committed = alike.committed ∙ a.committed;
        least = (parts.least distance).1 (is_among before, smallest.least, sym costs);
        in_order = a.in_order ∙ ap (filter (is_among before)) (sym alike.updates);
        smallest = smallest;
        distance_is = costs;
        import_is = a.import_is ∙ sym alike.import;
        bounded = a.bounded;
      }

-- the result for a query that has committed
pub stable : (d : DistanceFunction) (h : Schedule) (q distance import : ℕ) (before : List ℕ) → is_committed (accepted_in h) q ≡ true → IsAnswer d h q distance import before
    → (rest : List Entry) → IsLegal d (continued h rest) → IsAnswer d (continued h rest) q distance import before
stable d h q distance import before committed a = λ rest legal. answer_stays d h (continued h rest) q (audit_stays d h rest q legal committed) legal distance import before a

-- and to each query of which there is a finding
findings_answer : (d : DistanceFunction) (h : Schedule) (fs : List Finding) → map (λ (f : Finding). f.query.0) fs ≡ committed_queries h → All (IsFinding d h) fs
    → (rest : List Entry) → IsLegal d (continued h rest) → All (λ (f : Finding). IsAnswer d (continued h rest) f.query.0 f.distance f.import (map (λ (t : TxnId). t.0) f.before.items)) fs
findings_answer d h fs queries found rest legal =
    All-from_recursion (λ (f : Finding). IsAnswer d (continued h rest) f.query.0 f.distance f.import (map (λ (t : TxnId). t.0) f.before.items)) fs
    (each_in (λ (f : Finding). IsAnswer d (continued h rest) f.query.0 f.distance f.import (map (λ (t : TxnId). t.0) f.before.items)) fs (λ f i.
    let finding : IsFinding d h f = each_at (IsFinding d h) fs f (recursion_from_All (IsFinding d h) fs found) i in
    stable d h f.query.0 f.distance f.import (map (λ (t : TxnId). t.0) f.before.items) (query_committed h f.query.0 (subst (In f.query.0) queries (asked fs f i))) finding.answer rest legal))
  where
    asked : (fs : List Finding) (f : Finding) → In f fs → In f.query.0 (map (λ (f : Finding). f.query.0) fs)
    asked [] f i = absurd i
    asked (g ∷ fs) f i = ⊎_elim (λ e. inl (ap (λ (f : Finding). f.query.0) e)) (λ j. inr (asked fs f j)) i

pub findings_stay : (d : DistanceFunction) (h : Schedule) (r : Result Book AuditError)
    → IfOk r (IsBook d h)
    → IfOk r (λ b. (rest : List Entry) → IsLegal d (continued h rest) → All (λ (f : Finding). IsAnswer d (continued h rest) f.query.0 f.distance f.import (map (λ (t : TxnId). t.0) f.before.items)) b.findings.items)
findings_stay d h (Err e) book = tt
findings_stay d h (Ok b) book = findings_answer d h b.findings.items book.queries book.found

-- the results of summaries are those of the findings
abbrev IsAnswerIn : DistanceFunction → Schedule → ℕ × ℕ × ℕ × List ℕ → Type 0
IsAnswerIn d h t = IsAnswer d h t.0 t.1 t.2 t.3

pub summaries_stay : (d : DistanceFunction) (h : Schedule) (r : Result Summaries AuditError)
    → IfOk r (AreSummaries d h)
    → IfOk r (λ b. (rest : List Entry) → IsLegal d (continued h rest) → All (λ (s : Summary). IsAnswer d (continued h rest) s.query.0 s.distance s.import (listed s.before)) b.summaries.items)
summaries_stay d h (Err e) are = tt
summaries_stay d h (Ok b) are = λ rest legal.
    each_of (IsAnswerIn d (continued h rest)) b.summaries.items
    (All-same (IsAnswerIn d (continued h rest)) (map seen_summary b.summaries.items) (map summary are.0) are.1.of_findings
    (All-map (IsAnswerIn d (continued h rest)) summary are.0 (findings_answer d h are.0 are.1.queries are.1.found rest legal)))
  where
    each_of : (P : ℕ × ℕ × ℕ × List ℕ → Type 0) (ss : List Summary) → All P (map seen_summary ss) → All (λ (s : Summary). P (seen_summary s)) ss
    each_of P [] a = All-nil (λ (s : Summary). P (seen_summary s))
    each_of P (s ∷ ss) a = All-cons (λ (s : Summary). P (seen_summary s)) s ss (All-head P (seen_summary s) (map seen_summary ss) a) (each_of P ss (All-tail P (seen_summary s) (map seen_summary ss) a))
