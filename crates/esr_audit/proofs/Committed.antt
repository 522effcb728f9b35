-- The transactions that committed in a history.
use Rattle.std.proofs.Common.{◌≡◌, ℕ, ◌+◌, ◌≤◌, ◌<◌, ◌==◌, eqb, arith, subst, true, false, not, List, [], ◌∷◌, length, filter, map, refl, sym, ap, ◌∙◌, inl, inr, Option, Some, None, All, IsTrue, is_some, unwrap_or, option_map}
use Rattle.std.specs.List.{list_any, AllByRecursion, IsDistinct}
use Rattle.std.proofs.lemmas.Bool.{and_from, or_left, or_right, eq-eqb, ne_eqb, eqb-true}
use Rattle.std.proofs.lemmas.Map.Steps.{length-le_from_distinct_below}
use Rattle.std.proofs.lemmas.List.Elements.{All-from_recursion}
use Rattle.esr_base.specs.declared.numbers.TxnId.{TxnId}
use Rattle.esr_history.specs.declared.event.Event.{Event}
use Rattle.esr_history.specs.declared.event.Event.TheVariants.{BeginUpdate, BeginQuery, Read, Write, Commit, Abort}
use Rattle.esr_history.specs.Events.{BeginRecord, begin_record, is_begun, is_query, is_update, is_committed, commits, begin_records}
use Rattle.esr_history.specs.Machine.{DistanceFunction, Schedule, accepted_in, IsLegal}
use Rattle.esr_history.specs.Operations.{commit_order}
use Rattle.esr_history.specs.WellFormed.{names}
use Rattle.esr_history.specs.Queries.{is_committed_query}
use Rattle.esr_history.specs.Serial.{committed_updates}
use Rattle.esr_history.proofs.Membership.{In, Pairs, Pairs-filter, In-of_filter, each_in, each_at, any-from_In, In-any, any-from_number, filter_agree_in}
use Rattle.esr_history.proofs.LegalWellFormed.{legal_orderly, begun_in_range}
use Rattle.esr_history.proofs.Locking.{commits_once}
use Rattle.esr_history.proofs.TraceOfHistory.{legal_reached}
use Rattle.esr_history.proofs.WithinRanges.{legal_begins}
use Rattle.esr_history.proofs.TraceAgreement.{committed_among}
use Rattle.esr_order.specs.Placements.{is_among}
use Rattle.esr_order.proofs.Commits.{mapped_filter}
use Rattle.esr_audit.specs.Findings.{committed_queries}

module _ (d : DistanceFunction) (h : Schedule) (legal : IsLegal d h) (ts : List TxnId) (are : map (λ (t : TxnId). t.0) ts ≡ commit_order (accepted_in h)) where
  -- each of them has committed and begun
  has_committed : (t : TxnId) → In t ts → is_committed (accepted_in h) t.0 ≡ true
  has_committed t i = committed_among (accepted_in h) t.0 ∙ ap (λ (ns : List ℕ). is_among ns t.0) (sym are) ∙ there ts i
    where
      there : (us : List TxnId) → In t us → is_among (map (λ (t : TxnId). t.0) us) t.0 ≡ true
      there [] i = absurd i
      there (u ∷ us) (inl e) = or_left (u.0 == t.0) (is_among (map (λ (t : TxnId). t.0) us) t.0) (eq-eqb u.0 t.0 (ap (λ (t : TxnId). t.0) e))
      there (u ∷ us) (inr i) = or_right (u.0 == t.0) (is_among (map (λ (t : TxnId). t.0) us) t.0) (there us i)

  has_begun : (t : TxnId) → In t ts → is_begun (accepted_in h) t.0 ≡ true
  has_begun t i = (legal_orderly d h legal).begun t.0 (named (accepted_in h) (has_committed t i))
    where
      one : (e : Event) → commits t.0 e ≡ true → names t.0 e ≡ true
      one (Commit u) e = e
      one (BeginUpdate l) e = absurd (cc)
      one (BeginQuery l s) e = absurd (cc)
      one (Read u x) e = absurd (cc)
      one (Write u x v) e = absurd (cc)
      one (Abort u) e = absurd (cc)

      named : (events : List Event) → list_any (commits t.0) events ≡ true → list_any (names t.0) events ≡ true
      named events e = let f = In-any (commits t.0) events e in any-from_In (names t.0) events f.0 f.1 (one f.0 f.2)

  pub queries_are : map (λ (t : TxnId). t.0) (filter (λ (t : TxnId). is_query (accepted_in h) t.0) ts) ≡ committed_queries h
  queries_are = mapped_filter (is_query (accepted_in h)) ts ∙ ap (filter (is_query (accepted_in h))) are

  pub updates_are : map (λ (t : TxnId). t.0) (filter (λ (t : TxnId). not (is_query (accepted_in h) t.0)) ts) ≡ committed_updates h
  updates_are =
      ap (map (λ (t : TxnId). t.0)) (filter_agree_in (λ (t : TxnId). not (is_query (accepted_in h) t.0)) (λ (t : TxnId). is_update (accepted_in h) t.0) ts (λ t i. either (begin_record (accepted_in h) t.0) (has_begun t i)))
      ∙ mapped_filter (is_update (accepted_in h)) ts
      ∙ ap (filter (is_update (accepted_in h))) are
    where
      either : (b : Option BeginRecord) → is_some b ≡ true → not (unwrap_or (option_map (λ c. c.query) b) false) ≡ unwrap_or (option_map (λ c. not c.query) b) false
      either None e = absurd (cc)
      either (Some b) e = refl

  pub queries_committed : All (λ (t : TxnId). IsTrue (is_committed_query h t.0)) (filter (λ (t : TxnId). is_query (accepted_in h) t.0) ts)
  queries_committed = All-from_recursion (λ (t : TxnId). IsTrue (is_committed_query h t.0)) (filter (λ (t : TxnId). is_query (accepted_in h) t.0) ts)
      (each_in (λ (t : TxnId). IsTrue (is_committed_query h t.0)) (filter (λ (t : TxnId). is_query (accepted_in h) t.0) ts) (λ t i.
      let both = In-of_filter (λ (t : TxnId). is_query (accepted_in h) t.0) ts t i in and_from (is_query (accepted_in h) t.0) (is_committed (accepted_in h) t.0) both.1 (has_committed t both.0)))

-- a query has begun
pub query_begun : (h : Schedule) (t : ℕ) → is_query (accepted_in h) t ≡ true → is_begun (accepted_in h) t ≡ true
query_begun h t is = at (begin_record (accepted_in h) t) is
  where
    at : (b : Option BeginRecord) → unwrap_or (option_map (λ c. c.query) b) false ≡ true → is_some b ≡ true
    at None e = absurd (cc)
    at (Some b) e = refl

distinct : (us : List ℕ) → Pairs (λ u v. u ≡ v → ⊥) us → IsDistinct eqb us
unfolding IsDistinct
distinct [] once = tt
distinct (u ∷ us) once = (each_in (λ v. eqb u v ≡ false) us (λ v i. ne_eqb u v (each_at (λ w. u ≡ w → ⊥) us v once.0 i)), distinct us once.1)

-- there are as many committed queries as begins at most
pub bounded_queries : (d : DistanceFunction) (h : Schedule) → IsLegal d h → length (committed_queries h) ≤ 65535
bounded_queries d h legal =
    let qs : List ℕ = committed_queries h in
    let begins : length (begin_records (accepted_in h)) ≤ 65535 = legal_begins d h legal in
    let none : AllByRecursion (λ q. 0 ≡ q → ⊥) qs = each_in (λ q. 0 ≡ q → ⊥) qs (λ q i e. let low : 1 ≤ q = (numbered q i).0 in omega (arith, low, e)) in
    let all : length (0 ∷ qs) ≤ 1 + length (begin_records (accepted_in h)) =
    length-le_from_distinct_below (0 ∷ qs) (1 + length (begin_records (accepted_in h))) (distinct (0 ∷ qs) (none, Pairs-filter (λ u v. u ≡ v → ⊥) (is_query (accepted_in h)) (commit_order (accepted_in h)) (commits_once (legal_reached d h legal))))
    (λ q some. let w = In-any (eqb q) (0 ∷ qs) some in subst (λ v. v < 1 + length (begin_records (accepted_in h))) (sym (eqb-true q w.0 w.2)) (elim w.1 [ inl zero_is ↦ low w.0 zero_is | inr i ↦ (numbered w.0 i).1 ])) in
    shorter qs (length (begin_records (accepted_in h))) all begins
  where
    numbered : (q : ℕ) → In q (committed_queries h) → (1 ≤ q) × (q < 1 + length (begin_records (accepted_in h)))
    numbered q i = begun_in_range (accepted_in h) q (query_begun h q (In-of_filter (is_query (accepted_in h)) (commit_order (accepted_in h)) q i).1)

    low : (v : ℕ) → 0 ≡ v → v < 1 + length (begin_records (accepted_in h))
    low v e = omega (arith, e)

    shorter : (us : List ℕ) (n : ℕ) → length (0 ∷ us) ≤ 1 + n → n ≤ 65535 → length us ≤ 65535
    shorter us n l m = omega arith

-- a transaction among the committed queries has committed
pub query_committed : (h : Schedule) (q : ℕ) → In q (committed_queries h) → is_committed (accepted_in h) q ≡ true
query_committed h q i = committed_among (accepted_in h) q ∙ any-from_number (commit_order (accepted_in h)) q (In-of_filter (is_query (accepted_in h)) (commit_order (accepted_in h)) q i).0
