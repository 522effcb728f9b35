-- The problem built for a query equals the problem specified from its update order, and is well formed.
use Rattle.std.proofs.Common.{◌≡◌, ◌≤◌, ◌^◌, ◌*◌, ℕ, ℤ, suc, true, List, length, map, filter, take, sym, ap, ◌∙◌, subst, All, IsTrue}
use Rattle.std.specs.List.{range_with_len}
use Rattle.std.proofs.lemmas.List.Elements.{All-from_recursion}
use Rattle.esr_items.specs.Values.{IsValue}
use Rattle.esr_base.specs.declared.numbers.TxnId.{TxnId}
use Rattle.esr_history.specs.Machine.{DistanceFunction, Schedule, accepted_in, value_distance, IsLegal}
use Rattle.esr_history.specs.Events.{is_query}
use Rattle.esr_history.specs.Serial.{state}
use Rattle.esr_history.specs.Queries.{reads_by}
use Rattle.esr_history.proofs.WithinRanges.{legal_within_ranges}
use Rattle.esr_order.specs.Orders.{ConflictOrder, IsConflictOrderOn, chain_at}
use Rattle.esr_order.specs.Relevant.{AreRelevant, has_written}
use Rattle.esr_cert.specs.declared.problem.Chain.{Chain}
use Rattle.esr_cert.specs.Views.{chain_view, problem_of}
use Rattle.esr_cert.specs.Problem.{Problem, is_well_formed}
use Rattle.esr_audit.specs.Reads.{chain_of_item, items_in, version_values, item_read_of, ItemRead}
use Rattle.esr_audit.proofs.Versions.{versions_are}
use Rattle.esr_audit.proofs.ProblemOfOrder.{problem_of_order}
use Rattle.esr_audit.proofs.ProblemRanges.{state_in_range, gathered_problem_is_well_formed, each_mapped}
use Rattle.esr_audit.proofs.ItemReads as reads

module _ (d : DistanceFunction) (h : Schedule) (q : ℕ) (legal : IsLegal d h) (opening_values_in_range : All IsValue h.opening) where
  pub item_reads_at_most_max : (rs : List ItemRead) → rs ≡ map item_read_of (reads_by h q) → IsTrue (is_query (accepted_in h) q) → length rs ≤ 1000
  item_reads_at_most_max rs are query = subst (λ (rs : List ItemRead). length rs ≤ 1000) (sym are) (reads.item_reads_at_most_max h q (legal_within_ranges d h opening_values_in_range legal) opening_values_in_range query)

  pub item_reads_in_range : (rs : List ItemRead) → rs ≡ map item_read_of (reads_by h q) → All (λ (r : ItemRead). IsValue r.value) rs
  item_reads_in_range rs are = subst (All (λ (r : ItemRead). IsValue r.value)) (sym are) (reads.item_reads_in_range h q (legal_within_ranges d h opening_values_in_range legal) opening_values_in_range)

  module _ (us : List ℕ) (relevant : AreRelevant h q us) (o : ConflictOrder) (is_order : IsConflictOrderOn h q us o) where
    pub versions_in_range : (x : ℕ) → All IsValue (version_values (chain_at o x))
    versions_in_range x =
        subst (All IsValue) (sym (versions_are h us o x (is_order.chains x)))
        (All-from_recursion IsValue _ (each_mapped IsValue (λ j. state h (take (suc j) (filter (has_written h x) us)) x) (range_with_len 0 (length (filter (has_written h x) us))) (λ j. state_in_range h (legal_within_ranges d h opening_values_in_range legal) opening_values_in_range (take (suc j) (filter (has_written h x) us)) x)))

    pub built_problem_equals_specified : (rs : List ItemRead) → rs ≡ map item_read_of (reads_by h q) → (ts : List TxnId) (before : List (ℕ × ℕ)) (chains : List Chain) (must : List ℕ)
        → ts ≡ o.commits → before ≡ o.before → must ≡ o.must → map chain_view chains ≡ map (chain_of_item (value_distance d h) h.opening o rs) (items_in rs (length h.opening))
        → problem_of ts before chains must ≡ problem_of_order d h q o
    built_problem_equals_specified rs are ts before chains must a b c e =
        let parts : map chain_view chains ≡ (problem_of_order d h q o).chains = e ∙ ap (λ (rs : List ItemRead). map (chain_of_item (value_distance d h) h.opening o rs) (items_in rs (length h.opening))) are in
        let A : List TxnId → Problem = λ ts. record { updates = map (λ (t : TxnId). t.0) ts; before = before; chains = map chain_view chains; must = must } in
        let B : List (ℕ × ℕ) → Problem = λ before. record { updates = map (λ (t : TxnId). t.0) o.commits; before = before; chains = map chain_view chains; must = must } in
        let C : List ℕ → Problem = λ must. record { updates = map (λ (t : TxnId). t.0) o.commits; before = o.before; chains = map chain_view chains; must = must } in
        let E : List _ → Problem = λ cs. record { updates = map (λ (t : TxnId). t.0) o.commits; before = o.before; chains = cs; must = o.must } in
        ap A a ∙ ap B b ∙ ap C c ∙ ap E parts

    pub problem_is_well_formed : length h.opening ≤ 4096 → IsTrue (is_query (accepted_in h) q) → ((w : List ℕ) (x : ℕ) (a b : ℤ) → IsValue a → IsValue b → d w x a b ≤ 2 * 10 ^ 15) → is_well_formed (problem_of_order d h q o) ≡ true
    problem_is_well_formed count_within_max query bounded = gathered_problem_is_well_formed d h q (legal_within_ranges d h opening_values_in_range legal) opening_values_in_range bounded legal us relevant o is_order count_within_max query
