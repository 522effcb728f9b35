use Rattle.std.proofs.Common.{◌≡◌, ◌∙◌, ◌<◌, List, IfOk, ℕ, ℤ, ap, flat_map, map, subst, sym, length, arith}
use Rattle.esr_items.specs.Values.{value_at, IsValue}
use Rattle.esr_items.specs.Weights.{weighted}
use Rattle.esr_base.specs.declared.numbers.TxnId.{TxnId}
use Rattle.esr_history.specs.Machine.{Schedule, value_distance}
use Rattle.esr_history.specs.Serial.{state}
use Rattle.esr_order.specs.Scans.{accesses_in}
use Rattle.esr_explain.specs.Explain.{compared_access, compared_read, compared_reads}
use Rattle.esr_outcomes.proofs.Accessed.{accesses_inside, accesses_valued}
use Rattle.esr_explain.proofs.Compared.{reads_agree, reads_are_within}
use Rattle.esr_explain.proofs.reads.compared_reads.Goals as goal

pub compare_all-requires-clause-accesses : goal.compare_all-requires-clause-accesses
compare_all-requires-clause-accesses c = grind (arith, accesses_valued)

pub compare_all-requires-clause-values : goal.compare_all-requires-clause-values
compare_all-requires-clause-values c = λ x. subst (λ (vs : List ℤ). IsValue (value_at vs x)) (sym c.deref-2.ensures.value) (c.in_ok-values.ensures.range x)

pub returns : goal.returns
returns c =
    let h = c.args.history.now.schedule in let q = c.args.q.0 in
    let us : List ℕ = map (λ (t : TxnId). t.0) c.args.before.now in
    let D : ℕ → ℤ → ℤ → ℕ = value_distance weighted h in
    let vs : List ℤ = c.in_ok-values.values.items in
    let left : (x : ℕ) → x < length h.opening → value_at vs x ≡ state h us x =
    subst (λ (s : Schedule). (x : ℕ) → x < length s.opening → value_at vs x ≡ state s us x) c.in_ok-auditor.ensures c.in_ok-values.ensures.values in
    let reads : flat_map (compared_access (weighted c.metric.result.now) (value_at c.deref-2.result.now)) c.deref.result.now ≡ compared_reads weighted h q us =
    ap (λ (w : List ℕ). flat_map (compared_access (weighted w) (value_at c.deref-2.result.now)) c.deref.result.now) c.metric.ensures
    ∙ (ap (λ (l : List ℤ). flat_map (compared_access D (value_at l)) c.deref.result.now) c.deref-2.ensures.value
    ∙ (ap (flat_map (compared_access D (value_at vs))) (c.deref.ensures.value ∙ c.in_ok-accesses.ensures)
    ∙ (reads_agree D (value_at vs) (state h us) (length h.opening) left (accesses_in h.entries q) (accesses_inside weighted h c.log-invariant.ensures.range c.log-invariant.ensures.legal q)
    ∙ reads_are_within h q (λ x v. compared_read D x v (state h us x.0))))) in
    subst (λ l. IfOk c.compare_all.result (λ v. v.items ≡ l)) reads c.compare_all.ensures
