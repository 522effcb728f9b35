-- The costs of the versions that the marked updates leave.
use Rattle.std.proofs.Common.{◌≡◌, ℕ, ℤ, ◌+◌, ◌<◌, Bool, true, false, List, length, filter, sym, ap, ◌∙◌, inl, inr, arith, take_all}
use Rattle.std.proofs.lemmas.Bool.{cases_Bool}
use Rattle.esr_history.specs.Events.{last_value}
use Rattle.esr_history.specs.Machine.{DistanceFunction, Schedule, IsLegal}
use Rattle.esr_history.specs.Serial.{state}
use Rattle.esr_history.specs.Queries.{updates_committed_before, members}
use Rattle.esr_order.specs.declared.accesses.Access.{Access}
use Rattle.esr_order.specs.Chains.{nth}
use Rattle.esr_order.specs.Scans.{accesses_in}
use Rattle.esr_bound.specs.Amounts.{mark_at, among_marked, left_by, left_by_all}
use Rattle.esr_bound.proofs.LowerBound.{left_with, left_without, left_all}
use Rattle.esr_stream.specs.Passes.{ItemState, state_at, written_in, IsPrefixMarked, IsUpdateApplied}
use Rattle.esr_stream.proofs.MarkLaws.{mark_is, position_marked}
use Rattle.esr_stream.proofs.StepLaws.{written_is}

module _ (d : DistanceFunction) (h : Schedule) (q : ℕ) (legal : IsLegal d h) (marks : List Bool) where
  pub cost_more : (C : ℕ → ℤ → ℕ) (k x : ℕ) (old new : List ItemState) (row : List Access) (marked : Bool) → k < length (updates_committed_before h q) → row ≡ accesses_in h.entries (nth (updates_committed_before h q) k) → marked ≡ mark_at marks k → x < length old
      → (marked ≡ true → (proposed : ℕ → ℕ) × (before : ℕ) × (after : ℕ) × IsUpdateApplied C true proposed row old new before after) → (marked ≡ false → new ≡ old)
      → (state_at old x).cost ≡ C x (left_by h q (among_marked (updates_committed_before h q) marks) k x) → (state_at new x).cost ≡ C x (left_by h q (among_marked (updates_committed_before h q) marks) (k + 1) x)
  cost_more C k x old new row marked inside is_row is known member other so_far = elim (cases_Bool marked) [
    | inl m ↦
        let put = member m in
        put.3.cost x (left_by h q (among_marked (updates_committed_before h q) marks) k x) known so_far
        ∙ ap (λ vs. C x (last_value (left_by h q (among_marked (updates_committed_before h q) marks) k x) vs)) (ap (written_in x) is_row ∙ written_is h x (nth (updates_committed_before h q) k))
        ∙ ap (C x) (sym (left_with h q (among_marked (updates_committed_before h q) marks) k x inside (mark_is d h q legal marks k inside ∙ sym is ∙ m)))
    | inr n ↦
        ap (λ (l : List ItemState). (state_at l x).cost) (other n)
        ∙ so_far
        ∙ ap (C x) (sym (left_without h q (among_marked (updates_committed_before h q) marks) k x inside (mark_is d h q legal marks k inside ∙ sym is ∙ n)))
  ]

  -- if the first k updates are members, the members among them leave what all of them leave
  pub cost_start : (C : ℕ → ℤ → ℕ) (k x : ℕ) → IsPrefixMarked k marks → C x (left_by_all h q k x) ≡ C x (left_by h q (among_marked (updates_committed_before h q) marks) k x)
  cost_start C k x firsts = ap (C x) (sym (left_all h q (among_marked (updates_committed_before h q) marks) k x (λ i l m w. position_marked d h q legal marks i m (firsts i l))))

  pub at_end : (k x : ℕ) → k ≡ length (updates_committed_before h q) → left_by h q (among_marked (updates_committed_before h q) marks) k x ≡ state h (members h q (among_marked (updates_committed_before h q) marks)) x
  at_end k x e = ap (λ us. state h (filter (among_marked (updates_committed_before h q) marks) us) x) (take_all k (updates_committed_before h q) (omega (arith, e)))
